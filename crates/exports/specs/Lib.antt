-- The definitions of the calls on words.
pub mod Calls
pub mod Causes
