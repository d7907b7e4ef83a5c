-- The definitions of the test of a head's words.
pub mod Sound
