-- The definitions of why a file is bad.
pub mod Reason
