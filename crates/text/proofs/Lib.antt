-- The laws of text; `Steps` is for the code of this crate.
pub mod Determined
pub mod Numerals
pub mod Puts
pub mod Steps
pub mod Examples
