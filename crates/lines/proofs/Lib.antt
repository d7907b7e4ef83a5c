-- The laws of lines: `Answers` is for the code of this crate.
pub mod Answers
pub mod Examples
