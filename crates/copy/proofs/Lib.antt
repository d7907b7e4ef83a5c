-- The laws of the copy loop.
pub mod Copies
