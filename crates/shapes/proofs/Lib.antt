-- The laws of shapes; each of these is for the code of this crate.
pub mod Determined
pub mod Parts
pub mod Tails
pub mod Wholes
