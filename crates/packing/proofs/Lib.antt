-- The laws of a head as words. The crates above cite `Undo`; `Floats`, `Steps`, `Says` and `Puts` are for the code of this crate.
pub mod Examples
pub mod Floats
pub mod Puts
pub mod Says
pub mod Steps
pub mod Undo
