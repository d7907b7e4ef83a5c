-- The laws of numbers. The crates above cite these and unfold no definition; `Steps` is for the code of this crate.
pub mod Determined
pub mod Flags
pub mod Halves
pub mod Circle
pub mod Signs
pub mod Places
pub mod Both
pub mod Steps
