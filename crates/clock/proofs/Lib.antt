-- The laws of the clock. The crates above cite `Ranges`, `Laws` and `Kept`; `Adjusting` and `Steps` are for the code of this crate.
pub mod Roots
pub mod Ranges
pub mod Adjusting
pub mod Steps
pub mod Laws
pub mod Kept
pub mod Examples
