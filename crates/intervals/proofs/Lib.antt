-- The laws of the rates. The crates above cite `RateKept`, `Windows` and `Turned`; the `Steps` files and `Sorted` are for the code of this crate.
pub mod Sorted
pub mod MedianSteps
pub mod Windows
pub mod RateSteps
pub mod RateKept
pub mod Turned
pub mod Examples
