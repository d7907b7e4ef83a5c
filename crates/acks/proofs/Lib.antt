-- The laws of the ACKs and the round trip. The crates above cite the `Kept` files; the `Steps` files are for the code of this crate.
pub mod Determined
pub mod HistorySteps
pub mod HistoryKept
pub mod RttSteps
pub mod RttKept
pub mod Examples
