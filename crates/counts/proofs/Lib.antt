-- The laws of the counters.
pub mod Determined
pub mod Rises
pub mod Examples
