-- Each call with its counters.
pub mod Calls
