-- The laws of the calls with counters.
pub mod Layers
pub mod Determined
