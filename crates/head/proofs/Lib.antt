-- The laws of the head and of the refusals.
pub mod Examples
pub mod Gates
pub mod Heads
pub mod Ready
