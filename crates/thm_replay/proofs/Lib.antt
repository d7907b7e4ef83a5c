-- A replay is a run.
pub mod Enough
pub mod Replays
pub mod Examples
