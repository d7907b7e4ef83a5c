-- The counters of a replay and their line.
pub mod Tally
