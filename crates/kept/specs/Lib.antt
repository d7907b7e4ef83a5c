-- The heads of all runs from new.
pub mod Runs
