-- The counters, and what each answer raises.
pub mod Counts
