-- The table holds, and so do the ends of the ranges.
pub mod Computed
pub mod Ends
