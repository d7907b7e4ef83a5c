-- The numbers that a loss report names.
pub mod Named
