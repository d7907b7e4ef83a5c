-- The definition of one step.
pub mod Step
