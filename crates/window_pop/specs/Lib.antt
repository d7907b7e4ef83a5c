-- The definitions of pop.
pub mod Pop
pub mod Inner
pub mod Ready
