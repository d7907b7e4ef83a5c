-- The definitions of a line's shape: 01, "Trace, mark DLT".
pub mod Shapes
pub mod Inner
pub mod Ready
