-- The definitions of an answer's cells.
pub mod Cells
