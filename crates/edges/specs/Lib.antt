-- The table of 01, "Both sides of the edge".
pub mod Table
