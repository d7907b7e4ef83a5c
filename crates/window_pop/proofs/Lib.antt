-- The laws of pop: for its loops and returns, and (`PopLaws`) for the layers above.
pub mod Determined
pub mod Runs
pub mod Fills
pub mod Lates
pub mod Pops
pub mod PopLaws
