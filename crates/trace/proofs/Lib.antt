-- Laws of the trace: `Steps` is for the code of this crate.
pub mod Determined
pub mod Laws
pub mod Pieces
pub mod Steps
