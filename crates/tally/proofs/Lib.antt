-- The laws of tally: `Laws` is for the code of this crate.
pub mod Determined
pub mod Laws
pub mod Examples
