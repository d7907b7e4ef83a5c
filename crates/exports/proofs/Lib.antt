-- The laws of the calls on words: `Boundary` is for the code, `Causes`, `Determined` and `Refused` say what a caller has of the calls.
pub mod Boundary
pub mod Causes
pub mod Determined
pub mod Examples
pub mod Refused
