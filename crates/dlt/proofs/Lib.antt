-- The laws of the trace's reading; `Numbers` and `Steps` are for the code of this crate.
pub mod Numbers
pub mod Steps
pub mod Laws
pub mod Examples
