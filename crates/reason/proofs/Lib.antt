-- Laws of the reasons: `Steps` is for the code of this crate.
pub mod Steps
pub mod Agree
pub mod Examples
