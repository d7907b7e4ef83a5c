-- The laws of the lent areas. The crates above cite `Laws` and open neither words nor ring; `Steps` is for the code of this crate.
pub mod Laws
pub mod Steps
