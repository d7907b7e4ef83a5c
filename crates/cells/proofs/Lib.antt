-- The laws of cells: `Numbers` and `Answers` are for the code of this crate; `Injective` says what the cells determine.
pub mod Numbers
pub mod Answers
pub mod Injective
pub mod Examples
