-- The trace: what a whole file gives, what one turn gives of the bytes at hand, and what a program's turns give
-- together, and what it lends.
pub mod Trace
pub mod Turn
pub mod Ready
pub mod Loop
pub mod Lends
