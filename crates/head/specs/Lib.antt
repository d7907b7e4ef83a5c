-- The definitions of the head, of the refusals and of an answer on paper: the refusals as lists first, since making a head is refused by one.
pub mod Rules
pub mod Head
pub mod Parts
pub mod Ready
pub mod Paper
