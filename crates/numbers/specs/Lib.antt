-- The definitions of the numbers, laid out as 01, "Numbers".
pub mod Circular
pub mod Ring
pub mod Order
pub mod Instants
