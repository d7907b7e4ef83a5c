-- The definitions of the lent areas: 01, "Head and lent areas", an entry's words and then where it lies.
pub mod Words
pub mod Ring
pub mod Inner
pub mod Ready
