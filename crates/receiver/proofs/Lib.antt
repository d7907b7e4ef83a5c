-- The laws of a packet's call and of a pop.
pub mod Answers
pub mod Datas
pub mod Messages
pub mod Stays
