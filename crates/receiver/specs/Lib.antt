-- The definitions of a packet's call and of a pop, and of what 01 writes for each answer.
pub mod Data
pub mod Message
pub mod Paper
pub mod Stays
