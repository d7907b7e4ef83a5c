-- The calls of a file, and what a replay of it is to be.
pub mod Short
pub mod Replay
