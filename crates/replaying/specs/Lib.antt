-- Numbers of bytes, what the steps of the loop that reads do, and when two words are the same.
pub mod Counts
pub mod Reads
pub mod Same
