-- Laws for the code of the replay.
pub mod Sames
pub mod Turns
