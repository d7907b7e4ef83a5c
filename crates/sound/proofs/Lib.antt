-- The laws of the test of a head's words: its parts, and the quick test that suffices.
pub mod Sounds
pub mod Quick
