-- The definitions of the clock, in the order of 01, "Clock"; then the release time, of "Window", and the ranges, of "Head and lent areas".
pub mod Base
pub mod Root
pub mod Samples
pub mod Sync
pub mod Release
pub mod Ranges
pub mod Ready
