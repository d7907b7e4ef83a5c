-- No run from new is ever refused 1: new gives a head in range, and each call keeps it there.
pub mod DataKept
pub mod Parts
pub mod Runs
pub mod Says
pub mod TimedKept
