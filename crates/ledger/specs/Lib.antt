-- The ledger: what it is, what a run is, and what is claimed.
pub mod Seen
pub mod Ledger
pub mod Runs
pub mod Claims
