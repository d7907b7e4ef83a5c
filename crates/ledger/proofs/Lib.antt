-- The proofs of the claims.
pub mod Examples
pub mod Form
pub mod Places
pub mod Owned
pub mod Moves
pub mod Moved
pub mod Data
pub mod Pop
pub mod Dropped
pub mod Others
pub mod Judged
pub mod Knows
pub mod Refusals
pub mod Shown
pub mod Theorem
pub mod RuledOut
pub mod Bent
