-- The laws that the proofs of this crate hand to `search`.
pub mod Steps
