-- What the theorems on the receiver's lines speak of.
pub mod Reach
pub mod Refuses
