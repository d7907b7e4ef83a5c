-- What the answers on paper determine, and which can occur.
pub mod Determined
pub mod Injective
pub mod Reach
pub mod Refuses
