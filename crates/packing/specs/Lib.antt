-- The definitions of a head as words: `Words` for one value, `Packed` for a head, `Holds` for what a head is by its types, `Puts` for how the code writes it,
-- `Tally` for the counters.
pub mod Holds
pub mod Packed
pub mod Puts
pub mod Tally
pub mod Words
