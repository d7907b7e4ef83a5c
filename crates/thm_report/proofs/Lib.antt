-- The numbers that a report names are those of the due entries; worked examples.
pub mod Names
pub mod Examples
