-- The definitions of the trace's reading, laid out as 01, "Trace, mark DLT".
pub mod Bytes
pub mod Header
pub mod Record
