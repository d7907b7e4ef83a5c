-- The definitions of the lines of the trace: 01, "Trace, mark DLT".
pub mod Lines
