-- The definitions of text: words and numbers as the lines of 01, "Trace, mark DLT", write them, and bytes put into an output.
pub mod Bytes
pub mod Decimal
pub mod Put
