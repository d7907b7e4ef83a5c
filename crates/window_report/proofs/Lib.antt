-- The laws of the loss report and the drop request: for loops and returns, for the layers above, and worked examples.
pub mod Determined
pub mod DropLaws
pub mod Drops
pub mod DropExamples
pub mod ReportLaws
pub mod Reports
pub mod ReportExamples
