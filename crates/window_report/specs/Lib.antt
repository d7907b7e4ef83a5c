-- The definitions of the loss report and the drop request.
pub mod Drop
pub mod Report
pub mod Inner
