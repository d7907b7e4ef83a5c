-- The laws of the window: for its loops and returns (`search` is handed these), and a worked example.
pub mod Determined
pub mod Ranges
pub mod Walks
pub mod Pushes
pub mod Shows
pub mod Examples
