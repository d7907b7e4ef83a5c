-- A collector, its calls, and what is shown of it.
pub mod Collector
