-- A collector's calls are a run.
pub mod Collects
pub mod RuledOut
