-- Laws of the step function.
pub mod Determined
pub mod Left
