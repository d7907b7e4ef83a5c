-- The definitions of calls on a head's words: `Calls` says what each leaves, and is what a reader must believe; `Clear`, `Pops` and `Pushes` say how
-- the code goes.
pub mod Clear
pub mod Calls
pub mod Pops
pub mod Pushes
