-- What each operation of the window does to the list of entries.
pub mod Lists
pub mod Gaps
pub mod Pushes
pub mod PushKeeps
pub mod PushLrsn
pub mod Pops
pub mod Marks
