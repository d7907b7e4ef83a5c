-- The definitions of the window, in the order of 01, "Window".
pub mod Window
pub mod Push
pub mod Show
pub mod Ready
