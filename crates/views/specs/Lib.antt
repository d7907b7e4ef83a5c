-- The window's entries as a list.
pub mod Lists
pub mod View
