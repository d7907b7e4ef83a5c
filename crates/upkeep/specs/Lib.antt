-- The definitions of drop request, clear, room and show, and of what 01 writes for each answer.
pub mod Paper
pub mod Request
pub mod Show
