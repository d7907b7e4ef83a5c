-- The laws of drop request, clear, room and show.
pub mod Answers
pub mod Requests
pub mod Shows
