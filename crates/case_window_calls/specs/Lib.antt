-- The definitions of the range tests before a call, and what they show.
pub mod Tests
pub mod Ready
