-- The laws of loss report, ACKs and clock call.
pub mod Ackings
pub mod Answers
pub mod Losses
pub mod Stays
pub mod Syncs
