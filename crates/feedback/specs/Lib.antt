-- The definitions of loss report, ACKs and clock call, and of what 01 writes for each answer.
pub mod Acking
pub mod Loss
pub mod Paper
pub mod Ready
pub mod Stays
pub mod Sync
