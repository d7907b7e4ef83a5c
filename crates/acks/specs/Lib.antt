-- The definitions of the ACKs and the round trip, in the order of 01, "ACKs, RTT, rates".
pub mod History
pub mod Rtt
pub mod Ready
