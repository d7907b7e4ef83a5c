-- The definitions of the rates, in the order of 01, "ACKs, RTT, rates".
pub mod Median
pub mod Rates
pub mod Inner
