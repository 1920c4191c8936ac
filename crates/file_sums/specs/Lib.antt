pub mod Bytes
pub mod Records
pub mod Openings
pub mod Sums
