pub mod Seals
pub mod Records
