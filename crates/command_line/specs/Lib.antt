pub mod Built
pub mod Ledgerd
pub mod Line
pub mod Values
pub mod Version
pub mod Refusal
