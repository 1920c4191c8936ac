pub mod Holds
pub mod Running
pub mod Releasing
pub mod Entries
pub mod Refused
pub mod History
pub mod Applied
