pub mod Talk
pub mod Answering
pub mod Calls
pub mod Turns
pub mod Deeds
pub mod Within
