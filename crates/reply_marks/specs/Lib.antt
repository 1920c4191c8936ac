pub mod Latest
pub mod Replies
pub mod Marking
