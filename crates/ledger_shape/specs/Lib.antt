pub mod Forms
pub mod Starts
pub mod Strangers
