pub mod Asking
pub mod Extracts
pub mod GivenKeys
pub mod Served
pub mod Statements
