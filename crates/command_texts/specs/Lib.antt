pub mod Answered
pub mod BodyLines
pub mod Dates
pub mod Faults
pub mod Lines
pub mod Linting
pub mod Words
