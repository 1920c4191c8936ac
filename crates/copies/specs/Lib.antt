pub mod CopyNames
pub mod Faults
pub mod Places
pub mod Whole
