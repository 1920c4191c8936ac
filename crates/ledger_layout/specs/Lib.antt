pub mod Causes
pub mod FileRows
pub mod Keys
pub mod Tables
