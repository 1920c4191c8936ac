pub mod KeyText
pub mod NameText
pub mod Padded
