pub mod Chunks
pub mod Pieces
pub mod Parts
