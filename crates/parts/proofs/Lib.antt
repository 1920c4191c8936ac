pub mod ChunkLemmas
pub mod LaterEntries
pub mod PieceLemmas
pub mod PartLemmas
pub mod WholeRows
pub mod LeftLemmas
