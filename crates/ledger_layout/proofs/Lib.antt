pub mod FrameLemmas
pub mod KeyLemmas
