pub mod Answer
pub mod Response
pub mod SampleBook
