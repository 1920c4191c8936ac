pub mod Samples
pub mod WorkedExamples
pub mod WorkedChains
pub mod WorkedFailedIds
pub mod WorkedReads
pub mod WorkedQueries
pub mod WorkedEntries
