mod LineLemmas
pub mod WorkedDates
