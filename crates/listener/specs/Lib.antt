pub mod GivenLimits
pub mod Listening
pub mod Moments
pub mod Tally
