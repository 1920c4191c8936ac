pub mod Texts
pub mod BatchGives
mod ShownReads
mod Readings
pub mod BegunLemmas
pub mod CallLemmas
mod StatementLemmas
mod FinishLemmas
pub mod ServedReads
pub mod Responses
pub mod Isolation
pub mod ConnectionRuns
pub mod OwnDeedLemmas
pub mod ConnectionEventsLemmas
pub mod FindingLemmas
pub mod RetryLemmas
mod MovingLemmas
mod AttendingLemmas
mod TurnLemmas
