mod ServingLemmas
mod ChangeLemmas
pub mod PieceLemmas
mod OrderLemmas
mod BehindLemmas
mod SettleLemmas
mod SettledLemmas
mod InTimeLemmas
mod CourseTimes
pub mod RenewLemmas
mod HeldLemmas
mod OpeningLemmas
mod UndoneLemmas
mod WholeLemmas
mod WholeStatements
mod ReadBack
mod PartLemmas
