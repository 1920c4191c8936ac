pub mod OutboxLemmas
pub mod ExchangeLemmas
pub mod ClientLemmas
pub mod EventLemmas
pub mod TurnLemmas
pub mod DeedLemmas
pub mod WritingLemmas
pub mod SeenLemmas
