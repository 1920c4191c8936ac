mod DeedLemmas
mod FindsLemmas
mod MemoryLemmas
mod NamedRows
mod ReadLemmas
mod ReopenLemmas
mod OverdueLemmas
