mod FoundLemmas
mod ListLemmas
mod OwnLemmas
mod ReadLemmas
