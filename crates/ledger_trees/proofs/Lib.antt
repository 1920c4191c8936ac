mod EffectLemmas
mod FileLemmas
mod FindLemmas
mod FitLemmas
mod NextLemmas
mod PutLemmas
mod RowLemmas
mod TwoCallLemmas
