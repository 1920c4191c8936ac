mod FitLemmas
mod LedgerLemmas
mod PlainLemmas
mod StartLemmas
