mod FaultLemmas
mod FillLemmas
mod OlderLemmas
mod UpgradeLemmas
mod LedgerLemmas
mod ToldLemmas
mod CaseLemmas
