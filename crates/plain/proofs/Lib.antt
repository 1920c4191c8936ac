mod AscendingIds
mod NewTenant
mod Tenants
mod BatchLemmas
mod EntryRows
mod KeptLists
mod PrefixSums
mod Rekeyed
