mod Overwrites
mod WholeLemmas
