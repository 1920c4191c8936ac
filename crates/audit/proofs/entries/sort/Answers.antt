use Rattle.std.proofs.Common.{rules}
use Rattle.std.proofs.lemmas.List.Sorted.{answers_always}
use Rattle.audit.specs.declared.entries.EntryPlace.{EntryPlace}
use Rattle.audit.proofs.entries.sort.Goals as goal

pub returns-clause-sorted : goal.returns-clause-sorted
returns-clause-sorted c = c.sort_unstable_by_key.ensures.sorted (λ (place : EntryPlace). place.time) (answers_always _ _ _ (λ f a r f' q. search rules))
