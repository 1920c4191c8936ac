use Rattle.std.proofs.Common.{map, subst, IsPermutation}
use Rattle.std.proofs.lemmas.List.Sorted.{IsPermutation-map}
use Rattle.ledger_spans.specs.Listing.{entry_of}
use Rattle.ledger_spans.proofs.tenants.sorted_rows.Goals as goal

pub returns-clause-all : goal.returns-clause-all
returns-clause-all c =
    let new = c.sort_by_number.new.rows.items in
    subst (λ xs. IsPermutation xs (map entry_of new)) c.in_ok-rows.ensures (IsPermutation-map entry_of c.in_ok-rows.rows.items new c.sort_by_number.ensures.same)
