use Rattle.std.proofs.Common.{◌≡◌, map, take}
use Rattle.ledger_spans.proofs.by_id.ids_of.Given as goal

abbrev pub invariant-loop-row : goal.invariant-loop-row
invariant-loop-row l = l.ids.items ≡ map (λ row. row.id) (take l.row-index l.failed)
