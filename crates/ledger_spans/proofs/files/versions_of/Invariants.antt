use Rattle.std.proofs.Common.{◌≡◌, map, take}
use Rattle.ledger_spans.proofs.files.versions_of.Given as goal

abbrev pub invariant-loop-row : goal.invariant-loop-row
invariant-loop-row l = l.versions.items ≡ map (λ row. row.1.version) (take l.row-index l.rows)
