use Rattle.std.proofs.Common.{◌≡◌, pos, map, take}
use Rattle.audit.proofs.told.times_of_transfers.Given as goal

abbrev pub invariant-loop-row : goal.invariant-loop-row
invariant-loop-row l = map pos l.times.items ≡ map (λ row. row.timestamp) (take l.row-index l.rows)
