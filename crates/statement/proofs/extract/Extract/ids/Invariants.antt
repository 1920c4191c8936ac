use Rattle.std.proofs.Common.{◌≡◌, ◌++◌, drop, map}
use Rattle.statement.specs.Extract.{kept_of}
use Rattle.statement.proofs.extract.Extract.ids.Given as goal

-- the ids so far and those of the rows that are left are the ids of all
abbrev pub invariant-loop-row : goal.invariant-loop-row
invariant-loop-row l = l.ids.items ++ map (λ row. row.transfer_id) (drop l.row-index l.row-items) ≡ map (λ row. row.transfer_id) (kept_of l.fn.self)
