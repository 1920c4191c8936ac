use Rattle.std.proofs.Common.{◌≡◌, ◌<◌, ◌^◌, map, take}
use Rattle.std.specs.List.{All}
use Rattle.amount.specs.Column.{column_of}
use Rattle.audit.proofs.told.ids.Given as goal

abbrev pub invariant-loop-column : goal.invariant-loop-column
invariant-loop-column l = All (λ id. id < 2 ^ 128) l.ids.items × (map column_of l.ids.items ≡ take l.column-index l.columns)
