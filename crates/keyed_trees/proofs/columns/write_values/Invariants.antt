use Rattle.std.proofs.Common.{◌≡◌, ◌++◌, map, take}
use Rattle.sqlite_value.specs.Value.{owned}
use Rattle.keyed_trees.proofs.columns.write_values.Given as goal

abbrev pub invariant-loop-value : goal.invariant-loop-value
invariant-loop-value l = l.row ≡ l.fn.row ++ map owned (take l.value-index l.values)
