use Rattle.std.proofs.Common.{◌≡◌, ◌++◌, drop}
use Rattle.std.specs.Prelude.{option_map}
use Rattle.serde_json.specs.View.{items_view}
use Rattle.control.specs.Entries.{entries_of}
use Rattle.control.proofs.entries.entries_of.Given as goal

-- the entries so far and those that are left are all entries
abbrev pub invariant-loop-row : goal.invariant-loop-row
invariant-loop-row l =
    option_map (λ more. l.entries.items ++ more) (entries_of (items_view (drop l.row-index l.rows)))
    ≡ entries_of (items_view l.rows)
