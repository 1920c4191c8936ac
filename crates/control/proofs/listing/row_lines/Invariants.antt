use Rattle.std.proofs.Common.{◌≡◌, ◌++◌, drop, string_bytes}
use Rattle.std.specs.Prelude.{option_map}
use Rattle.serde_json.specs.View.{items_view}
use Rattle.control.specs.Listing.{row_lines}
use Rattle.control.proofs.listing.row_lines.Given as goal

-- the lines so far and those that are left are all lines
abbrev pub invariant-loop-row : goal.invariant-loop-row
invariant-loop-row l =
    option_map (λ more. string_bytes l.lines ++ more) (row_lines (items_view (drop l.row-index l.rows)))
    ≡ row_lines (items_view l.rows)
