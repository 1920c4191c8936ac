use Rattle.std.proofs.Common.{◌≡◌, ◌++◌, string_bytes}
use Rattle.std.specs.Prelude.{option_map}
use Rattle.serde_json.specs.View.{members_view}
use Rattle.control.specs.Counting.{lines_in}
use Rattle.control.proofs.counting.lines_in.Given as goal

-- the lines so far and those that are left are all lines
abbrev pub invariant-loop-name : goal.invariant-loop-name
invariant-loop-name l =
    (goal.iterator-loop-name).can_next l.name-iterator
    × (goal.iterator-loop-name).is_finite l.name-iterator
    × (option_map (λ more. string_bytes l.lines ++ more) (lines_in l.form (members_view l.name-iterator))
    ≡ lines_in l.form (members_view l.fn.counts.entries))
