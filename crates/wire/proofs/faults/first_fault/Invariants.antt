use Rattle.std.proofs.Common.{◌≡◌, drop}
use Rattle.wire.specs.Misfits.{first_bad}
use Rattle.wire.specs.Trees.{items_data}
use Rattle.wire.proofs.faults.first_fault.Given as goal

-- the first bad item of those that are left is the first of all
abbrev pub invariant-loop-place : goal.invariant-loop-place
invariant-loop-place g l =
    first_bad g.I.Item.means l.place (items_data (drop l.place l.items))
    ≡ first_bad g.I.Item.means 0 (items_data l.items)
