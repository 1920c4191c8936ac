use Rattle.std.proofs.Common.{◌≡◌, drop}
use Rattle.reply_marks.specs.Latest.{latest_in}
use Rattle.reply_marks.proofs.latest.latest_with.Given as goal

-- what is left leads to the latest of all
abbrev pub invariant-loop-clock : goal.invariant-loop-clock
invariant-loop-clock l =
    latest_in l.latest (drop l.clock-index l.tenant.rows.clocks.items)
    ≡ latest_in l.fn.clock l.tenant.rows.clocks.items
