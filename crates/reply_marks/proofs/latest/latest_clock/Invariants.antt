use Rattle.std.proofs.Common.{◌≡◌, drop}
use Rattle.reply_marks.specs.Latest.{latest_of, latest_clock}
use Rattle.reply_marks.proofs.latest.latest_clock.Given as goal

-- what is left leads to the latest of all
abbrev pub invariant-loop-tenant : goal.invariant-loop-tenant
invariant-loop-tenant l =
    latest_of l.latest (drop l.tenant-index l.rows.tenants.items) ≡ latest_clock l.rows
