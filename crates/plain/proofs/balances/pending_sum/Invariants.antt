use Rattle.std.proofs.Common.{◌≡◌, take}
use Rattle.std.specs.List.{sum_by}
use Rattle.records.specs.Balances.{amount_on, pending_amount}
use Rattle.plain.proofs.balances.pending_sum.Given as goal

abbrev pub invariant-loop-entry : goal.invariant-loop-entry
invariant-loop-entry l =
    l.total ≡ sum_by (amount_on l.side l.account (pending_amount l.transfers l.clock))
    (take l.entry-index l.transfers)
