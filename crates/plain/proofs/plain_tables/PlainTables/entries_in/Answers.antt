use Rattle.plain.proofs.PrefixSums.{prefix_fits}
use Rattle.plain.proofs.plain_tables.PlainTables.entries_in.Goals as goal

pub account_rows-requires : goal.account_rows-requires
account_rows-requires c =
    rw c.deref.ensures.value
    (λ place entry within is. prefix_fits c.sums_fit.ensures _ c.self.invariant.now place entry
    c.args.account within is)
