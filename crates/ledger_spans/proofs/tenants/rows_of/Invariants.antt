use Rattle.std.proofs.Common.{◌≡◌, map}
use Rattle.ledger_spans.specs.Listing.{entry_of}
use Rattle.ledger_spans.proofs.tenants.rows_of.Given as goal

abbrev pub invariant-loop-number : goal.invariant-loop-number
invariant-loop-number l = map entry_of l.rows.items ≡ l.yielded
