use Rattle.stored_ledgers.proofs.JoinedLemmas.{adds_tenant}
use Rattle.stored_ledgers.proofs.laws.joining_adds_one.Goals as goal

pub returns : goal.returns
returns c name digest old new ledgers taken joined =
    adds_tenant joined.number name digest old new ledgers taken.0 taken.1 joined.least.free
    joined.joins
