use Rattle.std.proofs.Common.{ap}
use Rattle.chain.specs.Tables.{State}
use Rattle.chain.proofs.LookLemmas.{found_there}
use Rattle.chain.proofs.lookups.HoldsByIdById.find.Goals as goal

pub hold_of-requires-clause-held : goal.hold_of-requires-clause-held
hold_of-requires-clause-held g c live =
    found_there c.args.id (g.T.Tables.means.state c.args.tables.now).now.transfers _ c.in_ok-transfer.field-0 _
    (c.in_ok-transfer.ensures.value live) c.in-Some.is
    (ap (λ (s : State). s.now.transfers) (c.in_ok-transfer.ensures.leaves.state live))
