use Rattle.std.proofs.lemmas.Bool.{false≢true}
use Rattle.running.proofs.GivenTransfer.{refuses, gives}
use Rattle.running.proofs.running.Running.accepted.Goals as goal

pub returns-in-Refuse-clause-none : goal.returns-in-Refuse-clause-none
returns-in-Refuse-clause-none c m is next =
    refuses m c.args.transfer.now c.facts.result c.event_of_transfer-ev.result c.in-Refuse.field-0 (c.facts.ensures m is) c.event_of_transfer-ev.ensures next c.in-Refuse.ensures.decision

pub returns-then-not-is_same-clause-none : goal.returns-then-not-is_same-clause-none
returns-then-not-is_same-clause-none c m is next =
    false≢true (c.if-not-is_same.ensures.1 (gives m c.args.transfer.now c.facts.result c.event_of_transfer-ev.result c.in-Accept.accepted (c.facts.ensures m is) c.event_of_transfer-ev.ensures next c.in-Accept.ensures.decision.1))
