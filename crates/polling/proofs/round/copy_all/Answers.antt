use Rattle.std.proofs.Common.{refl, ap, ◌∙◌, length, arith}
use Rattle.polling.specs.Seating.{seats_in}
use Rattle.polling.proofs.CopyLemmas.{gathered_none}
use Rattle.polling.proofs.round.copy_all.Goals as goal

pub loop-number-init : goal.loop-number-init
loop-number-init g c = record {
  same = λ client. refl;
  gathered =
      gathered_none g.C.Moments.gives (seats_in c.args.clients.now) c.args.moments.now _ _
      c.new-round.ensures.members c.new-round.ensures.messages;
  few = let none = ap length c.new-round.ensures.members in omega (arith, none);
}

pub loop-number-preserved : goal.loop-number-preserved
loop-number-preserved g c = record {
  same = λ client. c.copy_in.ensures.same client ∙ c.loop-number.invariant.same client;
  gathered =
      c.copy_in.ensures.gathered (seats_in c.args.clients.now) c.args.moments.now
      c.loop-number.invariant.same c.loop-number.invariant.gathered;
  few =
      let grown = c.copy_in.ensures.few in
      let below = c.if-len-most.false in
      let counted = c.len.ensures in
      let many = c.loop-number.round.members.ok.0 in
      omega (arith, grown, below, counted, many);
}

pub returns-then-len-most : goal.returns-then-len-most
returns-then-len-most g c = c.loop-number.invariant

pub returns : goal.returns
returns g c = c.loop-number.invariant
