use Rattle.std.proofs.Common.{◌≡◌, ◌-◌, inl, inr, refl, sym, ap, arith}
use Rattle.polling.specs.Ring.{numbers_of}
use Rattle.polling.specs.Ending.{Start, Enough, Quiet}
use Rattle.polling.proofs.TurnLemmas.{turns_serve, next_turn, all_turns, too_long, quiet_serves, quiet_then}
use Rattle.polling.proofs.AllLemmas.{none_owed, owed_for, then_owed, turns_as}
use Rattle.polling.proofs.serving.serve_ready.Goals as goal

pub loop-init : goal.loop-init
loop-init g c = record {
  turns = Start;
  served = turns_as (ap numbers_of (sym c.new-gathered.ensures)) (none_owed (λ one found. found));
  all = λ some. c.new-gathered.ensures;
  few = omega arith;
}

pub returns-then-replies-most : goal.returns-then-replies-most
returns-then-replies-most g c = record {
  serves = turns_serve c.loop.invariant.turns;
  ends = Enough c.if-replies-most.true;
  turns = inl (turns_as (ap numbers_of (c.loop.invariant.all c.if-replies-most.true)) c.loop.invariant.served);
  few = c.loop.invariant.few;
}

pub returns-in-Nothing : goal.returns-in-Nothing
returns-in-Nothing g c =
    let few = c.loop.invariant.few in
    record {
      serves = quiet_serves (quiet_then (turns_serve c.loop.invariant.turns) c.in-Nothing.ensures.does);
      ends = Quiet (quiet_then (turns_serve c.loop.invariant.turns) c.in-Nothing.ensures.does);
      turns =
          inl
          (turns_as (ap numbers_of (c.in-Nothing.ensures.all (inl refl)))
          (then_owed c.loop.invariant.served
          (owed_for c.in-Nothing.ensures.turns.serves
          (λ (all : 0 ≡ c.args.most - c.loop.replies). omega (arith, all, few)))
          (omega arith)));
      few = few;
    }

pub returns : goal.returns
returns g c = record {
  serves = turns_serve c.loop.invariant.turns;
  ends = too_long c.loop.auto.counter-end c.loop-test.false c.loop.invariant.turns;
  turns = inr (all_turns c.loop.auto.counter-end c.loop-test.false c.loop.invariant.turns);
  few = c.loop.invariant.few;
}

pub loop-preserved : goal.loop-preserved
loop-preserved g c =
    let few = c.loop.invariant.few in
    let more = c.in-Served.ensures.turns.few in
    record {
      turns = next_turn c.loop.invariant.turns c.in-Served.ensures.does refl;
      served =
          then_owed
          (owed_for c.loop.invariant.served
          (λ (is : c.loop.replies ≡ c.args.most). omega (arith, is, few, more)))
          (owed_for c.in-Served.ensures.turns.serves
          (λ (is : c.in-Served.more ≡ c.args.most - c.loop.replies). omega (arith, is, few)))
          refl;
      all = λ all. c.in-Served.ensures.all (inr (omega (arith, all, few)));
      few = omega (arith, few, more);
    }
