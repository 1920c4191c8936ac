use Rattle.std.proofs.Common.{refl}
use Rattle.polling.specs.Ending.{Start, Enough, Quiet}
use Rattle.polling.proofs.TurnLemmas.{turns_serve, next_turn, too_long, quiet_serves, quiet_then}
use Rattle.polling.proofs.finishing.write_rest.Goals as goal

pub loop-init : goal.loop-init
loop-init g c moments = Start

pub returns-then-are_written : goal.returns-then-are_written
returns-then-are_written g c = record {
  serves = λ moments. turns_serve (c.loop.invariant moments);
  ends = λ moments. Enough (c.if-are_written.ensures refl);
}

pub returns-then-not-write_next : goal.returns-then-not-write_next
returns-then-not-write_next g c = record {
  serves = λ moments.
      quiet_serves
      (quiet_then (turns_serve (c.loop.invariant moments))
      (c.if-not-write_next.ensures.quiet refl moments));
  ends = λ moments.
      Quiet
      (quiet_then (turns_serve (c.loop.invariant moments))
      (c.if-not-write_next.ensures.quiet refl moments));
}

pub loop-preserved : goal.loop-preserved
loop-preserved g c moments =
    next_turn (c.loop.invariant moments) (c.if-not-write_next.ensures.turn refl moments) refl

pub returns : goal.returns
returns g c = record {
  serves = λ moments. turns_serve (c.loop.invariant moments);
  ends = λ moments.
      too_long c.loop.auto.counter-end c.loop-test.false (c.loop.invariant moments);
}
