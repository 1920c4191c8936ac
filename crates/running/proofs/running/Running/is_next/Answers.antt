use Rattle.std.proofs.Common.{arith}
use Rattle.std.proofs.lemmas.Bool.{false≢true}
use Rattle.running.proofs.AppliedEntry.{after_last}
use Rattle.running.proofs.running.Running.is_next.Goals as goal

pub returns-then-timestamp-self : goal.returns-then-timestamp-self
returns-then-timestamp-self c m is = (
  λ t. absurd (false≢true t),
  λ next. absurd (let less = after_last m c.args.self.now c.args.timestamp c.args.clock is next in omega (arith, less, c.if-timestamp-self.true)),
)

pub returns-then-clock-timestamp : goal.returns-then-clock-timestamp
returns-then-clock-timestamp c m is = (
  λ t. absurd (false≢true t),
  λ next. absurd (let by = next.by_clock in omega (arith, by, c.if-clock-timestamp.true)),
)
