use Rattle.std.proofs.Common.{refl, sym, ap, ◌∙◌, ℕ, max}
use Rattle.std.proofs.lemmas.Bool.{false≢true}
use Rattle.records.specs.Valid.{event_of_account}
use Rattle.records.specs.Step.{at_clock}
use Rattle.running.proofs.AppliedEntry.{at_any_clock, next_account, applied_account}
use Rattle.running.proofs.running.Running.open_next.Goals as goal

pub returns-then-not-opens-clause-refused : goal.returns-then-not-opens-clause-refused
returns-then-not-opens-clause-refused c m is next =
    false≢true ((c.if-not-opens.ensures m is).1 (sym (at_any_clock m _ (event_of_account c.args.account.now)) ∙ next.accepted.accepted))

pub returns-clause-accepted : goal.returns-clause-accepted
returns-clause-accepted c m is =
    let a = c.args.account.now in
    let clock = c.max-clock.result in
    let next = next_account m a clock c.widths.ensures ((c.if-not-is_next.ensures m is).0 refl) ((c.if-not-opens.ensures m is).0 refl) in
    let opened = c.in_ok-open_account.ensures (at_clock m clock) (c.in_ok-settle_to.ensures m is) next in
    applied_account m a clock c.open_account.new.self (c.max-clock.ensures ∙ ap (λ (n : ℕ). max n a.timestamp) is.clock) ((c.if-not-can_come.ensures m is).0 refl) next opened
