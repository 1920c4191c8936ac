use Rattle.std.proofs.Common.{◌≡◌, ◌∙◌, ap, sym, inl, inr, true, false, refl, arith}
use Rattle.std.proofs.lemmas.Bool.{true≢false}
use Rattle.clients.specs.Talk.{is_empty}
use Rattle.polling.specs.Seating.{has_nothing}
use Rattle.polling.proofs.OneLemmas.{nothing}
use Rattle.polling.proofs.ThenLemmas.{idle_too, then_one, then_written}
use Rattle.polling.proofs.WrittenLemmas.{both_none, empty_so}
use Rattle.polling.proofs.turn.write_all.Goals as goal

pub loop-init : goal.loop-init
loop-init g c = (
  true,
  inr (refl, refl),
  refl,
  λ ledgers moments. nothing,
)

pub returns-then-is_empty : goal.returns-then-is_empty
returns-then-is_empty g c = record {
  serves = λ ledgers moments.
      let old = c.args.client.now in
      let new = c.loop.client in
      idle_too (c.loop.invariant.3 ledgers moments)
      (λ (some : has_nothing old new ≡ false).
      elim c.loop.invariant.1 [
        | inl moved ↦ moved
        | inr still ↦
            absurd
            (true≢false
            (sym
            (both_none old new still.1
            (ap is_empty (sym c.unsent.ensures)
            ∙ empty_so c.unsent.result.now (sym c.is_empty.ensures ∙ c.if-is_empty.true)))
            ∙ some))
      ]);
  rest = c.loop.invariant.2;
}

pub returns-in-Waits : goal.returns-in-Waits
returns-in-Waits g c = then_written c.loop.invariant.2 c.loop.invariant.3 c.in-Waits.ensures

pub returns-in-Goes : goal.returns-in-Goes
returns-in-Goes g c = then_written c.loop.invariant.2 c.loop.invariant.3 c.in-Goes.ensures

pub loop-preserved : goal.loop-preserved
loop-preserved g c = (
  false,
  inl refl,
  c.in-More.ensures.rest ∙ c.loop.invariant.2,
  λ ledgers moments.
      then_one (c.loop.invariant.3 ledgers moments) (c.in-More.ensures.serves ledgers moments)
      (λ none. inr refl) refl,
)

pub returns : goal.returns
returns g c = record {
  serves = λ ledgers moments.
      idle_too (c.loop.invariant.3 ledgers moments)
      (λ some.
      elim c.loop.invariant.1 [
        | inl moved ↦ moved
        | inr still ↦ let none = still.0 in absurd (omega (arith, none, c.loop-test.false))
      ]);
  rest = c.loop.invariant.2;
}
