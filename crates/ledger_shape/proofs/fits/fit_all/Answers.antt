use Rattle.std.proofs.Common.{rules, arith, inl, inr}
use Rattle.ledger_shape.proofs.FitLemmas.{all_left, one_less, none_left}
use Rattle.ledger_shape.proofs.fits.fit_all.Goals as goal

pub loop-form-init : goal.loop-form-init
loop-form-init g c =
    let whole = all_left g.F.Form.meant _ _ c.if-forms-items.false in
    search rules

pub loop-form-preserved : goal.loop-form-preserved
loop-form-preserved g c =
    one_less _ _ _ _ _ _ _ _ _ c.loop-form.invariant c.in-Some.ensures.steps.0
    c.in-Some.ensures.steps.1 (search rules)

pub returns : goal.returns
returns g c = (
  λ _. elim c.in-None.ensures.steps [
    | inl a ↦ none_left _ _ _ _ _ c.loop-form.invariant a.1.0
    | inr b ↦ none_left _ _ _ _ _ c.loop-form.invariant
        (omega (arith, c.loop-form.invariant.long, b.1.0))
  ],
  search rules,
)
