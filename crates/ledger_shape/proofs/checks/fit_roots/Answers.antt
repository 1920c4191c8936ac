use Rattle.std.proofs.Common.{rules, arith, ap, inl, inr}
use Rattle.std.proofs.lemmas.List.{length-map}
use Rattle.sqlite_schema.specs.Code.{term_in, terms_in}
use Rattle.ledger_shape.specs.Forms.{check_for}
use Rattle.ledger_shape.proofs.FitLemmas.{all_left, one_less, none_left, unlike}
use Rattle.ledger_shape.proofs.checks.fit_roots.Goals as goal

pub loop-form-init : goal.loop-form-init
loop-form-init c =
    let whole = all_left check_for c.args.forms.now (terms_in c.args.nodes.now c.args.roots.now)
    (omega (arith, length-map c.args.roots.now (term_in c.args.nodes.now))) in
    search rules

pub loop-form-preserved : goal.loop-form-preserved
loop-form-preserved c =
    one_less _ _ _ _ _ _ _ _ _ c.loop-form.invariant c.in-Some.ensures.steps.0
    (ap (terms_in c.args.nodes.now) c.in-Some.ensures.steps.1) (search rules)

pub returns-then-not-is_check : goal.returns-then-not-is_check
returns-then-not-is_check c = (
  search rules,
  λ same.
      absurd (unlike _ _ _ _ _ _ _ _ _ c.loop-form.invariant c.in-Some.ensures.steps.0
      (ap (terms_in c.args.nodes.now) c.in-Some.ensures.steps.1) (search rules) same),
)

pub returns : goal.returns
returns c = (
  λ _. elim c.in-None.ensures.steps [
    | inl a ↦ none_left _ _ _ _ _ c.loop-form.invariant a.1.0
    | inr b ↦ none_left _ _ _ _ _ c.loop-form.invariant
        (omega (
          arith,
          c.loop-form.invariant.long,
          b.1.0,
          length-map c.loop-form.form-iterator.b.rest.now (term_in c.args.nodes.now),
        ))
  ],
  search rules,
)
