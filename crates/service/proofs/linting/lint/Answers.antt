use Rattle.std.proofs.Common.{◌≡◌, ◌∙◌, ℕ, true, Option, Some, None, is_some, Ok, refl, sym, ap, rules}
use Rattle.records.specs.Machine.{Machine}
use Rattle.wire.specs.declared.outcome.Outcome.TheVariants.{Linted}
use Rattle.wire.specs.declared.read.Read.TheVariants.{Lint}
use Rattle.wire.specs.declared.request.Request.TheVariants.{Read}
use Rattle.wire.specs.Told.{outcome_text}
use Rattle.service.specs.Served.{served_to}
use Rattle.service.proofs.FindingLemmas.{finds_on}
use Rattle.service.proofs.ServedReads.{serves_by_read, serves_unknown, serves_unavailable}
use Rattle.service.proofs.linting.lint.Goals as goal

-- the reply to a tenant that is there has the number of events
told_known : (tenant : Option Machine) (events moment : ℕ) → is_some tenant ≡ true
    → (served_to tenant (Ok (Read (Lint events))) moment).told ≡ Linted events
told_known None events moment known = absurd (cc)
told_known (Some m) events moment known = refl

pub returns-in_default : goal.returns-in_default
returns-in_default g c moment = record {
  serves = λ live. serves_unavailable _ _ _ _ _ (c.knows.ensures.same live);
  failed = λ failed. refl;
  finds =
      finds_on g.L.Ledgers.means _ _ _ _ _ _ (λ available. absurd (available refl))
      (λ was now nowhere. absurd nowhere) c.knows.ensures.finds;
  follows = c.knows.ensures.follows;
}

pub returns-then-known : goal.returns-then-known
returns-then-known g c moment = record {
  serves = λ live.
      serves_by_read _ _ _ _ _ moment _ refl (c.knows.ensures.same live)
      (λ available.
      c.shown.ensures available
      ∙ ap outcome_text
      (sym (told_known _ c.args.events moment (sym (c.in-Ok.ensures.value live) ∙ c.if-known.true))));
  failed = search rules;
  finds =
      finds_on g.L.Ledgers.means _ _ _ _ _ _ (λ available. refl) (λ was now nowhere. absurd nowhere)
      c.in-Ok.ensures.finds;
  follows = c.knows.ensures.follows;
}

pub returns-else-known : goal.returns-else-known
returns-else-known g c moment = record {
  serves = λ live.
      serves_unknown _ _ _ _ _ (sym (c.in-Ok.ensures.value live) ∙ c.if-known.false)
      (c.knows.ensures.same live);
  failed = search rules;
  finds =
      finds_on g.L.Ledgers.means _ _ _ _ _ _ (λ available. refl) (λ was now nowhere. absurd nowhere)
      c.in-Ok.ensures.finds;
  follows = c.knows.ensures.follows;
}
