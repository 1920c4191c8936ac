use Rattle.std.proofs.Common.{◌≡◌, refl, inl, inr, subst, arith}
use Rattle.sqlite_schema.specs.declared.schema.Schema.{Schema}
use Rattle.ledger_sql.specs.Schema.{no_schema}
use Rattle.openings.specs.Told.{HindersMaking}
use Rattle.openings.proofs.FileLemmas.{yields_more}
use Rattle.openings.proofs.creating.fill_new.Goals as goal

pub returns-in-Some-clause-refused : goal.returns-in-Some-clause-refused
returns-in-Some-clause-refused g c = record {
  told = subst (λ (s : Schema). HindersMaking c.in-Some.fault s) c.schema.ensures.value c.in-Some.ensures.hinders;
  honest = c.shut.ensures.honest;
  left = inl c.shut.ensures.left;
}

pub returns-in-Ok-clause-filled : goal.returns-in-Ok-clause-filled
returns-in-Ok-clause-filled g c clean = (
  c.in-Ok.ensures.makes.made clean,
  (
    omega (arith, c.in-Ok.ensures.makes.survives.clean, clean),
    subst (λ (s : Schema). s ≡ no_schema) c.schema.ensures.value (c.in_default.ensures.blank refl),
  ),
)

pub returns-in-Err-clause-refused : goal.returns-in-Err-clause-refused
returns-in-Err-clause-refused g c =
    let survives = c.in-Err.ensures.makes.survives in
    let blank = subst (λ (s : Schema). s ≡ no_schema) c.schema.ensures.value (c.in_default.ensures.blank refl) in
    record {
      told = tt;
      honest = λ clean. let last = c.shut-in-Err.ensures.honest clean in omega (arith, survives.clean, last);
      left = inr (
        (c.in-Err.why, refl),
        yields_more g.D.Disk c.shut-in-Err.result _ _
            (λ clean db may. elim (survives.crash (c.shut-in-Err.ensures.honest clean) db may) [
              | inl before ↦ inl before
              | inr made ↦ inr (blank, made)
            ]) c.shut-in-Err.ensures.left,
      );
    }
