use Rattle.std.proofs.Common.{Err, pos, refl, subst, ap, ◌∙◌, rules}
use Rattle.std.proofs.lemmas.Result.{err_from_is_err_and, IfErr-weaker, IfOk-weaker}
use Rattle.sqlite_schema.specs.declared.schema.Schema.{Schema}
use Rattle.sqlite.specs.Held.{state}
use Rattle.ledger_sql.specs.Effects.{StartsAs}
use Rattle.ledger_sql.specs.Schema.{after_schema}
use Rattle.openings.specs.CallLaws.{passes_on}
use Rattle.openings.specs.Told.{LacksVersion, LacksVersions}
use Rattle.openings.proofs.OpenedLemmas.{named_version}
use Rattle.openings.proofs.ToldLemmas.{told_by_call, told_version, told_versions}
use Rattle.openings.proofs.ToldLemmas.{of_version, of_version_by_call, of_versions}
use Rattle.openings.proofs.versions.find_version.Goals as goal

pub returns-clause-examines : goal.returns-clause-examines
returns-clause-examines g c =
    let starts = subst (λ (s : Schema). StartsAs after_schema.tables s) c.schema.ensures.value
    (c.in_default.ensures.starts refl) in
    record {
      finds = λ clean.
          IfOk-weaker c.one_version.result _ _ (λ version named. record {
            starts = starts;
            version = pos version;
            is = refl;
            named = named;
          }) (named_version c.one_version.result _ c.as_slice.result.now c.in_ok-versions.versions.items
          (c.in_ok-versions.ensures.whole clean starts) c.as_slice.ensures.value
          (IfOk-weaker c.one_version.result _ _ (λ version is. is.named) c.one_version.ensures.named));
      told = λ clean.
          IfErr-weaker c.one_version.result _ _ (λ told lacks.
          told_version told (state g.S.Store c.args.conn.now).now c.in_ok-versions.versions.items starts
          (c.in_ok-versions.ensures.whole clean starts)
          (subst (λ read. LacksVersion told read) c.as_slice.ensures.value lacks)) c.one_version.ensures.lacks;
      looks = search rules;
    }

pub returns-in-Some-clause-examines : goal.returns-in-Some-clause-examines
returns-in-Some-clause-examines g c = record {
  finds = search rules;
  told = λ clean.
      told_versions c.in-Some.fault (state g.S.Store c.args.conn.now).now
      (subst (λ (s : Schema). LacksVersions c.in-Some.fault s) c.schema.ensures.value c.in-Some.ensures.lacks);
  looks = search rules;
}

pub returns-in_err-versions-clause-examines : goal.returns-in_err-versions-clause-examines
returns-in_err-versions-clause-examines g c =
    let p = err_from_is_err_and c.from_residual.result c.from_residual.ensures.1 in
    passes_on (p.1 ∙ ap Err p.2) (search rules) (λ clean. told_by_call _ _)

pub returns-clause-known : goal.returns-clause-known
returns-clause-known g c =
    IfOk-weaker c.one_version.result _ _ (λ version is. is.known) c.one_version.ensures.named

pub returns-in-Some-clause-only : goal.returns-in-Some-clause-only
returns-in-Some-clause-only g c = of_versions c.in-Some.fault _ c.in-Some.ensures.lacks

pub returns-in_err-versions-clause-only : goal.returns-in_err-versions-clause-only
returns-in_err-versions-clause-only g c =
    let p = err_from_is_err_and c.from_residual.result c.from_residual.ensures.1 in
    of_version_by_call c.from_residual.result _ (p.1 ∙ ap Err p.2)

pub returns-clause-only : goal.returns-clause-only
returns-clause-only g c =
    IfErr-weaker c.one_version.result _ _ (λ told lacks.
    of_version told c.as_slice.result.now lacks) c.one_version.ensures.lacks
