use Rattle.std.proofs.Common.{Err, inl, inr, ap, subst, ◌∙◌, rules, arith}
use Rattle.std.proofs.lemmas.Result.{err_from_is_err_and}
use Rattle.sqlite.specs.Held.{state}
use Rattle.openings.specs.CallLaws.{found_both, passes_on, told_later}
use Rattle.openings.specs.Damage.{NamesVersion}
use Rattle.migrate.proofs.ToldLemmas.{told_current}
use Rattle.migrate.proofs.any_version.AnyVersionInspection.inspect.Goals as goal

pub returns-then-version-lt-CURRENT_VERSION-clause-examines : goal.returns-then-version-lt-CURRENT_VERSION-clause-examines
returns-then-version-lt-CURRENT_VERSION-clause-examines g c = record {
  finds = λ clean.
      let found = found_both c.in_ok-version.ensures.examines c.in_ok-examine_older.ensures clean in
      let less = c.if-version-lt-CURRENT_VERSION.true in
      record {
        ledger = record {
          older = λ _. record {
            schema = found.1.schema;
            named = subst (λ n. NamesVersion n (state g.S.Store c.args.conn.now).now.trees) found.0.is found.0.named;
            names = found.1.names;
            sound = found.1.sound;
          };
          current = λ three. absurd (omega (arith, three, less));
        };
        serves = λ three. absurd (omega (arith, three, less));
      };
  told = search rules;
  looks = search rules;
}

pub returns-clause-examines : goal.returns-clause-examines
returns-clause-examines g c = record {
  finds = λ clean.
      let found = found_both c.in_ok-version.ensures.examines c.in_ok-due.ensures clean in
      record {
        ledger = record {
          older = λ less. absurd (let three = c.if-version-lt-CURRENT_VERSION.false in omega (arith, three, less));
          current = λ _. found.1.1;
        };
        serves = λ _. found.1.0;
      };
  told = search rules;
  looks = search rules;
}

pub returns-in_err-version-clause-examines : goal.returns-in_err-version-clause-examines
returns-in_err-version-clause-examines g c =
    let p = err_from_is_err_and c.from_residual.result c.from_residual.ensures.1 in
    let told = c.in_err-version.ensures in
    passes_on (p.1 ∙ ap Err p.2) (search rules) (λ clean. inl (told.only.not_old, told.examines.told clean))

pub returns-in_err-examine_older-clause-examines : goal.returns-in_err-examine_older-clause-examines
returns-in_err-examine_older-clause-examines g c =
    let r = c.from_residual-in_err-examine_older in
    let p = err_from_is_err_and r.result r.ensures.1 in
    passes_on (p.1 ∙ ap Err p.2) (search rules) (λ clean.
    let told = told_later c.in_ok-version.ensures.examines c.in_err-examine_older.ensures clean in
    inr (record {
      version = c.in_ok-version.version;
      positive = c.in_ok-version.ensures.known.0;
      older = c.if-version-lt-CURRENT_VERSION.true;
      named = told.0;
      tells = told.1;
    }))

pub returns-in_err-due-clause-examines : goal.returns-in_err-due-clause-examines
returns-in_err-due-clause-examines g c =
    let p = err_from_is_err_and c.from_residual-in_err-due.result c.from_residual-in_err-due.ensures.1 in
    let db = (state g.S.Store c.args.conn.now).now in
    passes_on (p.1 ∙ ap Err p.2) (search rules) (λ clean.
    let told = told_later c.in_ok-version.ensures.examines c.in_err-due.ensures clean in
    told_current db c.in_ok-version.version _ c.if-version-lt-CURRENT_VERSION.false
    (subst (λ n. NamesVersion n db.trees) told.0.is told.0.named) told.1)
