use Rattle.std.proofs.Common.{Err, refl, sym, subst, ap, ◌∙◌, rules}
use Rattle.std.proofs.lemmas.Bool.{both_ways}
use Rattle.std.proofs.lemmas.Result.{err_from_is_err_and}
use Rattle.sqlite_schema.specs.declared.schema.Schema.{Schema}
use Rattle.sqlite.specs.Held.{state}
use Rattle.openings.specs.CallLaws.{passes_on}
use Rattle.openings.specs.Opened.{HasNames}
use Rattle.openings.specs.Told.{LacksTables, No_name}
use Rattle.openings.proofs.ToldLemmas.{told_tables}
use Rattle.ledger_sql.specs.Effects.{IsLedger}
use Rattle.openings.proofs.WholeLemmas.{has_tables}
use Rattle.openings.proofs.opened.read_ledger.Goals as goal

pub returns-clause-examines : goal.returns-clause-examines
returns-clause-examines g c =
    let ledger = subst IsLedger c.schema.ensures.value (c.in_default.ensures.ledger refl) in
    record {
      finds = λ clean. (ledger, c.in_ok-rows.ensures.reads.whole clean (has_tables 3 _ ledger));
      told = search rules;
      looks = search rules;
    }

pub returns-in-Some-clause-examines : goal.returns-in-Some-clause-examines
returns-in-Some-clause-examines g c = record {
  finds = search rules;
  told = λ clean current.
      told_tables c.in-Some.fault (state g.S.Store c.args.conn.now).now current
      (subst (λ (s : Schema). LacksTables c.in-Some.fault s) c.schema.ensures.value c.in-Some.ensures.lacks);
  looks = search rules;
}

pub returns-in_err-rows-clause-examines : goal.returns-in_err-rows-clause-examines
returns-in_err-rows-clause-examines g c =
    let p = err_from_is_err_and c.from_residual.result c.from_residual.ensures.1 in
    passes_on (p.1 ∙ ap Err p.2) (search rules) (λ clean current. tt)

pub returns-then-not-has_names-clause-examines : goal.returns-then-not-has_names-clause-examines
returns-then-not-has_names-clause-examines g c =
    let ledger = subst IsLedger c.schema.ensures.value (c.in_default.ensures.ledger refl) in
    record {
      finds = search rules;
      told = λ clean current.
          let read = c.in_ok-rows.ensures.reads.whole clean (has_tables 3 _ ledger) in
          No_name current ledger (λ good. both_ways _ c.if-not-has_names.true
          (c.has_names.ensures.1 (subst HasNames (sym c.deref.ensures.value) (good c.in_ok-rows.rows read))));
      looks = search rules;
    }
