use Rattle.std.proofs.Common.{ℕ, All, Err, ap, subst, ◌∙◌, rules}
use Rattle.std.proofs.lemmas.Result.{err_from_is_err_and}
use Rattle.rows.specs.declared.all_rows.TenantOfDigest.{TenantOfDigest}
use Rattle.rows.specs.TypedRows.{lists_of}
use Rattle.audit.specs.Damage.{IsFirstDamage}
use Rattle.audit.specs.Sound.{AreSound}
use Rattle.sqlite.specs.Held.{state}
use Rattle.openings.specs.CallLaws.{found_both, passes_on, told_later}
use Rattle.openings.specs.Opened.{IsExamined}
use Rattle.openings.proofs.OpenedLedger.{examined_holds, examined_covered}
use Rattle.openings.specs.DamageLaws.{first_of_read}
use Rattle.openings.specs.NameLaws.{good_names}
use Rattle.openings.proofs.ToldLemmas.{names_current, told_by_audit}
use Rattle.openings.proofs.opened.examine.Goals as goal

pub returns : goal.returns
returns g c = record {
  finds = λ clean.
      let db = (state g.S.Store c.args.conn.now).now in
      let sets = c.in_ok-due_sets.field-0 in
      let rows = c.in_ok-rows.rows in
      let found = found_both c.in_ok-find_current.ensures c.in_ok-rows.ensures.examines clean in
      let read = found.1.1 in
      let sound = subst (λ (v : ℕ). All (λ (tenant : TenantOfDigest). AreSound v (lists_of tenant.rows)) rows.tenants.items)
      read.version_is c.in_ok-audit.ensures.sound in
      let examined : IsExamined sets db = record {
        ledger = found.1.0;
        version = names_current db found.0;
        all = rows;
        read = read;
        names = c.in_ok-rows.ensures.names;
        sound = sound;
        kept = c.in_ok-due_sets.ensures;
      } in (
        λ whole ordered. (
          examined_holds sets db whole ordered examined c.rows_fit.ensures c.held_machines.ensures,
          examined_covered sets db whole ordered examined c.rows_fit.ensures c.held_machines.ensures,
        ),
        record {
          current = found.0;
          ledger = found.1.0;
          names = good_names 3 db.trees rows read c.in_ok-rows.ensures.names;
          sound = record { all = rows; read = read; sound = sound };
        },
      );
  told = search rules;
  looks = search rules;
}

pub returns-in_err-rows : goal.returns-in_err-rows
returns-in_err-rows g c =
    let p = err_from_is_err_and c.from_residual-in_err-rows.result c.from_residual-in_err-rows.ensures.1 in
    passes_on (p.1 ∙ ap Err p.2) (search rules) (λ clean.
    let told = told_later c.in_ok-find_current.ensures c.in_err-rows.ensures.examines clean in told.1 told.0)

pub returns-in_err-audit : goal.returns-in_err-audit
returns-in_err-audit g c =
    let p = err_from_is_err_and c.from_residual-in_err-audit.result c.from_residual-in_err-audit.ensures.1 in
    let rows = c.in_ok-rows.rows in
    let db = (state g.S.Store c.args.conn.now).now in
    passes_on (p.1 ∙ ap Err p.2) (search rules) (λ clean.
    let found = found_both c.in_ok-find_current.ensures c.in_ok-rows.ensures.examines clean in
    let read = found.1.1 in
    told_by_audit _ db (IsFirstDamage rows.version rows.tenants.items) (λ damage told. record {
      current = found.0;
      ledger = found.1.0;
      names = good_names 3 db.trees rows read c.in_ok-rows.ensures.names;
      damaged = record {
        named = names_current db found.0;
        damaged = first_of_read 3 rows.version db.trees rows damage read read.version_is told;
      };
    }) c.in_err-audit.ensures.damaged)
