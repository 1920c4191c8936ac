use Rattle.std.proofs.Common.{ℕ, All, Result, Ok, Err, OnOk, sym, subst, ◌∙◌, rules}
use Rattle.rows.specs.declared.all_rows.TenantOfDigest.{TenantOfDigest}
use Rattle.rows.specs.TypedRows.{lists_of}
use Rattle.audit.specs.Damage.{IsFirstDamage}
use Rattle.audit.specs.declared.damage.Damage.{Damage}
use Rattle.audit.specs.Sound.{AreSound}
use Rattle.sqlite.specs.Held.{state}
use Rattle.openings.specs.Damage.{HasFirstDamage, IfOpeningDamaged}
use Rattle.openings.specs.declared.opening.OpenFault.{OpenFault}
use Rattle.openings.specs.DamageLaws.{first_of_read, if_damaged_more}
use Rattle.openings.specs.NameLaws.{good_names}
use Rattle.migrate.specs.Told.{TellsOfRows, TellsOlder}
use Rattle.migrate.proofs.OlderLemmas.{older_tables}
use Rattle.migrate.proofs.ToldLemmas.{both_err, told_rows}
use Rattle.migrate.proofs.older.examine_older.Goals as goal

both_ok : {T E P Q R : Type 0} (r : Result T E) → (P → Q → R) → OnOk r P → OnOk r Q → OnOk r R
both_ok (Ok done) more p q = more p q
both_ok (Err e) more p q = tt

pub returns : goal.returns
returns g c =
    let version = c.args.version in
    let rows = c.in_ok-rows.rows in
    let db = (state g.S.Store c.args.conn.now).now in
    let schema = sym c.schema.ensures.value ∙ c.older_refusal.ensures.is c.in_default.is in
    let tables = older_tables version _ c.requires schema in
    record {
      finds = λ clean.
          let read = c.in_ok-rows.ensures.reads.whole clean tables in
          both_ok c.audit_older.result (λ sound names. record {
            schema = schema;
            names = good_names version db.trees rows read names;
            sound = record {
              all = rows;
              read = read;
              sound = subst (λ (v : ℕ). All (λ (tenant : TenantOfDigest). AreSound v (lists_of tenant.rows)) rows.tenants.items)
                  read.version_is sound;
            };
          }) c.audit_older.ensures.sound c.audit_older.ensures.names;
      told = λ clean.
          let read = c.in_ok-rows.ensures.reads.whole clean tables in
          let P = λ (damage : Damage). IsFirstDamage rows.version rows.tenants.items damage in
          let Q = λ (damage : Damage). HasFirstDamage version damage db.trees in
          both_err c.audit_older.result (λ (told : OpenFault). TellsOfRows told rows)
          (λ (told : OpenFault). IfOpeningDamaged told P) (λ (told : OpenFault). TellsOlder version told db)
          (λ told of first. told_rows version told db rows schema read of
          (if_damaged_more told P Q (λ damage is. first_of_read version rows.version db.trees rows damage read read.version_is is) first))
          c.audit_older.ensures.told c.audit_older.ensures.damaged;
      looks = search rules;
    }
