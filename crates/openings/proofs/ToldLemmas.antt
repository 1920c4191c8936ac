-- In which case of a database a fault is told.
use Rattle.std.proofs.Common.{◌≡◌, ◌≢◌, ℤ, pos, List, [], ◌∷◌, map, Result, Err, IfErr, refl, subst}
use Rattle.std.specs.List.Sorted.{IsPermutation}
use Rattle.std.proofs.lemmas.List.Sorted.{IsPermutation-sym}
use Rattle.audit.specs.declared.damage.Damage.{Damage}
use Rattle.audit.specs.declared.damage.AuditFault.{AuditFault}
use Rattle.audit.specs.declared.damage.AuditFault.TheVariants as audit
use Rattle.audit.specs.Damage.{IfDamaged as IfAuditDamaged}
use Rattle.sqlite.specs.Effect.{Database}
use Rattle.sqlite_schema.specs.declared.schema.Schema.{Schema}
use Rattle.ledger_sql.specs.Effects.{StartsAs}
use Rattle.ledger_sql.specs.Schema.{after_schema}
use Rattle.ledger_sql.specs.TableRows.{version_rows}
use Rattle.ledger_sql.specs.Values.{version_values}
use Rattle.ledger_sql.specs.declared.table_fault.TableFault.{TableFault}
use Rattle.ledger_sql.specs.declared.table_fault.TableFault.TheVariants as table
use Rattle.openings.specs.Calls.{IsOfVersion}
use Rattle.openings.specs.Damage.{IsNoDamage, NamesVersion}
use Rattle.openings.specs.Faults.{damage_fault, open_fault_of}
use Rattle.openings.specs.Told.{IsCurrent, LacksTables, LacksVersion, LacksVersions, Warrants}
use Rattle.openings.specs.Told.{No_versions, No_version, No_table, Of_version, Of_ledger}
use Rattle.openings.specs.declared.opening.OpenFault.{OpenFault}
use Rattle.openings.specs.declared.opening.OpenFault.TheVariants as fault
use Rattle.openings.proofs.HeldMachines.{only_one}

-- by the table of the version
pub told_versions : (told : OpenFault) (db : Database) → LacksVersions told db.schema → Warrants told db
told_versions fault.InUse db lacks = absurd lacks
told_versions fault.Unreadable db lacks = Of_version lacks
told_versions fault.NotALedger db lacks = No_versions lacks
told_versions fault.OldSchema db lacks = absurd lacks
told_versions fault.NewerSchema db lacks = absurd lacks
told_versions (fault.Damaged damage) db lacks = absurd lacks
told_versions (fault.Unavailable why) db lacks = tt

-- by the tables of a ledger
pub told_tables : (told : OpenFault) (db : Database) → IsCurrent db → LacksTables told db.schema → Warrants told db
told_tables fault.InUse db current lacks = absurd lacks
told_tables fault.Unreadable db current lacks = Of_ledger current lacks
told_tables fault.NotALedger db current lacks = No_table current lacks
told_tables fault.OldSchema db current lacks = absurd lacks
told_tables fault.NewerSchema db current lacks = absurd lacks
told_tables (fault.Damaged damage) db current lacks = absurd lacks
told_tables (fault.Unavailable why) db current lacks = tt

-- the versions that were read are the one that the file names
pub read_named : (versions : List ℤ) (version : ℤ) → map version_values versions ≡ version_values version ∷ []
    → versions ≡ version ∷ []
read_named [] version is = absurd (cc)
read_named (first ∷ []) version is = cc
read_named (first ∷ next ∷ rest) version is = absurd (cc)

-- by the versions that were read
pub told_version : (told : OpenFault) (db : Database) (versions : List ℤ) → StartsAs after_schema.tables db.schema
    → IsPermutation (version_rows db.trees) (map version_values versions) → LacksVersion told versions → Warrants told db
told_version fault.InUse db versions starts all lacks = absurd lacks
told_version fault.Unreadable db versions starts all lacks = absurd lacks
told_version fault.NotALedger db versions starts all lacks = No_version starts (λ version above named.
    let rows = subst (λ rows. IsPermutation rows (map version_values versions)) named all in
    lacks version above (read_named versions version
    (only_one (map version_values versions) (version_values version) (IsPermutation-sym _ _ rows))))
told_version fault.OldSchema db versions starts all lacks = absurd lacks
told_version fault.NewerSchema db versions starts all lacks = record {
  starts = starts;
  version = lacks.0;
  is = lacks.1;
  named = only_one (version_rows db.trees) (version_values lacks.0)
      (subst (λ read. IsPermutation (version_rows db.trees) (map version_values read)) lacks.2 all);
}
told_version (fault.Damaged damage) db versions starts all lacks = absurd lacks
told_version (fault.Unavailable why) db versions starts all lacks = absurd lacks

-- where the fault is no damage, none is told
none_damaged : (told : OpenFault) → ((damage : Damage) → told ≢ fault.Damaged damage) → IsNoDamage told
none_damaged fault.InUse none = tt
none_damaged fault.Unreadable none = tt
none_damaged fault.NotALedger none = tt
none_damaged fault.OldSchema none = tt
none_damaged fault.NewerSchema none = tt
none_damaged (fault.Damaged damage) none = none damage refl
none_damaged (fault.Unavailable why) none = tt

-- a call that was in want of something is told as that, whatever the database is
pub told_by_call : (cause : TableFault) (db : Database) → Warrants (open_fault_of cause) db
told_by_call table.Missing db = tt
told_by_call (table.Unavailable why) db = tt

-- either tells a fault of the version alone, and so does such a call
module _ (told : OpenFault) where
  pub of_versions : (schema : Schema) → LacksVersions told schema → IsOfVersion told
  of_versions schema lacks = record {
    not_old = λ is. subst (λ (t : OpenFault). LacksVersions t schema) is lacks;
    undamaged = none_damaged told (λ damage is. subst (λ (t : OpenFault). LacksVersions t schema) is lacks);
  }

  pub of_version : (versions : List ℤ) → LacksVersion told versions → IsOfVersion told
  of_version versions lacks = record {
    not_old = λ is. subst (λ (t : OpenFault). LacksVersion t versions) is lacks;
    undamaged = none_damaged told (λ damage is. subst (λ (t : OpenFault). LacksVersion t versions) is lacks);
  }

of_version_want : (cause : TableFault) → IsOfVersion (open_fault_of cause)
of_version_want table.Missing = record { not_old = λ is. cc; undamaged = tt }
of_version_want (table.Unavailable why) = record { not_old = λ is. cc; undamaged = tt }

pub of_version_by_call : {T : Type 0} (r : Result T OpenFault) (cause : TableFault)
    → r ≡ Err (open_fault_of cause) → IfErr r IsOfVersion
of_version_by_call r cause is = rw is (of_version_want cause)

-- so is an audit, unless it found damage
pub told_by_audit : (cause : AuditFault) (db : Database) (P : Damage → Type 0)
    → ((damage : Damage) → P damage → Warrants (fault.Damaged damage) db) → IfAuditDamaged cause P
    → Warrants (damage_fault cause) db
told_by_audit (audit.Damaged damage) db P more found = more damage found
told_by_audit audit.Memory db P more found = tt

-- the current version is named
pub names_current : (db : Database) → IsCurrent db → NamesVersion (pos 3) db.trees
names_current db current = subst (λ version. NamesVersion version db.trees) current.is current.named
