-- Which fault an opening for a migration tells, and in which case.
use Rattle.std.specs.Prelude.{◌≡◌, ◌≢◌, ◌⊎◌, ℕ, ◌<◌, pos, true, false, Bool}
use Rattle.rows.specs.declared.all_rows.AllRows.{AllRows}
use Rattle.audit.specs.declared.damage.Damage.{Damage}
use Rattle.sqlite.specs.Effect.{Database}
use Rattle.openings.specs.Damage.{HasFirstDamage}
use Rattle.openings.specs.Opened.{HasNames}
use Rattle.openings.specs.Told.{AreToldApart, HasNamesIn, NamesVersionOf, IsNoneTold, Warrants}
use Rattle.openings.specs.declared.opening.OpenFault.{OpenFault}
use Rattle.openings.specs.declared.opening.OpenFault.TheVariants as fault
use Rattle.migrate.specs.Naming.{names_other}
use Rattle.migrate.specs.Upgrading.{IsKnown, IsLedgerOf, older_schema}

-- a table of the version is missing by name, or one of a newer version is there; or the names are
-- right, and the tables are made otherwise, or there are others
abbrev pub LacksOlder : OpenFault → Type 0 → Bool → Type 0
LacksOlder fault.NotALedger Is names_other = names_other ≡ true
LacksOlder fault.Unreadable Is names_other = (names_other ≡ false) × (¬ Is)
LacksOlder other Is names_other = ⊥

-- of rows that were read: a tenant has a name that none may have; damage is told where none has
abbrev pub TellsOfRows : OpenFault → AllRows → Type 0
TellsOfRows fault.NotALedger all = ¬ HasNames all.directory.items
TellsOfRows (fault.Damaged damage) all = HasNames all.directory.items
TellsOfRows (fault.Unavailable why) all = Unit {0}
TellsOfRows other all = ⊥

-- the tables are those of this version, tenants have names, and this is the first damage
pub record IsDamagedOlder (version : ℕ) (damage : Damage) (db : Database) : Type 0 where
  pub schema : db.schema ≡ older_schema version
  pub names : HasNamesIn version db.trees
  pub damaged : HasFirstDamage version damage db.trees

-- the tables are those of this version, and a tenant has a name that none may have
pub record IsMisnamedOlder (version : ℕ) (db : Database) : Type 0 where
  pub schema : db.schema ≡ older_schema version
  pub names : ¬ HasNamesIn version db.trees

-- the case in which a fault is told of a database that names this older version
abbrev pub TellsOlder : ℕ → OpenFault → Database → Type 0
TellsOlder version fault.NotALedger db =
    LacksOlder fault.NotALedger (db.schema ≡ older_schema version)
    (names_other (older_schema version) db.schema)
    ⊎ IsMisnamedOlder version db
TellsOlder version fault.Unreadable db =
    LacksOlder fault.Unreadable (db.schema ≡ older_schema version)
    (names_other (older_schema version) db.schema)
TellsOlder version (fault.Damaged damage) db = IsDamagedOlder version damage db
TellsOlder version (fault.Unavailable why) db = Unit {0}
TellsOlder version other db = ⊥

-- the database names an older version, and the fault is told of one that does
pub record TellsOfOlder (told : OpenFault) (db : Database) : Type 0 where
  pub version : ℕ
  pub positive : 0 < version
  pub older : version < 3
  pub named : NamesVersionOf (λ number. number ≡ pos version) db
  pub tells : TellsOlder version told db

-- the case in which an opening for a migration tells a fault: of an older ledger as above; else as
-- each opening does, which never tells here that a ledger is an old one
abbrev pub TellsAny : OpenFault → Database → Type 0
TellsAny told db = ((told ≢ fault.OldSchema) × Warrants told db) ⊎ TellsOfOlder told db

-- of a database at most one fault is told so, and of a sound ledger of any version none
abbrev pub OlderCasesAreApart : Type 0
OlderCasesAreApart = (db : Database) → AreToldApart (λ told. TellsAny told db)

abbrev pub SoundOlderIsNotRefused : Type 0
SoundOlderIsNotRefused =
    (db : Database) (version : ℕ) → IsKnown version → IsLedgerOf version db
    → IsNoneTold (λ told. TellsAny told db)
