-- Which fault an opening tells, and in which case.
use Rattle.std.specs.Prelude.{◌≡◌, ◌⊎◌, ℕ, ◌<ℤ◌, pos, true, false, Bool, List, ◌∷◌, [], ℤ, codes}
use Rattle.std.specs.List.{list_any, list_all}
use Rattle.rows.specs.declared.all_rows.AllRows.{AllRows}
use Rattle.audit.specs.declared.damage.Damage.{Damage}
use Rattle.sqlite_disk.specs.declared.Disk as disk
use Rattle.sqlite_disk.specs.declared.Files.{Files}
use Rattle.sqlite_disk.specs.declared.tally.Tally.{Tally}
use Rattle.sqlite_schema.specs.Names.{same_name}
use Rattle.sqlite_schema.specs.declared.schema.Schema.{Schema}
use Rattle.sqlite_schema.specs.declared.schema.Table.{Table}
use Rattle.sqlite_store.specs.Report.{named}
use Rattle.sqlite_trees.specs.Tree.{Trees}
use Rattle.sqlite_trees.specs.declared.error.StoreError.TheVariants.{Corrupt}
use Rattle.sqlite_wal.specs.Reads.{tally_of_files}
use Rattle.sqlite_wal.specs.Recovery.{Image}
use Rattle.sqlite.specs.Effect.{Database}
use Rattle.sqlite.specs.Files.{HoldsDatabase, IsNothing, image_of}
use Rattle.ledger_sql.specs.Effects.{StartsAs, IsLedger}
use Rattle.ledger_sql.specs.Schema.{after_schema, ledger_schema, no_schema}
use Rattle.openings.specs.Damage.{HasFirstDamage, IsDamagedIn, NamesVersion}
use Rattle.openings.specs.Found.{FindsOne, IsUnavailable}
use Rattle.openings.specs.Opened.{HasNames, IsSoundIn}
use Rattle.openings.specs.Shape.{has_ours}
use Rattle.openings.specs.Whole.{AreAllRows}
use Rattle.openings.specs.declared.opening.OpenFault.{OpenFault}
use Rattle.openings.specs.declared.opening.OpenFault.TheVariants as fault

-- a table has this name, but for the case of its letters
abbrev pub has_table : List ℕ → List Table → Bool
has_table name tables = list_any (λ table. same_name name table.name) tables

-- each of a ledger's tables is there, by its name
abbrev pub has_all : List Table → Bool
has_all tables = list_all (λ ours. has_table ours.name tables) ledger_schema.tables

-- the table of the version is not there; or it is not the first, or not made as a ledger's
abbrev pub LacksVersions : OpenFault → Schema → Type 0
LacksVersions fault.NotALedger schema = has_table (codes "schema") schema.tables ≡ false
LacksVersions fault.Unreadable schema =
    (has_table (codes "schema") schema.tables ≡ true) × (¬ StartsAs after_schema.tables schema)
LacksVersions other schema = ⊥

-- a ledger's table is not there; or they are not the first, or not made as a ledger's, or another
-- one refers to one of them
abbrev pub LacksTables : OpenFault → Schema → Type 0
LacksTables fault.NotALedger schema = has_all schema.tables ≡ false
LacksTables fault.Unreadable schema = (has_all schema.tables ≡ true) × (¬ IsLedger schema)
LacksTables other schema = ⊥

-- these are not one version above 0; or they are one, and it is above the current one
abbrev pub LacksVersion : OpenFault → List ℤ → Type 0
LacksVersion fault.NotALedger versions =
    (version : ℤ) → pos 0 <ℤ version → ¬ (versions ≡ version ∷ [])
LacksVersion fault.NewerSchema versions =
    (version : ℤ) × (pos 3 <ℤ version) × (versions ≡ version ∷ [])
LacksVersion other versions = ⊥

-- the table of the version comes first, and names one version, of which this is so
pub record NamesVersionOf (P : ℤ → Type 0) (db : Database) : Type 0 where
  pub starts : StartsAs after_schema.tables db.schema
  pub version : ℤ
  pub is : P version
  pub named : NamesVersion version db.trees

-- the version is the current one
abbrev pub IsCurrent : Database → Type 0
IsCurrent = NamesVersionOf (λ version. version ≡ pos 3)

-- a table of a ledger's name is not made or not placed as a ledger's
pub data IsMadeOtherwise (db : Database) : Type 0 where
  Of_version : LacksVersions fault.Unreadable db.schema → IsMadeOtherwise db
  Of_ledger : IsCurrent db → LacksTables fault.Unreadable db.schema → IsMadeOtherwise db

-- each tenant in the directory, however it is read in this version, has a name that a tenant may
-- have
abbrev pub HasNamesIn : ℕ → Trees → Type 0
HasNamesIn version trees =
    (all : AllRows) → AreAllRows version trees all → HasNames all.directory.items

abbrev pub HasGoodNames : Trees → Type 0
HasGoodNames = HasNamesIn 3

-- a table of a ledger's is missing, or no version is named, or a tenant has a name that none may
-- have
pub data IsNoLedger (db : Database) : Type 0 where
  No_versions : LacksVersions fault.NotALedger db.schema → IsNoLedger db
  No_version :
      StartsAs after_schema.tables db.schema →
      ((version : ℤ) → pos 0 <ℤ version → ¬ NamesVersion version db.trees) → IsNoLedger db
  No_table : IsCurrent db → LacksTables fault.NotALedger db.schema → IsNoLedger db
  No_name : IsCurrent db → IsLedger db.schema → ¬ HasGoodNames db.trees → IsNoLedger db

-- the tables are a ledger's of the current version, tenants have names, and this is the first
-- damage
pub record IsDamagedLedger (damage : Damage) (db : Database) : Type 0 where
  pub current : IsCurrent db
  pub ledger : IsLedger db.schema
  pub names : HasGoodNames db.trees
  pub damaged : IsDamagedIn 3 damage db.trees

-- the case in which a fault is told of a database that is there
abbrev pub Warrants : OpenFault → Database → Type 0
Warrants fault.InUse db = ⊥
Warrants fault.Unreadable db = IsMadeOtherwise db
Warrants fault.NotALedger db = IsNoLedger db
Warrants fault.OldSchema db = NamesVersionOf (λ version. (pos 0 <ℤ version) × (version <ℤ pos 3)) db
Warrants fault.NewerSchema db = NamesVersionOf (λ version. pos 3 <ℤ version) db
Warrants (fault.Damaged damage) db = IsDamagedLedger damage db
Warrants (fault.Unavailable why) db = Unit {0}

-- the number of a fault's case
abbrev pub case_of : OpenFault → ℕ
case_of fault.InUse = 0
case_of fault.Unreadable = 1
case_of fault.NotALedger = 2
case_of fault.OldSchema = 3
case_of fault.NewerSchema = 4
case_of (fault.Damaged damage) = 5
case_of (fault.Unavailable why) = 6

-- of these faults one is told, unless something is unavailable
abbrev pub AreToldApart : (OpenFault → Type 0) → Type 0
AreToldApart Warrants =
    (a b : OpenFault) → ¬ IsUnavailable a → ¬ IsUnavailable b → Warrants a → Warrants b
    → case_of a ≡ case_of b

-- none of them is told, unless something is unavailable
abbrev pub IsNoneTold : (OpenFault → Type 0) → Type 0
IsNoneTold Warrants = (told : OpenFault) → Warrants told → IsUnavailable told

-- rows that are sound, however they are read, have no damage, however they are read
abbrev pub SoundHasNoDamage : Type 0
SoundHasNoDamage =
    (version : ℕ) (damage : Damage) (trees : Trees) → IsSoundIn version trees
    → HasFirstDamage version damage trees → ⊥

-- a ledger of the current version: its tables are there, tenants have names, and rows are sound
pub record IsSoundLedger (db : Database) : Type 0 where
  pub current : IsCurrent db
  pub ledger : IsLedger db.schema
  pub names : HasGoodNames db.trees
  pub sound : IsSoundIn 3 db.trees

-- of a database at most one fault is told, and of such a ledger none
abbrev pub CasesAreApart : Type 0
CasesAreApart = (db : Database) → AreToldApart (λ fault. Warrants fault db)

abbrev pub SoundIsNotRefused : Type 0
SoundIsNotRefused = (db : Database) → IsSoundLedger db → IsNoneTold (λ fault. Warrants fault db)

-- what the files hold is no database, and they are not empty
abbrev pub HoldsNone : Image → Type 0
HoldsNone image = ¬ (((db : Trees) × HoldsDatabase image db) ⊎ IsNothing image)

-- what failed calls of the two files have met
abbrev pub tally_in : {D : Type 0} → disk.Ghosts D → Files D → Tally
tally_in g files = tally_of_files g (files.log, files.db)

-- the database refuses the files: they hold none, or a read has failed its test, as the disk counts
pub data AreRefused {D : Type 0} (g : disk.Ghosts D) (files left : Files D) : Type 0 where
  Holds_none : HoldsNone (image_of g files) → AreRefused g files left
  Failed_test : named (tally_in g files) (tally_in g left) ≡ Corrupt → AreRefused g files left

-- why the database's own opening refuses two files
abbrev pub IsUnopenedFor :
    {D : Type 0} → disk.Ghosts D → Files D → OpenFault → Files D → Type 0
IsUnopenedFor g files told left =
    IsUnavailable told ⊎ ((told ≡ fault.Unreadable) × AreRefused g files left)

-- why an opening is refused: as the database's own is; or in a case of the database that is there
abbrev pub IsToldBy :
    (OpenFault → Database → Type 0) → {D : Type 0} → disk.Ghosts D → Files D → OpenFault
    → Files D → Type 0
IsToldBy Refuses g files told left =
    IsUnopenedFor g files told left ⊎ FindsOne (Refuses told) (image_of g files)

abbrev pub IsFaultTold : {D : Type 0} → disk.Ghosts D → Files D → OpenFault → Files D → Type 0
IsFaultTold g files told left = IsToldBy Warrants g files told left

-- why no ledger is made behind these tables: one of a ledger's is there; or none such, but others,
-- or indexes or views
abbrev pub HindersMaking : OpenFault → Schema → Type 0
HindersMaking fault.NotALedger schema = has_ours schema ≡ true
HindersMaking fault.Unreadable schema = (has_ours schema ≡ false) × (¬ (schema ≡ no_schema))
HindersMaking (fault.Unavailable why) schema = Unit {0}
HindersMaking other schema = ⊥

-- of what is there at most one fault is told to a making, and where nothing is, none
abbrev pub MakingCasesAreApart : Type 0
MakingCasesAreApart = (schema : Schema) → AreToldApart (λ fault. HindersMaking fault schema)

abbrev pub NothingHindersMaking : Type 0
NothingHindersMaking = IsNoneTold (λ fault. HindersMaking fault no_schema)

-- why a making is refused: as the database's own opening is; or by the tables that are there
abbrev pub IsToldOfMaking : {D : Type 0} → disk.Ghosts D → Files D → OpenFault → Files D → Type 0
IsToldOfMaking g files told left =
    IsToldBy (λ fault db. HindersMaking fault db.schema) g files told left
