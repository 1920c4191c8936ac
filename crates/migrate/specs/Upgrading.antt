-- What an upgrade makes of a database.
use Rattle.std.specs.Prelude.{◌≡◌, ℕ, ◌<◌, ◌≤◌, ℤ, pos, ◌==◌, [], ◌∷◌, if◌then◌else◌}
use Rattle.sqlite_schema.specs.declared.schema.Schema.{Schema}
use Rattle.sqlite_value.specs.Order.{Row}
use Rattle.sqlite_trees.specs.Tree.{Trees}
use Rattle.sqlite.specs.Effect.{Database}
use Rattle.sqlite.specs.State.{State}
use Rattle.ledger_sql.specs.Schema.{list_schema, balance_schema, ledger_schema}
use Rattle.ledger_sql.specs.Schema.{tenant_tree}
use Rattle.ledger_sql.specs.TableRows.{version_rows}
use Rattle.audit.specs.Newer.{none_failed}
use Rattle.stored_tables.specs.MachineOf.{machine_of}
use Rattle.stored_ledgers.specs.DueSets.{DueSets, AreCovered}
use Rattle.openings.specs.Found.{HasOrderedTables}
use Rattle.stored_ledgers.specs.Ledger.{HoldsLedgers}
use Rattle.stored_ledgers.specs.Resting.{Rests}
use Rattle.openings.specs.Opened.{CanServeOrdered, IsSoundIn}
use Rattle.openings.specs.Told.{HasNamesIn, IsSoundLedger}
use Rattle.migrate.specs.declared.any_version.Examined.{Examined}
use Rattle.openings.specs.Damage.{NamesVersion}

-- the same tenants, each with the same machine but for failed ids
pub record KeepsMachines (old new : Trees) : Type 0 where
  pub directory : new tenant_tree ≡ old tenant_tree
  pub machines : (number : ℤ)
      → none_failed (machine_of number new) ≡ none_failed (machine_of number old)

-- a ledger of the current version, in which no id has failed and which the sets cover, has come of
-- an older one
pub record IsUpgraded (sets : DueSets) (old new : Database) : Type 0 where
  pub ledgers : HoldsLedgers new
  pub covered : AreCovered sets new.trees
  pub kept : KeepsMachines old.trees new.trees
  pub none_failed : (number : ℤ) → (machine_of number new.trees).failed ≡ []

-- the schema of an older version
abbrev pub older_schema : ℕ → Schema
older_schema version = if version == 1 then list_schema else balance_schema

-- a ledger of this older version, whose tenants have names, and of sound rows
pub record IsOlderLedger (version : ℕ) (db : Database) : Type 0 where
  pub schema : db.schema ≡ older_schema version
  pub named : NamesVersion (pos version) db.trees
  pub names : HasNamesIn version db.trees
  pub sound : IsSoundIn version db.trees

-- there is such a version
abbrev pub IsKnown : ℕ → Type 0
IsKnown version = (1 ≤ version) × (version ≤ 3)

-- a sound ledger of this version
pub record IsLedgerOf (version : ℕ) (db : Database) : Type 0 where
  pub older : version < 3 → IsOlderLedger version db
  pub current : 3 ≤ version → IsSoundLedger db

-- a ledger of the version that was found, which can be served where that is the current one
pub record IsFoundIn (found : Examined) (db : Database) : Type 0 where
  pub ledger : IsLedgerOf found.version db
  pub serves : 3 ≤ found.version → CanServeOrdered found.due db

-- a ledger of the balance schema has come of one of the list schema
pub record IsLifted (old new : Database) : Type 0 where
  pub ledger : IsOlderLedger 2 new
  pub ordered : HasOrderedTables new
  pub kept : KeepsMachines old.trees new.trees

-- a ledger of this version has come of an older one
pub record IsRaised (to : ℕ) (sets : DueSets) (old new : Database) : Type 0 where
  pub current : 3 ≤ to → IsUpgraded sets old new
  pub lifted : to < 3 → IsLifted old new

-- so a crash may leave it
pub record Upgraded (old : Database) (trees : Trees) : Type 0 where
  pub sets : DueSets
  pub is : IsUpgraded sets old (record { schema = ledger_schema; trees = trees })

abbrev pub Lifted : Database → Trees → Type 0
Lifted old trees = IsLifted old (record { schema = balance_schema; trees = trees })

pub record Raised (to : ℕ) (old : Database) (trees : Trees) : Type 0 where
  pub current : 3 ≤ to → Upgraded old trees
  pub lifted : to < 3 → Lifted old trees

-- a ledger of this version has come of an older one, whatever is kept beside it
pub record HasRisen (to : ℕ) (old new : Database) : Type 0 where
  pub sets : DueSets
  pub is : IsRaised to sets old new

-- an older ledger between two calls
pub record IsOlder (schema : Schema) (s : State) : Type 0 where
  pub rests : Rests schema s
  pub ordered : HasOrderedTables s.now
  pub row : Row
  pub version : version_rows s.now.trees ≡ row ∷ []
