-- What an opening looks at.
use Rattle.std.specs.Prelude.{◌≡◌, ℕ, ℤ, pos, [], List, ◌∷◌, slice_get, string_bytes, Some, All, IsTrue}
use Rattle.std.specs.BTreeMap.{get}
use Rattle.std.specs.Ordering.{int_cmp}
use Rattle.rows.specs.declared.status_cells.StatusCells.{StatusCells}
use Rattle.rows.specs.declared.status_row.StatusRow.{StatusRow}
use Rattle.rows.specs.Cells.{status_cells}
use Rattle.rows.specs.Widths.{IsStorableStatus}
use Rattle.rows.specs.declared.all_rows.AllRows.{AllRows}
use Rattle.rows.specs.declared.all_rows.DirectoryRow.{DirectoryRow}
use Rattle.rows.specs.declared.all_rows.TenantOfDigest.{TenantOfDigest}
use Rattle.rows.specs.TypedRows.{lists_of}
use Rattle.std.specs.BTreeSet.{contains}
use Rattle.audit.specs.Sound.{AreSound}
use Rattle.sqlite_trees.specs.Tree.{Trees}
use Rattle.sqlite_wal.specs.Recovery.{Image}
use Rattle.sqlite.specs.Effect.{Database, IsDatabase}
use Rattle.sqlite.specs.Start.{FindsIn}
use Rattle.sqlite.specs.State.{State}
use Rattle.ledger_sql.specs.Effects.{IsLedger}
use Rattle.ledger_sql.specs.TableRows.{version_rows}
use Rattle.ledger_sql.specs.Values.{version_values}
use Rattle.stored_tables.specs.Covers.{IsCovered}
use Rattle.tenants.specs.NameText.{IsTenantName}
use Rattle.stored_ledgers.specs.DueSets.{DueSet, DueSets, AreCovered, due_cmp}
use Rattle.stored_ledgers.specs.Ledger.{HoldsLedgers}
use Rattle.openings.specs.Found.{HasOrderedTables}
pub use Rattle.openings.specs.Found.{LeavesRefused}
use Rattle.stored_ledgers.specs.Resting.{IsQuiet}
use Rattle.openings.specs.Whole.{AreAllRows}

-- the set has what the row with these cells tells, where it is an open transfer with a due time
abbrev pub CoversCells : DueSet → StatusCells → Type 0
CoversCells set cells =
    (row : StatusRow) → IsStorableStatus row → cells ≡ status_cells row
    → IsCovered (contains due_cmp set) row

-- the file names the current version, and no other
abbrev pub HasCurrentVersion : Trees → Type 0
HasCurrentVersion trees = version_rows trees ≡ version_values (pos 3) ∷ []

-- each tenant has a name that a tenant may have
abbrev pub HasNames : List DirectoryRow → Type 0
HasNames directory = All (λ row. IsTenantName (string_bytes row.name)) directory

-- the set of this number covers the rows of a tenant that has it
pub record IsKeptIn (sets : DueSets) (directory : List DirectoryRow) (tenants : List TenantOfDigest)
    (number : ℤ) : Type 0 where
  pub set : DueSet
  pub found : get int_cmp sets number ≡ Some set
  pub place : ℕ
  pub row : DirectoryRow
  pub tenant : TenantOfDigest
  pub row_is : slice_get directory place ≡ Some row
  pub numbered : row.number ≡ number
  pub tenant_is : slice_get tenants place ≡ Some tenant
  pub covers : All (CoversCells set) tenant.rows.statuses.items

-- so it is of each tenant in the directory
abbrev pub AreKept : DueSets → List DirectoryRow → List TenantOfDigest → Type 0
AreKept sets directory tenants =
    (place : ℕ) (row : DirectoryRow) (tenant : TenantOfDigest)
    → slice_get directory place ≡ Some row → slice_get tenants place ≡ Some tenant
    → IsKeptIn sets directory tenants row.number

-- the tables are a ledger's, all rows were read, each tenant has a name and the rows of a valid
-- machine, and the sets keep what is due
pub record IsExamined (sets : DueSets) (db : Database) : Type 0 where
  pub ledger : IsLedger db.schema
  pub version : HasCurrentVersion db.trees
  pub all : AllRows
  pub read : AreAllRows 3 db.trees all
  pub names : HasNames all.directory.items
  pub sound : All (λ tenant. AreSound 3 (lists_of tenant.rows)) all.tenants.items
  pub kept : AreKept sets all.directory.items all.tenants.items

-- all rows of the database, in this version, are those of valid machines
pub record IsSoundIn (version : ℕ) (trees : Trees) : Type 0 where
  pub all : AllRows
  pub read : AreAllRows version trees all
  pub sound : All (λ tenant. AreSound version (lists_of tenant.rows)) all.tenants.items

-- sound tables in which the rowids rise hold ledgers, and the sets cover them
abbrev pub CanServeOrdered : DueSets → Database → Type 0
CanServeOrdered sets db =
    IsDatabase db → HasOrderedTables db → HoldsLedgers db × AreCovered sets db.trees

-- a database was opened on what the files held
pub record WasOpenedOn (image : Image) (s : State) : Type 0 where
  pub is_open : IsTrue s.is_open
  pub quiet : IsQuiet s
  pub sound : IsDatabase s.now
  pub ordered : HasOrderedTables s.now
  pub found : FindsIn image s
