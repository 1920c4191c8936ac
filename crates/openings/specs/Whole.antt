-- All rows of a database, table by table and tenant by tenant.
use Rattle.std.specs.Prelude.{◌≡◌, ℕ, ℤ, List, string_bytes, IsTrue, Option, Some, None}
use Rattle.std.specs.List.{AllZip}
use Rattle.rows.specs.declared.all_rows.AllRows.{AllRows}
use Rattle.rows.specs.declared.all_rows.DirectoryRow.{DirectoryRow}
use Rattle.rows.specs.declared.all_rows.TenantOfDigest.{TenantOfDigest}
use Rattle.rows.specs.declared.tenant_rows.TenantRows.{TenantRows}
use Rattle.rows.specs.TypedRows.{lists_of}
use Rattle.sqlite.specs.State.{State, HasCleanDisk}
use Rattle.sqlite_trees.specs.Tree.{Trees}
use Rattle.ledger_sql.specs.Reading.{ReadsRows}
use Rattle.ledger_sql.specs.Reading.{directory_cmp}
use Rattle.ledger_sql.specs.TableRows.{directory_rows}
use Rattle.ledger_sql.specs.Values.{directory_values}
use Rattle.stored_ledgers.specs.Directory.{number_of}
use Rattle.stored_ledgers.specs.Resting.{IsQuiet}
use Rattle.openings.specs.Tables.{HasTables, AreTenantRows}

-- a tenant's rows were read for this row of the directory, which has its digest and its number
pub record IsReadFor (version : ℕ) (trees : Trees) (row : DirectoryRow) (tenant : TenantOfDigest)
    : Type 0 where
  pub digest : tenant.digest ≡ row.digest
  pub rows : AreTenantRows version row.number trees (lists_of tenant.rows)

-- all rows of a database in this version: the directory, and each tenant's rows at its place there,
-- all in order of key
pub record AreAllRows (version : ℕ) (trees : Trees) (all : AllRows) : Type 0 where
  pub version_is : all.version ≡ version
  pub directory : ReadsRows (λ row. directory_values row.number (string_bytes row.name) row.digest)
      directory_cmp (directory_rows trees) all.directory.items
  pub tenants : AllZip (IsReadFor version trees) all.directory.items all.tenants.items

-- the rows of the tenant with this digest, if there is one
abbrev pub AreRowsOfDigest : ℕ → List ℕ → Trees → Option TenantRows → Type 0
AreRowsOfDigest version digest trees None = number_of digest trees ≡ None
AreRowsOfDigest version digest trees (Some rows) =
    (number : ℤ) × (number_of digest trees ≡ Some number)
    × AreTenantRows version number trees (lists_of rows)

-- as long as the disk was honest it is open and quiet, over the tables of this version
abbrev pub CanBeRead : ℕ → State → Type 0
CanBeRead version s = HasCleanDisk s → IsTrue s.is_open × IsQuiet s × HasTables version s.now.schema
