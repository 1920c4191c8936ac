-- The list of a database's tenants.
use Rattle.std.specs.Prelude.{◌≡◌, ℕ, List, [], ◌∷◌, map, Option, Some, string_bytes, All, IsPermutation, IsSorted}
use Rattle.std.specs.Cmp.Lexicographic.{slice_cmp}
use Rattle.std.specs.List.{AllZip}
use Rattle.std.specs.Ordering.{nat_cmp, on}
use Rattle.std.specs.declared.cmp.Ordering.{Ordering}
use Rattle.records.specs.Machine.{Machine}
use Rattle.rows.specs.declared.all_rows.DirectoryRow.{DirectoryRow}
use Rattle.sqlite_value.specs.declared.value.Value.TheVariants.{Text, Blob}
use Rattle.sqlite_value.specs.Order.{Row, column}
use Rattle.sqlite_trees.specs.Tree.{Trees}
use Rattle.ledger_sql.specs.TableRows.{directory_rows}
use Rattle.stored_ledgers.specs.Directory.{number_of, tenants_in}
use Rattle.stored_ledgers.specs.declared.directory.ListedTenant.{ListedTenant}

-- the name and the digest in a row of the directory, and those of a listed tenant
abbrev pub without_its_number : Row → Row
without_its_number row = column row 1 ∷ column row 2 ∷ []

abbrev pub listed_values : ListedTenant → Row
listed_values tenant = Text tenant.name ∷ Blob tenant.digest ∷ []

-- in order of name, as bytes go
abbrev pub by_name : ListedTenant → ListedTenant → Ordering
by_name = on (λ tenant. tenant.name) (slice_cmp nat_cmp)

-- the clock is that of the machine under the tenant's digest
abbrev pub HasItsClock : Trees → ListedTenant → Type 0
HasItsClock trees tenant =
    (m : Machine) × (tenants_in trees tenant.digest ≡ Some m) × (tenant.clock ≡ m.clock)

-- each tenant of the directory is listed once, with its clock, by name
pub record AreListed (trees : Trees) (tenants : List ListedTenant) : Type 0 where
  pub all : IsPermutation (map without_its_number (directory_rows trees))
      (map listed_values tenants)
  pub clocks : All (HasItsClock trees) tenants
  pub order : IsSorted by_name tenants

-- the row of the directory is that of the tenant with its digest
abbrev pub IsTenantOf : Trees → DirectoryRow → Type 0
IsTenantOf trees row = number_of row.digest trees ≡ Some row.number

-- a tenant is listed with the name and the digest of this row, and with this clock
pub record IsMadeOf (row : DirectoryRow) (found : Option ℕ) (tenant : ListedTenant) : Type 0 where
  pub name : tenant.name ≡ string_bytes row.name
  pub digest : tenant.digest ≡ row.digest
  pub clock : found ≡ Some tenant.clock

-- the tenant of such a row; those of some rows, one for each
pub record IsThat (trees : Trees) (row : DirectoryRow) (tenant : ListedTenant) : Type 0 where
  pub name : tenant.name ≡ string_bytes row.name
  pub digest : tenant.digest ≡ row.digest
  pub clock : HasItsClock trees tenant

abbrev pub AreThose : Trees → List DirectoryRow → List ListedTenant → Type 0
AreThose trees = AllZip (IsThat trees)
