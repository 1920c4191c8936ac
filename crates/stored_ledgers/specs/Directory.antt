-- The tenants of a database.
use Rattle.std.specs.Prelude.{◌≡◌, ◌≢◌, ℕ, ◌<◌, ◌≤◌, ℤ, pos, Bool, true, false, List, [], ◌∷◌, filter, length, Option, Some, None}
use Rattle.std.specs.List.{list_any}
use Rattle.std.specs.Option.{option_map}
use Rattle.std.specs.Ordering.{int_eq}
use Rattle.rows.specs.declared.all_rows.DirectoryRow.{DirectoryRow}
use Rattle.sqlite_value.specs.declared.value.Value.{Value}
use Rattle.sqlite_value.specs.declared.value.Value.TheVariants.{Int, Text, Blob}
use Rattle.sqlite_value.specs.Order.{Row, column}
use Rattle.sqlite_trees.specs.Tree.{Trees}
use Rattle.chain.specs.Ledgers.{Tenants}
use Rattle.ledger_sql.specs.TableRows.{directory_rows, is_int, is_blob, with_name as rows_with_name}
use Rattle.stored_tables.specs.MachineOf.{machine_of}

-- the rows of the directory that have this number, this name, the digest of this key
abbrev pub with_number : ℤ → Trees → List Row
with_number number trees = filter (λ row. is_int number (column row 0)) (directory_rows trees)

abbrev pub with_name : List ℕ → Trees → List Row
with_name name trees = rows_with_name name (directory_rows trees)

abbrev pub with_digest : List ℕ → Trees → List Row
with_digest digest trees = filter (λ row. is_blob digest (column row 2)) (directory_rows trees)

-- the numbers, names and digests of all tenants are as before
abbrev pub KeepsDirectory : Trees → Trees → Type 0
KeepsDirectory old new = directory_rows new ≡ directory_rows old

-- the row of a tenant has a name, and the bytes of a digest
pub record IsEntry (row : Row) : Type 0 where
  pub name : List ℕ
  pub named : column row 1 ≡ Text name
  pub digest : List ℕ
  pub known : column row 2 ≡ Blob digest

-- no two tenants have one number, one name or one digest
pub record AreDistinct (trees : Trees) : Type 0 where
  pub numbers : (number : ℤ) → length (with_number number trees) ≤ 1
  pub names : (name : List ℕ) → length (with_name name trees) ≤ 1
  pub digests : (digest : List ℕ) → length (with_digest digest trees) ≤ 1

-- the whole number in a value, and the one in the first of some rows
abbrev pub number_in : Value → Option ℤ
number_in (Int number) = Some number
number_in _ = None

abbrev pub first_number : List Row → Option ℤ
first_number [] = None
first_number (row ∷ rows) = number_in (column row 0)

-- the number of the tenant with this digest, if there is one
unfoldable pub number_of : List ℕ → Trees → Option ℤ
number_of digest trees = first_number (with_digest digest trees)

-- the bytes in a value, and the digest in the first of some rows
abbrev pub bytes_in : Value → Option (List ℕ)
bytes_in (Blob bytes) = Some bytes
bytes_in _ = None

abbrev pub first_digest : List Row → Option (List ℕ)
first_digest [] = None
first_digest (row ∷ rows) = bytes_in (column row 2)

-- the digest of the tenant with this name, if there is one
unfoldable pub digest_in : List ℕ → Trees → Option (List ℕ)
digest_in name trees = first_digest (with_name name trees)

-- the machine of each tenant
abbrev pub tenants_in : Trees → Tenants
tenants_in trees digest = option_map (λ number. machine_of number trees) (number_of digest trees)

-- the least number from 1 that no tenant has
pub record IsLeastFree (number : ℕ) (trees : Trees) : Type 0 where
  pub positive : 0 < number
  pub free : with_number (pos number) trees ≡ []
  pub least : (other : ℕ) → 0 < other → other < number → with_number (pos other) trees ≢ []

-- a row has this number, and the least number from 1 that none has
abbrev pub has_number : List DirectoryRow → ℕ → Bool
has_number rows number = list_any (λ row. int_eq row.number (pos number)) rows

pub record IsLeastMissing (rows : List DirectoryRow) (number : ℕ) : Type 0 where
  pub positive : 0 < number
  pub missing : has_number rows number ≡ false
  pub least : (other : ℕ) → 0 < other → other < number → has_number rows other ≡ true

-- some digest is that of the tenant with this number
abbrev pub IsTenant : ℤ → Trees → Type 0
IsTenant number trees = (digest : List ℕ) × (number_of digest trees ≡ Some number)
