-- Another key for a tenant.
use Rattle.std.specs.Prelude.{◌≡◌, ◌≢◌, ◌⊎◌, ℕ, ℤ, not, List, [], ◌∷◌, filter, Some, None, Result, Ok, Err, IsPermutation}
use Rattle.records.specs.Machine.{Machine}
use Rattle.sqlite.specs.Effect.{Database}
use Rattle.sqlite_value.specs.Order.{Row, column}
use Rattle.sqlite_trees.specs.Tree.{Trees}
use Rattle.ledger_sql.specs.Schema.{schema_tree}
use Rattle.ledger_sql.specs.Strangers.{KeepsStrangers}
use Rattle.ledger_sql.specs.TableRows.{directory_rows, is_int}
use Rattle.ledger_sql.specs.Values.{directory_values}
use Rattle.stored_tables.specs.Frames.{KeepsRows, AreNumbered}
use Rattle.chain.specs.Ledgers.{Tenants}
use Rattle.stored_ledgers.specs.Directory.{with_name, with_digest, digest_in, tenants_in}
use Rattle.stored_ledgers.specs.Ledger.{HoldsLedgers}
use Rattle.stored_ledgers.specs.declared.keying.ChangeKey.{ChangeKey}
use Rattle.stored_ledgers.specs.declared.keying.ChangeKey.TheVariants.{NoTenant, DigestTaken, Unavailable as IsUnavailable}
use Rattle.stored_ledgers.specs.declared.keying.KeyRefused.{KeyRefused}
use Rattle.stored_ledgers.specs.declared.keying.KeyRefused.TheVariants.{NoTenant as HasNoTenant, DigestTaken as HasDigestTaken}
use Rattle.stored_ledgers.specs.Transactions.{Answer}

-- no tenant has this name; one has this digest, and the tenant of this name has another
abbrev pub IsKeyRefused : List ℕ → List ℕ → Trees → KeyRefused → Type 0
IsKeyRefused name digest trees HasNoTenant = with_name name trees ≡ []
IsKeyRefused name digest trees HasDigestTaken =
    (with_digest digest trees ≢ [])
    × ((was : List ℕ) × (digest_in name trees ≡ Some was) × (was ≢ digest))

-- the rows of the directory that have another number
abbrev pub without_number : ℤ → Trees → List Row
without_number number trees =
    filter (λ row. not (is_int number (column row 0))) (directory_rows trees)

-- the tenant with this name has this digest, which it had before or nobody had; its number, the
-- rest of the directory, all tenants' rows and the tables of strangers stay; and nothing has
-- changed where it had it before
pub record IsKeyed (name digest : List ℕ) (old new : Database) : Type 0 where
  pub number : ℤ
  pub was : List ℕ
  pub named : with_name name old.trees ≡ directory_values number name was ∷ []
  pub free : (was ≡ digest) ⊎ (with_digest digest old.trees ≡ [])
  pub again : was ≡ digest → new ≡ old
  pub schema : new.schema ≡ old.schema
  pub version : new.trees schema_tree ≡ old.trees schema_tree
  pub numbered : AreNumbered new.trees
  pub directory : IsPermutation
      (directory_values number name digest ∷ without_number number old.trees)
      (directory_rows new.trees)
  pub rows : (tenant : ℤ) → KeepsRows tenant old.trees new.trees
  pub strangers : KeepsStrangers old new

-- so a crash may leave it
abbrev pub Keyed : List ℕ → List ℕ → Database → Trees → Type 0
Keyed name digest old trees =
    IsKeyed name digest old (record { schema = old.schema; trees = trees })

-- a machine stands under this digest that stood under another, under which there is none any more;
-- and every other machine is as before
pub record MovesKey (was digest : List ℕ) (old new : Tenants) : Type 0 where
  pub machine : Machine
  pub had : old was ≡ Some machine
  pub has : new digest ≡ Some machine
  pub free : was ≢ digest → old digest ≡ None
  pub gone : was ≢ digest → new was ≡ None
  pub others : (other : List ℕ) → other ≢ was → other ≢ digest → new other ≡ old other

-- so it is of a tenant whose key was changed
abbrev pub KeyingMovesKey : Type 0
KeyingMovesKey =
    (name digest : List ℕ) (old new : Database) → HoldsLedgers old
    → (keyed : IsKeyed name digest old new)
    → MovesKey keyed.was digest (tenants_in old.trees) (tenants_in new.trees)

-- what the change of a tenant's key answers
abbrev pub keying_answer : Answer (Unit {0}) KeyRefused → Result (Unit {0}) ChangeKey
keying_answer (Ok (Ok done)) = Ok tt
keying_answer (Ok (Err HasNoTenant)) = Err NoTenant
keying_answer (Ok (Err HasDigestTaken)) = Err DigestTaken
keying_answer (Err why) = Err (IsUnavailable why)

-- and what it leaves
abbrev pub HasKeyed :
    List ℕ → List ℕ → Database → Database → Result (Unit {0}) ChangeKey → Type 0
HasKeyed name digest old new (Ok done) = IsKeyed name digest old new
HasKeyed name digest old new (Err NoTenant) =
    IsKeyRefused name digest old.trees HasNoTenant × (new ≡ old)
HasKeyed name digest old new (Err DigestTaken) =
    IsKeyRefused name digest old.trees HasDigestTaken × (new ≡ old)
HasKeyed name digest old new (Err (IsUnavailable why)) = new ≡ old
