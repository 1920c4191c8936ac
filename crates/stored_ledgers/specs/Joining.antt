-- A new tenant.
use Rattle.std.specs.Prelude.{◌≡◌, ◌≢◌, ℕ, ℤ, pos, List, [], ◌∷◌, Option, Some, None, Result, Ok, Err, IsPermutation}
use Rattle.records.specs.Machine.{new_machine}
use Rattle.sqlite.specs.Effect.{Database}
use Rattle.sqlite_trees.specs.Tree.{Trees}
use Rattle.ledger_sql.specs.Schema.{schema_tree}
use Rattle.ledger_sql.specs.Strangers.{KeepsStrangers}
use Rattle.ledger_sql.specs.TableRows.{directory_rows}
use Rattle.ledger_sql.specs.Values.{directory_values}
use Rattle.stored_tables.specs.Frames.{KeepsRows, AreNumbered}
use Rattle.stored_tables.specs.Holds.{HoldsMachine}
use Rattle.chain.specs.Ledgers.{Tenants, KeepsOthers}
use Rattle.stored_ledgers.specs.Directory.{IsLeastFree, with_name, with_digest, tenants_in}
use Rattle.stored_ledgers.specs.Ledger.{HasNoRows, HoldsLedgers}
use Rattle.stored_ledgers.specs.declared.joining.AddTenant.{AddTenant}
use Rattle.stored_ledgers.specs.declared.joining.AddTenant.TheVariants.{NameTaken, DigestTaken, Unavailable as IsUnavailable}
use Rattle.stored_ledgers.specs.declared.joining.Taken.{Taken}
use Rattle.stored_ledgers.specs.declared.joining.Taken.TheVariants.{Name, Digest}
use Rattle.stored_ledgers.specs.Transactions.{Answer}

-- the directory has one row more, the tenant's rows are those of a new machine, and all others stay
pub record Joins (number : ℕ) (name digest : List ℕ) (old new : Database) : Type 0 where
  pub schema : new.schema ≡ old.schema
  pub version : new.trees schema_tree ≡ old.trees schema_tree
  pub numbered : AreNumbered new.trees
  pub directory : IsPermutation
      (directory_values (pos number) name digest ∷ directory_rows old.trees)
      (directory_rows new.trees)
  pub others : (other : ℤ) → other ≢ pos number → KeepsRows other old.trees new.trees
  pub holds : HasNoRows (pos number) old.trees → HoldsMachine (pos number) new_machine new.trees
  pub strangers : KeepsStrangers old new

-- what another tenant has of these two
abbrev pub AreTaken : List ℕ → List ℕ → Trees → Option Taken → Type 0
AreTaken name digest trees (Some Name) = with_name name trees ≢ []
AreTaken name digest trees (Some Digest) =
    (with_name name trees ≡ []) × (with_digest digest trees ≢ [])
AreTaken name digest trees None = (with_name name trees ≡ []) × (with_digest digest trees ≡ [])

-- the tenant has joined, under the least free number
pub record IsJoined (name digest : List ℕ) (old new : Database) : Type 0 where
  pub number : ℕ
  pub least : IsLeastFree number old.trees
  pub joins : Joins number name digest old new

-- so a crash may leave it
abbrev pub Joined : List ℕ → List ℕ → Database → Trees → Type 0
Joined name digest old trees =
    AreTaken name digest old.trees None
    × IsJoined name digest old (record { schema = old.schema; trees = trees })

-- a tenant has a new machine, where it had none, and every other machine is as before
pub record AddsTenant (digest : List ℕ) (old new : Tenants) : Type 0 where
  pub none : old digest ≡ None
  pub own : new digest ≡ Some new_machine
  pub others : KeepsOthers digest old new

-- so it is of a tenant that has joined
abbrev pub JoiningAddsOne : Type 0
JoiningAddsOne =
    (name digest : List ℕ) (old new : Database) → HoldsLedgers old
    → AreTaken name digest old.trees None → IsJoined name digest old new
    → AddsTenant digest (tenants_in old.trees) (tenants_in new.trees)

-- what the adding of a tenant answers
abbrev pub joining_answer : Answer (Unit {0}) Taken → Result (Unit {0}) AddTenant
joining_answer (Ok (Ok done)) = Ok tt
joining_answer (Ok (Err Name)) = Err NameTaken
joining_answer (Ok (Err Digest)) = Err DigestTaken
joining_answer (Err why) = Err (IsUnavailable why)

-- and what it leaves
abbrev pub HasJoined : List ℕ → List ℕ → Database → Database → Result (Unit {0}) AddTenant → Type 0
HasJoined name digest old new (Ok done) =
    AreTaken name digest old.trees None × IsJoined name digest old new
HasJoined name digest old new (Err NameTaken) =
    AreTaken name digest old.trees (Some Name) × (new ≡ old)
HasJoined name digest old new (Err DigestTaken) =
    AreTaken name digest old.trees (Some Digest) × (new ≡ old)
HasJoined name digest old new (Err (IsUnavailable why)) = new ≡ old
