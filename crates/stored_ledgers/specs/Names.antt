-- The names of the tenants of a database, and what a new tenant and another key make of them.
use Rattle.std.specs.Prelude.{◌≡◌, ◌≢◌, ℕ, List, [], ◌∷◌, Option, Some, None, unwrap_or}
use Rattle.sqlite.specs.Effect.{Database}
use Rattle.sqlite_value.specs.Order.{Row, column}
use Rattle.sqlite_trees.specs.Tree.{Trees}
use Rattle.stored_ledgers.specs.Directory.{bytes_in, with_name}
use Rattle.stored_ledgers.specs.Joining.{AreTaken, IsJoined}
use Rattle.stored_ledgers.specs.Keying.{IsKeyed}
use Rattle.stored_ledgers.specs.Ledger.{HoldsLedgers}

-- the digest of the tenant with each name, if there is one
abbrev pub Names : Type 0
Names = List ℕ → Option (List ℕ)

-- the digest in the first of some rows
abbrev pub first_named : List Row → Option (List ℕ)
first_named [] = None
first_named (row ∷ rows) = Some (unwrap_or (bytes_in (column row 2)) [])

abbrev pub names_in : Trees → Names
names_in trees name = first_named (with_name name trees)

-- each name is as before
abbrev pub KeepsNames : Names → Names → Type 0
KeepsNames old new = (name : List ℕ) → new name ≡ old name

-- this name goes together with this digest, and each other name is as before
pub record GivesName (name digest : List ℕ) (old new : Names) : Type 0 where
  pub own : new name ≡ Some digest
  pub others : (other : List ℕ) → other ≢ name → new other ≡ old other

-- so it is of a tenant that has joined, whose name nobody had
abbrev pub JoiningGivesName : Type 0
JoiningGivesName =
    (name digest : List ℕ) (old new : Database) → HoldsLedgers old
    → AreTaken name digest old.trees None → IsJoined name digest old new
    → (names_in old.trees name ≡ None)
    × GivesName name digest (names_in old.trees) (names_in new.trees)

-- and of one whose key was changed, which had the name before
abbrev pub KeyingGivesName : Type 0
KeyingGivesName =
    (name digest : List ℕ) (old new : Database) → HoldsLedgers old
    → (keyed : IsKeyed name digest old new)
    → (names_in old.trees name ≡ Some keyed.was)
    × GivesName name digest (names_in old.trees) (names_in new.trees)
