-- The due times that are kept in memory beside a database.
use Rattle.std.specs.Prelude.{◌≡◌, ℕ, ℤ, List, Some}
use Rattle.std.specs.declared.cmp.Ordering.{Ordering}
use Rattle.std.specs.Ordering.{nat_cmp, int_cmp, ordering_then}
use Rattle.std.specs.BTreeMap.{BTreeMap, get}
use Rattle.std.specs.BTreeSet.{BTreeSet, contains}
use Rattle.records.specs.Machine.{Machine}
use Rattle.sqlite_trees.specs.Tree.{Trees}
use Rattle.stored_tables.specs.Covers.{Covers}
use Rattle.stored_tables.specs.MachineOf.{machine_of}
use Rattle.stored_ledgers.specs.Directory.{number_of}

-- due times and ids
abbrev pub DueSet : Type 0
DueSet = BTreeSet (ℕ × ℕ)

-- for each tenant's number those of its pending transfers
abbrev pub DueSets : Type 0
DueSets = BTreeMap ℤ DueSet

-- by due time, and then by id
abbrev pub due_cmp : ℕ × ℕ → ℕ × ℕ → Ordering
due_cmp a b = ordering_then (nat_cmp a.0 b.0) (nat_cmp a.1 b.1)

-- the set has every open pending transfer with a timeout, and may have more
pub record CoversMachine (set : DueSet) (m : Machine) : Type 0 where
  pub all : Covers (contains due_cmp set) m

-- each tenant has such a set
abbrev pub AreCovered : DueSets → Trees → Type 0
AreCovered sets trees =
    (digest : List ℕ) (number : ℤ) → number_of digest trees ≡ Some number
    → (set : DueSet) × (get int_cmp sets number ≡ Some set)
    × CoversMachine set (machine_of number trees)
