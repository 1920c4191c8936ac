-- Holds that are due, and the search for tenants that have some.
use Rattle.std.specs.Prelude.{◌≡◌, ℕ, ℤ, pos, negsuc, ◌-◌, ◌≤ℤ◌, ◌<ℤ◌, if◌then◌else◌, ◌<◌, ◌≤◌, ◌⊎◌, nat_lt, nat_le, ◌&&◌, true, false, List, All, count_by, Some, IsTrue}
use Rattle.std.specs.BTreeSet.{contains}
use Rattle.std.specs.BTreeMap.{get}
use Rattle.std.specs.Int.{w64, int_wrapping_add}
use Rattle.std.specs.Ordering.{int_cmp, int_eq}
use Rattle.records.specs.Machine.{Machine}
use Rattle.records.specs.declared.facts.PendingState.TheVariants.{Open}
use Rattle.rows.specs.Prescribed.{rows_for}
use Rattle.sqlite_trees.specs.Tree.{Trees}
use Rattle.stored_tables.specs.MachineOf.{machine_of}
use Rattle.stored_ledgers.specs.Directory.{number_of}
use Rattle.stored_ledgers.specs.DueSets.{DueSet, DueSets, AreCovered, due_cmp}
use Rattle.stored_ledgers.specs.declared.due_search.Piece.{Piece}
use Rattle.stored_ledgers.specs.declared.due_search.Search.{Search}
use Rattle.stored_ledgers.specs.declared.overdue.Overdue.{Overdue}
use Rattle.stored_ledgers.specs.declared.due_search.TheConstants.{PIECE, LEFT}

-- the set has this hold
abbrev pub HasHold : DueSet → ℕ → ℕ → Type 0
HasHold set due id = IsTrue (contains due_cmp set (due, id))

-- one of its holds is due at this time; by a moment
abbrev pub HasOneAt : DueSet → ℕ → Type 0
HasOneAt set due = (id : ℕ) × HasHold set due id

abbrev pub HasOneBy : DueSet → ℕ → Type 0
HasOneBy set moment = (due : ℕ) × (due ≤ moment) × HasOneAt set due

-- how many are due after a moment and by another
abbrev pub due_within : DueSet → ℕ → ℕ → ℕ
due_within set after by = count_by (λ hold. nat_lt after hold.0 && nat_le hold.0 by) set.keys

-- how many are due between two moments
abbrev pub due_between : DueSet → ℕ → ℕ → ℕ
due_between set after before =
    count_by (λ hold. nat_lt after hold.0 && nat_lt hold.0 before) set.keys

-- more are due since a tenant was settled than are released at once, or one has been for a second
abbrev pub IsOverdue : DueSet → ℕ → ℕ → Type 0
IsOverdue set released moment =
    (PIECE < due_within set released moment) ⊎ HasOneBy set (moment - LEFT)

-- neither is so
pub record IsNotOverdue (set : DueSet) (released moment : ℕ) : Type 0 where
  pub few : due_within set released moment ≤ PIECE
  pub late : (due id : ℕ) → HasHold set due id → moment - LEFT < due

-- what is released of it at once: up to the last that is due by the moment, or, where more are due
-- since the tenant was settled than are released at once, up to the last of the first so many
pub record IsDuePiece (set : DueSet) (released moment : ℕ) (piece : Piece) : Type 0 where
  pub by : piece.until ≤ moment
  pub at : HasOneAt set piece.until
  pub few : due_between set released piece.until < PIECE
  pub full : piece.has_more ≡ true → PIECE ≤ due_within set released piece.until
  pub more : piece.has_more ≡ true → PIECE < due_within set released moment
  pub all : piece.has_more ≡ false → (due id : ℕ) → HasHold set due id → due ≤ moment
      → due ≤ piece.until
  pub enough : piece.has_more ≡ false → due_within set released moment ≤ PIECE

-- the least number, and the one behind a number: behind the greatest of all is the least
abbrev pub least_number : ℤ
least_number = negsuc 9223372036854775807

abbrev pub number_behind : ℤ → ℤ
number_behind number = int_wrapping_add w64 number (pos 1)

-- the search begins with the first tenant
abbrev pub BeginsSearch : Search → Type 0
BeginsSearch search = search.from ≡ least_number

-- to what time a tenant was settled, as far as the search knows
abbrev pub settled_to : Search → ℤ → ℕ
settled_to search number = if int_eq number search.last.0 then search.last.1 else 0

-- the set of a number is not overdue, if it has one
abbrev pub IsPassed : DueSets → ℕ → Search → ℤ → Type 0
IsPassed due moment search number =
    (set : DueSet) → get int_cmp due number ≡ Some set
    → IsNotOverdue set (settled_to search number) moment

-- so are all from where the search goes on, and those before a number
abbrev pub ArePassed : DueSets → ℕ → Search → Type 0
ArePassed due moment search =
    (number : ℤ) → search.from ≤ℤ number → IsPassed due moment search number

abbrev pub ArePassedBefore : DueSets → ℕ → Search → ℤ → Type 0
ArePassedBefore due moment search end =
    (number : ℤ) → search.from ≤ℤ number → number <ℤ end → IsPassed due moment search number

-- the set of this number is overdue and has this piece, those passed are not, and the search goes
-- on behind it
pub record FindsOverdue (due : DueSets) (moment : ℕ) (old new : Search) (number : ℤ)
    (piece : Piece) : Type 0 where
  pub ahead : old.from ≤ℤ number
  pub passed : ArePassedBefore due moment old number
  pub found : (set : DueSet) × (get int_cmp due number ≡ Some set)
      × IsOverdue set (settled_to old number) moment
      × IsDuePiece set (settled_to old number) moment piece
  pub goes_on : new.from ≡ number_behind number
  pub last : new.last ≡ (number, piece.until)

-- some set is overdue and is found so; and its number is missing, in this sense
abbrev pub FindsSome : DueSets → ℕ → Search → Search → Type 0
FindsSome due moment old new =
    (number : ℤ) × (piece : Piece) × FindsOverdue due moment old new number piece

abbrev pub FindsUnlisted : DueSets → ℕ → Search → Search → (ℤ → Type 0) → Type 0
FindsUnlisted due moment old new IsMissing =
    (number : ℤ) × (piece : Piece) × FindsOverdue due moment old new number piece
    × IsMissing number

-- what is told of it
abbrev pub piece_of : Overdue → Piece
piece_of overdue = record { until = overdue.until; has_more = overdue.has_more }

-- all that is left was passed, and the search begins anew
pub record BeginsAnew (due : DueSets) (moment : ℕ) (old new : Search) : Type 0 where
  pub passed : ArePassed due moment old
  pub begins : BeginsSearch new

-- some were passed, and the search goes on at a later number
pub record SearchGoesOn (due : DueSets) (moment : ℕ) (old new : Search) : Type 0 where
  pub passed : ArePassedBefore due moment old new.from
  pub later : old.from <ℤ new.from

-- nothing was found
abbrev pub FindsNone : DueSets → ℕ → Search → Search → Type 0
FindsNone due moment old new =
    (BeginsAnew due moment old new ⊎ SearchGoesOn due moment old new) × (new.last ≡ old.last)

-- no open pending transfer of a machine has been due for a second
abbrev pub IsTimely : Machine → ℕ → Type 0
IsTimely m moment = All (λ row. (due : ℕ) → row.state ≡ Open → row.due ≡ Some due
    → moment - LEFT < due) (rows_for 3 m).statuses

-- where the sets cover the ledgers, and a search from the first tenant on has found none and begins
-- anew, that is so of each tenant
abbrev pub WholeSearchTells : Type 0
WholeSearchTells =
    (due : DueSets) (moment : ℕ) (old new : Search) (trees : Trees) → AreCovered due trees
    → BeginsSearch old → FindsNone due moment old new → BeginsSearch new
    → (digest : List ℕ) (number : ℤ) → number_of digest trees ≡ Some number
    → least_number ≤ℤ number → IsTimely (machine_of number trees) moment
