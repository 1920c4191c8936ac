-- An account's entries, handed out one after the other.
use Rattle.std.specs.Prelude.{◌≡◌, ◌⊎◌, ℕ, ℤ, true, false, Bool, List, [], ◌∷◌, Result, OnOk, OnErr}
use Rattle.records.specs.declared.filter.Order.{Order}
use Rattle.records.specs.declared.filter.Order.TheVariants.{Oldest, Newest}
use Rattle.records.specs.Machine.{Machine}
use Rattle.records.specs.Reads.{Entry, in_order}
use Rattle.records.specs.Streams.{TakesRows}
use Rattle.sqlite_value.specs.declared.value.Value.{Value}
use Rattle.ledger_sql.specs.declared.entry_cells.EntryCells.{EntryCells}
use Rattle.ledger_sql.specs.TableRows.{is_from, is_until}
use Rattle.stored_tables.specs.Entries.{AreCellsOf, account_entries}

-- cells of the first of some entries
abbrev pub AreFirst : ℕ → List Entry → List EntryCells → Type 0
AreFirst account entries [] = Unit {0}
AreFirst account [] (cells ∷ more) = ⊥
AreFirst account (entry ∷ entries) (cells ∷ more) =
    AreCellsOf account entry cells × AreFirst account entries more

-- cells of all of them
abbrev pub AreAll : ℕ → List Entry → List EntryCells → Type 0
AreAll account [] [] = Unit {0}
AreAll account [] (cells ∷ more) = ⊥
AreAll account (entry ∷ entries) [] = ⊥
AreAll account (entry ∷ entries) (cells ∷ more) =
    AreCellsOf account entry cells × AreAll account entries more

-- whether a timestamp is on the side of a bound to which entries in this order go
abbrev pub is_behind : Order → ℤ → Value → Bool
is_behind Oldest time = is_from time
is_behind Newest time = is_until time

-- the account's entries from a bound on, in this order
abbrev pub entries_behind : Machine → ℕ → Order → ℤ → List Entry
entries_behind m account order time =
    in_order order (account_entries m account (is_behind order time))

-- Entries of the account were handed to a sink. While the disk was honest they are the first of
-- these, and after Ok the sink is full or has all of them. After an Err it wants more.
pub record HandsAccount {K E : Type 0} (takes : K → EntryCells → K → Type 0) (is_full : K → Bool)
    (IsHonest : Type 0) (account : ℕ) (entries : List Entry) (old new : K)
    (result : Result (Unit {0}) E) : Type 0 where
  pub handed : List EntryCells
  pub taken : TakesRows takes old handed new
  pub first : IsHonest → AreFirst account entries handed
  pub ended : IsHonest → OnOk result ((is_full new ≡ true) ⊎ AreAll account entries handed)
  pub wants : OnErr result (is_full new ≡ false)
