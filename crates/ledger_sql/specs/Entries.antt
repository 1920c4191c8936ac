-- An account's entries: the rows of its history, each with the transfer of the same time.
use Rattle.std.specs.Prelude.{◌≡◌, ◌⊎◌, ◌&&◌, ◌≤◌, ℕ, ℤ, Bool, true, false, Result, OnOk, OnErr}
use Rattle.std.specs.Prelude.{List, [], ◌++◌, length, map, take, filter, IsPermutation, IsSorted}
use Rattle.std.specs.List.{flat_map}
use Rattle.records.specs.Streams.{TakesRows}
use Rattle.sqlite_value.specs.declared.value.Value.{Value}
use Rattle.sqlite_value.specs.Order.{Row, column, value_cmp}
use Rattle.sqlite_trees.specs.Tree.{Trees}
use Rattle.ledger_sql.specs.declared.entry_cells.EntryCells.{EntryCells}
use Rattle.ledger_sql.specs.TableRows.{history_rows, transfer_rows, is_blob, is_same}
use Rattle.ledger_sql.specs.Values.{history_values, transfer_values}

-- the values of an entry: of its history row, and then of its transfer
abbrev pub entry_values : EntryCells → Row
entry_values entry = history_values entry.history ++ transfer_values entry.transfer

-- the rows of an account's history whose timestamp passes a test
abbrev pub history_when : List ℕ → (Value → Bool) → List Row → List Row
history_when account in_time history =
    filter (λ row. is_blob account (column row 0) && in_time (column row 1)) history

-- rows of a history, each with the transfers of the same timestamp
abbrev pub with_transfers : List Row → List Row → List Row
with_transfers transfers history =
    flat_map (λ row.
    map (λ transfer. row ++ transfer)
    (filter (λ transfer. is_same (column transfer 12) (column row 1)) transfers)) history

-- the entries of a tenant's account whose timestamp passes a test
abbrev pub entries_when : ℤ → List ℕ → (Value → Bool) → Trees → List Row
entries_when tenant account in_time trees =
    with_transfers (transfer_rows tenant trees)
    (history_when account in_time (history_rows tenant trees))

-- the entries ascend by their timestamps, as SQL orders values; they descend
abbrev pub AreOldestFirst : List Row → Type 0
AreOldestFirst entries = IsSorted (λ a b. value_cmp (column a 1) (column b 1)) entries

abbrev pub AreNewestFirst : List Row → Type 0
AreNewestFirst entries = IsSorted (λ a b. value_cmp (column b 1) (column a 1)) entries

-- the first of these entries were read, in order
pub record ReadsFirst (entries : List Row) (InOrder : List Row → Type 0)
    (read : List EntryCells) : Type 0 where
  pub rest : List Row
  pub all : IsPermutation entries (map entry_values read ++ rest)
  pub order : InOrder (map entry_values read ++ rest)

-- so many of these rows were read, the first in order, or all, if there are no more
pub record ReadsUpTo {R : Type 0} (values : R → Row) (count : ℕ) (rows : List Row)
    (InOrder : List Row → Type 0) (read : List R) : Type 0 where
  pub ordered : List Row
  pub all : IsPermutation rows ordered
  pub order : InOrder ordered
  pub read_is : map values read ≡ take count ordered

-- The first of some entries were handed to a sink, one after the other, and no more than a number
-- of them. While the disk was honest they are none or the first of these entries in order, and
-- after Ok the sink is full or has so many of them, or all. After an Err it wants more.
pub record HandsUpTo {K E : Type 0} (takes : K → EntryCells → K → Type 0)
    (is_full : K → Bool) (IsHonest : Type 0) (count : ℕ) (entries : List Row)
    (InOrder : List Row → Type 0) (old new : K) (result : Result (Unit {0}) E) : Type 0 where
  pub handed : List EntryCells
  pub taken : TakesRows takes old handed new
  pub within : IsHonest → length handed ≤ count
  pub first : IsHonest → (handed ≡ []) ⊎ ReadsFirst entries InOrder handed
  pub ended : IsHonest → OnOk result
      ((is_full new ≡ true) ⊎ ReadsUpTo entry_values count entries InOrder handed)
  pub wants : OnErr result (is_full new ≡ false)
