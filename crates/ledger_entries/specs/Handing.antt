-- What a sink is handed of the entries of some rows of the history.
use Rattle.std.specs.Prelude.{◌≡◌, ◌⊎◌, ◌&&◌, ◌+◌, ℕ, ℤ, Bool, true, false, IsTrue, List, [], ◌∷◌}
use Rattle.std.specs.Prelude.{◌++◌, filter, length, map, Result, IfOk, OnErr, IsPermutation}
use Rattle.records.specs.Streams.{TakesRows}
use Rattle.sqlite_value.specs.Order.{Row, column}
use Rattle.sqlite_value.specs.declared.value.Value.TheVariants.{Int}
use Rattle.sqlite_trees.specs.Tree.{Trees}
use Rattle.sqlite.specs.State.{State, IsUnchanged}
use Rattle.rows.specs.declared.history_cells.HistoryCells.{HistoryCells}
use Rattle.rows.specs.declared.transfer_cells.TransferCells.{TransferCells}
use Rattle.ledger_sql.specs.declared.entry_cells.EntryCells.{EntryCells}
use Rattle.ledger_sql.specs.Entries.{entry_values, with_transfers}
use Rattle.ledger_sql.specs.Schema.{transfer_tree}
use Rattle.ledger_sql.specs.TableRows.{cells_from, is_int, is_own, transfer_rows}
use Rattle.ledger_sql.specs.Values.{transfer_values}
use Rattle.ledger_layout.specs.declared.kind.TenantRow.{TenantRow}

-- the columns of a tenant's transfer
abbrev pub transfer_columns : TenantRow TransferCells → Row
transfer_columns row = Int row.tenant ∷ transfer_values row.cells

-- a tenant's transfers of a time, as rows of their table
abbrev pub transfers_at : ℤ → ℤ → Trees → List Row
transfers_at tenant time trees =
    filter (λ row. is_own tenant row && is_int time (column row 14)) (trees transfer_tree)

-- the entry of a row of the history and a transfer that was read
abbrev pub entry_with : HistoryCells → ℤ × TenantRow TransferCells → EntryCells
entry_with history it = record { history = history; transfer = it.1.cells }

-- the entries of a row of the history
abbrev pub joined : ℤ → Trees → Row → List Row
joined tenant trees row =
    with_transfers (transfer_rows tenant trees) (cells_from 2 6 row ∷ [])

-- these are the entries of these rows, one row after the other
abbrev pub AreJoined : (Row → List Row) → List Row → List Row → Type 0
AreJoined join [] entries = entries ≡ []
AreJoined join (row ∷ rows) entries =
    (own : List Row) × (later : List Row) × IsPermutation (join row) own
    × (entries ≡ own ++ later) × AreJoined join rows later

-- The first of some entries were handed to a sink, and the count of those that are wanted fell by
-- as many. Where it goes on they are all; else the sink is full, or no more are wanted.
pub record HandsList {K : Type 0} (takes : K → EntryCells → K → Type 0) (is_full : K → Bool)
    (entries : List EntryCells) (had left : ℕ) (old new : K) (more : Bool) : Type 0 where
  pub handed : List EntryCells
  pub rest : List EntryCells
  pub all : entries ≡ handed ++ rest
  pub taken : TakesRows takes old handed new
  pub few : length handed + left ≡ had
  pub goes : more ≡ true → rest ≡ []
  pub wants : more ≡ true → is_full new ≡ false
  pub stops : more ≡ false → (is_full new ≡ true) ⊎ (left ≡ 0)

-- the same of the entries of some rows of the history; after an Err the sink wants more
pub record HandsJoined {K E : Type 0} (takes : K → EntryCells → K → Type 0) (is_full : K → Bool)
    (IsHonest : Type 0) (join : Row → List Row) (rows : List Row) (had left : ℕ) (old new : K)
    (result : Result Bool E) : Type 0 where
  pub handed : List EntryCells
  pub taken : TakesRows takes old handed new
  pub few : length handed + left ≡ had
  pub first : IsHonest → (rest : List Row) × AreJoined join rows (map entry_values handed ++ rest)
  pub goes : IsHonest → IfOk result
      (λ more. more ≡ true → AreJoined join rows (map entry_values handed))
  pub wants : IfOk result (λ more. more ≡ true → is_full new ≡ false)
  pub stops : IfOk result (λ more. more ≡ false → (is_full new ≡ true) ⊎ (left ≡ 0))
  pub failed : OnErr result (is_full new ≡ false)

-- what the transaction sees has not changed, nor has anything else where the store was open
abbrev pub IsStill : State → State → Type 0
IsStill old new = (new.now ≡ old.now) × (IsTrue old.is_open → IsUnchanged old new)
