-- How the answer of a query is handed out.
use Rattle.std.specs.Prelude.{◌≡◌, ◌⊎◌, ℕ, Bool, true, false, List, [], map, Result, OnOk, OnErr}
use Rattle.records.specs.Streams.{TakesRows}
use Rattle.sqlite_value.specs.Order.{Row}
use Rattle.sqlite.specs.State.{State, HasCleanDisk, Begins, Shown}
use Rattle.ledger_sql.specs.declared.entry_cells.EntryCells.{EntryCells}
use Rattle.ledger_sql.specs.Entries.{entry_values}

-- the sink has taken nothing or a beginning of the answer, and after Ok it is full or has all of
-- it; after an Err it wants more
pub record HandsRows {K E : Type 0} (takes : K → EntryCells → K → Type 0) (is_full : K → Bool)
    (sql : List ℕ) (params : Row) (before after : State) (old new : K)
    (result : Result (Unit {0}) E) : Type 0 where
  pub handed : List EntryCells
  pub taken : TakesRows takes old handed new
  pub first : HasCleanDisk after →
      (handed ≡ []) ⊎ Begins sql params before (map entry_values handed)
  pub ended : HasCleanDisk after → OnOk result
      ((is_full new ≡ true) ⊎ Shown sql params before after (map entry_values handed))
  pub wants : OnErr result (is_full new ≡ false)
