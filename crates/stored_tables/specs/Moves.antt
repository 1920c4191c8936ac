-- How the rows of one tenant move inside a transaction.
use Rattle.std.specs.Prelude.{ℕ, ℤ, ◌<◌, ◌≤◌, ◌^◌, ◌≡◌, List, All, IsTrue}
use Rattle.std.specs.Prelude.{Option, Some, None, IsSome}
use Rattle.sqlite_trees.specs.Tree.{Trees}
use Rattle.sqlite.specs.Effect.{Database}
use Rattle.sqlite.specs.State.{State}
use Rattle.records.specs.declared.accepted.Accepted.{Accepted}
use Rattle.records.specs.declared.accepted.Ending.{Ending}
use Rattle.records.specs.declared.transfer.Transfer.{Transfer}
use Rattle.records.specs.Step.{max_clock}
use Rattle.engine.specs.EndingLaw.{ended_id}
use Rattle.rows.specs.declared.balance_row.BalanceRow.{BalanceRow}
use Rattle.rows.specs.declared.status_row.StatusRow.{StatusRow}
use Rattle.rows.specs.Widths.{IsStorableStatus}
use Rattle.rows.specs.Keyed.{row_with}
use Rattle.rows.specs.Tables.{HasDistinctKeys}
use Rattle.rows.specs.TypedRows.{TypedRows}
use Rattle.ledger_sql.specs.Effects.{IsInside, WritesInside}
use Rattle.ledger_sql.specs.Strangers.{KeepsStrangers}
use Rattle.stored_tables.specs.Frames.{KeepsOtherTenants, AreNumbered}
use Rattle.stored_tables.specs.Holds.{HoldsRows}

-- in a transaction over the current schema, and the store is open
pub record CanWrite (s : State) : Type 0 where
  pub inside : IsInside s
  pub is_open : IsTrue s.is_open

-- the tenant has these rows now, and all else is as it was
pub record MovesRows (tenant : ℤ) (moved : TypedRows) (old new : Database) : Type 0 where
  pub numbered : AreNumbered new.trees
  pub others : KeepsOtherTenants tenant old.trees new.trees
  pub strangers : KeepsStrangers old new
  pub rows : HoldsRows tenant moved new.trees

-- the transaction goes on, and where the tenant's rows are such, they have changed so
pub record ChangesRows (tenant : ℤ) (can : TypedRows → Type 0) (change : TypedRows → TypedRows)
    (old new : State) : Type 0 where
  pub inside : WritesInside old new
  pub moves :
      (rows : TypedRows) → can rows → AreNumbered old.now.trees →
      HoldsRows tenant rows old.now.trees →
      MovesRows tenant (change rows) old.now new.now

-- any rows
abbrev pub Any : TypedRows → Type 0
Any rows = Unit {0}

-- in a table whose keys are ids that tell its rows apart, a row has this one
pub record IsThere {R : Type 0} (key : R → ℕ) (id : ℕ) (rows : List R) : Type 0 where
  pub ids : All (λ row. key row < 2 ^ 128) rows
  pub distinct : HasDistinctKeys key rows
  pub found : IsSome (row_with key id rows)

-- the two accounts of a transfer have balance rows
pub record HasBoth (t : Transfer) (rows : List BalanceRow) : Type 0 where
  pub debit : IsThere (λ row. row.account) t.debit_account_id rows
  pub credit : IsThere (λ row. row.account) t.credit_account_id rows

-- a pending transfer with this id has a status row, and all status rows fit a file
pub record HasStatus (id : ℕ) (rows : List StatusRow) : Type 0 where
  pub there : IsThere (λ row. row.transfer) id rows
  pub storable : All IsStorableStatus rows

-- so has the one that is ended, if one is
abbrev pub CanEnd : Option Ending → List StatusRow → Type 0
CanEnd None rows = Unit {0}
CanEnd (Some ending) rows = HasStatus (ended_id ending) rows

-- the times of a transfer are at most the latest clock
pub record HasBoundedTimes (t : Transfer) : Type 0 where
  pub timestamp : t.timestamp ≤ max_clock
  pub at : t.at ≤ max_clock

-- what an accepted transfer changes is there
pub record CanAccept (a : Accepted) (rows : TypedRows) : Type 0 where
  pub balances : HasBoth a.stored rows.balances
  pub ended : CanEnd a.ends rows.statuses

-- what is found is the tenant's status row with this id, if there is one
abbrev pub IsStatusOf : ℤ → ℕ → Trees → Option StatusRow → Type 0
IsStatusOf tenant id trees found =
    (rows : TypedRows) → HoldsRows tenant rows trees → All IsStorableStatus rows.statuses →
    HasDistinctKeys (λ row. row.transfer) rows.statuses →
    found ≡ row_with (λ row. row.transfer) id rows.statuses
