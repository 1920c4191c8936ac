-- Balances of a tenant's accounts that have changed and are not written yet.
use Rattle.std.specs.Prelude.{◌≡◌, ℕ, ℤ, ◌<◌, ◌^◌, ◌==◌, List, map, All, Option, Some, option_map}
use Rattle.std.specs.Prelude.{IsSome, if◌then◌else◌}
use Rattle.std.specs.Option.{unwrap_or}
use Rattle.sqlite_trees.specs.Tree.{Trees}
use Rattle.sqlite.specs.Effect.{Database}
use Rattle.sqlite.specs.State.{State}
use Rattle.records.specs.declared.balances.Balances.{Balances}
use Rattle.rows.specs.declared.balance_row.BalanceRow.{BalanceRow}
use Rattle.rows.specs.Keyed.{row_with}
use Rattle.rows.specs.Tables.{HasDistinctKeys}
use Rattle.rows.specs.TypedRows.{TypedRows}
use Rattle.ledger_sql.specs.Effects.{WritesInside}
use Rattle.ledger_sql.specs.Strangers.{KeepsStrangers}
use Rattle.stored_tables.specs.declared.kept.KeptRow.{KeptRow}
use Rattle.stored_tables.specs.Frames.{KeepsOtherTenants, AreNumbered}
use Rattle.stored_tables.specs.Holds.{HoldsRows}
use Rattle.stored_tables.specs.Moves.{Any}

-- what is kept of each account
abbrev pub Kept : Type 0
Kept = ℕ → Option Balances

-- what these rows keep
abbrev pub kept_in : List KeptRow → Kept
kept_in rows account =
    option_map (λ row. row.balances) (row_with (λ row. row.account) account rows)

-- these balances of an account beside what else is kept
abbrev pub with_balances : ℕ → Balances → Kept → Kept
with_balances account balances kept other =
    if account == other then Some balances else kept other

-- a balance row, with what is kept of its account in place of its own
abbrev pub row_with_kept : Kept → BalanceRow → BalanceRow
row_with_kept kept row = record row { balances = unwrap_or (kept row.account) row.balances }

-- all of them
abbrev pub with_kept : Kept → List BalanceRow → List BalanceRow
with_kept kept rows = map (row_with_kept kept) rows

-- the database has these rows of the tenant, once what is kept is put into its balance rows
pub record HoldsKept (tenant : ℤ) (kept : Kept) (rows : TypedRows) (trees : Trees) : Type 0 where
  pub stored : List BalanceRow
  pub ids : All (λ row. row.account < 2 ^ 128) stored
  pub distinct : HasDistinctKeys (λ row. row.account) stored
  pub there :
      (account : ℕ) → IsSome (kept account) →
      IsSome (row_with (λ row. row.account) account stored)
  pub balances : with_kept kept stored ≡ rows.balances
  pub holds : HoldsRows tenant (record rows { balances = stored }) trees

-- the tenant has these rows then, and all else is as it was
pub record MovesKept (tenant : ℤ) (kept : Kept) (moved : TypedRows) (old new : Database) :
    Type 0 where
  pub numbered : AreNumbered new.trees
  pub others : KeepsOtherTenants tenant old.trees new.trees
  pub strangers : KeepsStrangers old new
  pub rows : HoldsKept tenant kept moved new.trees

-- the transaction goes on, and where the tenant's rows are such with what was kept, they have
-- changed so with what is kept
pub record ChangesKept (tenant : ℤ) (was is : Kept) (can : TypedRows → Type 0)
    (change : TypedRows → TypedRows) (old new : State) : Type 0 where
  pub inside : WritesInside old new
  pub moves :
      (rows : TypedRows) → can rows → AreNumbered old.now.trees →
      HoldsKept tenant was rows old.now.trees →
      MovesKept tenant is (change rows) old.now new.now

-- some of it was written: the tenant's rows with what is kept stay what they were
abbrev pub Flushes : ℤ → Kept → Kept → State → State → Type 0
Flushes tenant was is old new = ChangesKept tenant was is Any (λ rows. rows) old new
