-- What rows that are read whole tell.
use Rattle.std.specs.Prelude.{ℕ, ℤ, List, map, IsPermutation, IsSorted}
use Rattle.std.specs.Ordering.{nat_cmp, int_cmp, on, then_cmp}
use Rattle.std.specs.Cmp.Lexicographic.{slice_cmp}
use Rattle.std.specs.declared.cmp.Ordering.{Ordering}
use Rattle.std.specs.declared.cmp.Ordering.TheVariants.{Equal}
use Rattle.sqlite_value.specs.Order.{Row}
use Rattle.rows.specs.declared.account_cells.AccountCells.{AccountCells}
use Rattle.rows.specs.declared.transfer_cells.TransferCells.{TransferCells}
use Rattle.rows.specs.declared.balance_cells.BalanceCells.{BalanceCells}
use Rattle.rows.specs.declared.status_cells.StatusCells.{StatusCells}
use Rattle.rows.specs.declared.history_cells.HistoryCells.{HistoryCells}
use Rattle.rows.specs.declared.all_rows.DirectoryRow.{DirectoryRow}

-- the order of ids, as columns of bytes have it
abbrev pub id_cmp : List ℕ → List ℕ → Ordering
id_cmp = slice_cmp nat_cmp

-- the orders of the tables' primary keys, within a tenant
abbrev pub clock_cmp : ℤ → ℤ → Ordering
clock_cmp a b = Equal

abbrev pub account_cmp : AccountCells → AccountCells → Ordering
account_cmp = on (λ row. row.id) id_cmp

abbrev pub transfer_cmp : TransferCells → TransferCells → Ordering
transfer_cmp = on (λ row. row.id) id_cmp

abbrev pub balance_cmp : BalanceCells → BalanceCells → Ordering
balance_cmp = on (λ row. row.account) id_cmp

abbrev pub status_cmp : StatusCells → StatusCells → Ordering
status_cmp = on (λ row. row.transfer) id_cmp

abbrev pub history_cmp : HistoryCells → HistoryCells → Ordering
history_cmp = then_cmp (on (λ row. row.account) id_cmp) (on (λ row. row.timestamp) int_cmp)

-- the order of the directory
abbrev pub directory_cmp : DirectoryRow → DirectoryRow → Ordering
directory_cmp = on (λ row. row.number) int_cmp

-- these rows were read: all of them, in order
pub record ReadsRows {R : Type 0} (values : R → Row) (cmp : R → R → Ordering) (table : List Row)
    (read : List R) : Type 0 where
  pub all : IsPermutation table (map values read)
  pub order : IsSorted cmp read
