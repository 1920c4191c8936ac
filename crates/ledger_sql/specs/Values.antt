-- A row's cells as SQL's values, in the order of the table's columns behind `tenant`.
use Rattle.std.specs.Prelude.{ℕ, ℤ, List, [], ◌∷◌}
use Rattle.sqlite_value.specs.Order.{Row}
use Rattle.sqlite_value.specs.declared.value.Value.TheVariants.{Int, Text, Blob}
use Rattle.rows.specs.declared.account_cells.AccountCells.{AccountCells}
use Rattle.rows.specs.declared.transfer_cells.TransferCells.{TransferCells}
use Rattle.rows.specs.declared.balance_cells.BalanceCells.{BalanceCells}
use Rattle.rows.specs.declared.status_cells.StatusCells.{StatusCells}
use Rattle.rows.specs.declared.history_cells.HistoryCells.{HistoryCells}

abbrev pub version_values : ℤ → Row
version_values version = Int version ∷ []

abbrev pub clock_values : ℤ → Row
clock_values clock = Int clock ∷ []

abbrev pub account_values : AccountCells → Row
account_values a =
    Blob a.id ∷ Blob a.user_data_128 ∷ Blob a.user_data_64 ∷ Int a.user_data_32 ∷ Int a.ledger
    ∷ Int a.code ∷ Int a.flags ∷ Int a.timestamp ∷ []

abbrev pub transfer_values : TransferCells → Row
transfer_values t =
    Blob t.id ∷ Blob t.debit ∷ Blob t.credit ∷ Blob t.amount ∷ Blob t.pending_id
    ∷ Blob t.user_data_128 ∷ Blob t.user_data_64 ∷ Int t.user_data_32 ∷ Int t.timeout
    ∷ Int t.ledger ∷ Int t.code ∷ Int t.flags ∷ Int t.timestamp ∷ Int t.at_clock ∷ []

abbrev pub balance_values : BalanceCells → Row
balance_values b = Blob b.account ∷ Blob b.dp ∷ Blob b.dd ∷ Blob b.cp ∷ Blob b.cc ∷ []

abbrev pub status_values : StatusCells → Row
status_values s = Blob s.transfer ∷ Int s.state ∷ Int s.due ∷ []

abbrev pub history_values : HistoryCells → Row
history_values h =
    Blob h.account ∷ Int h.timestamp ∷ Blob h.dp ∷ Blob h.dd ∷ Blob h.cp ∷ Blob h.cc ∷ []

-- an id alone
abbrev pub id_values : List ℕ → Row
id_values id = Blob id ∷ []

-- a row of the directory: number, name, digest
abbrev pub directory_values : ℤ → List ℕ → List ℕ → Row
directory_values number name digest = Int number ∷ Text name ∷ Blob digest ∷ []
