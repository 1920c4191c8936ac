-- Tables whose rows stand in any order, for one tenant or for many.
use Rattle.std.specs.Prelude.{ℕ, ℤ, ◌+◌, ◌*◌, ◌^◌, ◌<◌, ◌≤◌, Bool, not, ◌==◌, ◌&&◌, All, List, [], ◌∷◌, map, filter, count_by, if◌then◌else◌}
use Rattle.std.specs.Ordering.{int_eq}
use Rattle.rows.specs.declared.history_row.HistoryRow.{HistoryRow}
use Rattle.rows.specs.TypedRows.{TypedRows}

-- no two rows have one key
abbrev pub HasDistinctKeys : {A : Type 0} → (A → ℕ) → List A → Type 0
HasDistinctKeys key rows = (id : ℕ) → count_by (λ row. key row == id) rows ≤ 1

-- one number for the key of a history row: its account, and its timestamp, which is below 2^64
abbrev pub history_key : HistoryRow → ℕ
history_key row = row.account * 2 ^ 64 + row.timestamp

-- the keys of each table
pub record AreKeyed (rows : TypedRows) : Type 0 where
  pub accounts : HasDistinctKeys (λ row. row.id) rows.accounts
  pub transfers : HasDistinctKeys (λ row. row.id) rows.transfers
  pub balances : HasDistinctKeys (λ row. row.account) rows.balances
  pub statuses : HasDistinctKeys (λ row. row.transfer) rows.statuses
  pub history : HasDistinctKeys history_key rows.history
  pub failed : HasDistinctKeys (λ id. id) rows.failed

-- each row's key is above those of the rows before it
abbrev pub IsAscendingBy : {A : Type 0} → (A → ℕ) → List A → Type 0
IsAscendingBy key [] = Unit {0}
IsAscendingBy key (row ∷ rows) = All (λ other. key row < key other) rows × IsAscendingBy key rows

-- the rows without the one that has this key
abbrev pub without_key : {A : Type 0} → (A → ℕ) → ℕ → List A → List A
without_key key id rows = filter (λ row. not (key row == id)) rows

-- a row of a table that tenants share
pub record Owned (R : Type 0) : Type 0 where
  pub tenant : ℤ
  pub row : R

-- whether it is this tenant's
abbrev pub is_owned_by : {R : Type 0} → ℤ → Owned R → Bool
is_owned_by tenant owned = int_eq owned.tenant tenant

-- the tenant's rows
abbrev pub own_rows : {R : Type 0} → ℤ → List (Owned R) → List R
own_rows tenant rows = map (λ owned. owned.row) (filter (is_owned_by tenant) rows)

-- the table, with a change of the tenant's row that has this key
abbrev pub own_changed : {R : Type 0} → (R → ℕ) → ℤ → ℕ → (R → R) → List (Owned R) → List (Owned R)
own_changed key tenant id change rows =
    map (λ owned.
    if is_owned_by tenant owned && (key owned.row == id)
    then record owned { row = change owned.row }
    else owned) rows
