-- The rows of what is accepted, as they are written one after the other.
use Rattle.std.proofs.Common.{◌≡◌, ℕ, ℤ, pos, false, [], ◌∷◌, ◌++◌, Result, OnOk, sym, ap, ◌∙◌}
use Rattle.std.proofs.lemmas.List.Sorted.{IsPermutation-map, IsPermutation-trans}
use Rattle.std.proofs.lemmas.Result.{on_ok_weaker}
use Rattle.amount.specs.Column.{column_of}
use Rattle.sqlite_trees.specs.Tree.{Trees}
use Rattle.records.specs.Machine.{has_id}
use Rattle.records.specs.declared.account.Account.{Account}
use Rattle.records.specs.declared.unavailable.Unavailable.{Unavailable}
use Rattle.sqlite.specs.State.{State}
use Rattle.rows.specs.Cells.{account_cells, balance_cells}
use Rattle.rows.specs.Changes.{with_opened, new_balance, with_failed_id}
use Rattle.rows.specs.SameRows.{AreSameRows}
use Rattle.rows.specs.TypedRows.{TypedRows}
use Rattle.ledger_sql.specs.Effects.{IsInside, AddsRows}
use Rattle.ledger_sql.specs.TableRows.{account_rows, balance_rows, failed_rows}
use Rattle.ledger_sql.specs.Values.{clock_values, account_values, balance_values, id_values}
use Rattle.stored_tables.specs.Holds.{HoldsRows}
use Rattle.stored_tables.specs.Moves.{ChangesRows, Any}
use Rattle.stored_tables.proofs.RowsTell.{same_themselves}
use Rattle.stored_tables.proofs.Statements.{account_added, balance_added, failed_added}
use Rattle.stored_tables.proofs.Writing.{writes_then, still_inside}

-- an account and its balance row
pub account_written : (tenant : ℤ) (a : Account) (s0 s1 s2 : State) (r : Result (Unit {0}) Unavailable) → IsInside s0
    → AddsRows account_rows 5 tenant (account_values (account_cells a) ∷ []) s0 s1
    → OnOk r (AddsRows balance_rows 11 tenant (balance_values (balance_cells (new_balance a)) ∷ []) s1 s2)
    → OnOk r (ChangesRows tenant Any (with_opened a) s0 s2)
unfolding with_opened
account_written tenant a s0 s1 s2 r inside first second =
    let account = account_added tenant s0 s1 inside.schema a first in
    on_ok_weaker r
    (λ (adds : AddsRows balance_rows 11 tenant (balance_values (balance_cells (new_balance a)) ∷ []) s1 s2).
    writes_then tenant Any Any Any (λ rows. record rows { accounts = rows.accounts ++ a ∷ [] }) (λ rows. record rows { balances = rows.balances ++ new_balance a ∷ [] }) s0 s1 s2 account
    (balance_added tenant s1 s2 (still_inside s0 s1 inside account.inside).schema (new_balance a) adds) (λ rows may. (tt, tt)))
    second

-- the same rows in another order are held too
pub held_same : (tenant : ℤ) (xs ys : TypedRows) (trees : Trees) → AreSameRows xs ys → HoldsRows tenant ys trees → HoldsRows tenant xs trees
held_same tenant xs ys trees same held = record {
  clock = held.clock ∙ ap (λ n. clock_values (pos n) ∷ []) (sym same.clock);
  accounts = IsPermutation-trans _ _ _ (IsPermutation-map _ xs.accounts ys.accounts same.accounts) held.accounts;
  transfers = IsPermutation-trans _ _ _ (IsPermutation-map _ xs.transfers ys.transfers same.transfers) held.transfers;
  balances = IsPermutation-trans _ _ _ (IsPermutation-map _ xs.balances ys.balances same.balances) held.balances;
  statuses = IsPermutation-trans _ _ _ (IsPermutation-map _ xs.statuses ys.statuses same.statuses) held.statuses;
  history = IsPermutation-trans _ _ _ (IsPermutation-map _ xs.history ys.history same.history) held.history;
  failed = IsPermutation-trans _ _ _ (IsPermutation-map _ xs.failed ys.failed same.failed) held.failed;
}

-- what is known of one more failed id
abbrev pub FailedAnywhere : Type 0
FailedAnywhere = (id : ℕ) (xs ys : TypedRows) → has_id id xs.failed ≡ false → AreSameRows xs ys → AreSameRows (with_failed_id id xs) (record ys { failed = ys.failed ++ id ∷ [] })

-- an id that failed
pub failed_written : FailedAnywhere → (tenant : ℤ) (id : ℕ) (s0 s1 : State) → IsInside s0 → AddsRows failed_rows 17 tenant (id_values (column_of id) ∷ []) s0 s1
    → ChangesRows tenant (λ rows. has_id id rows.failed ≡ false) (with_failed_id id) s0 s1
failed_written anywhere tenant id s0 s1 inside adds =
    let added = failed_added tenant s0 s1 inside.schema id adds in
    record {
      inside = added.inside;
      moves = λ rows unknown num held.
          let m = added.moves rows tt num held in
          record { numbered = m.numbered; others = m.others; strangers = m.strangers; rows = held_same tenant (with_failed_id id rows) (record rows { failed = rows.failed ++ id ∷ [] }) s1.now.trees (anywhere id rows rows unknown (same_themselves rows)) m.rows };
    }
