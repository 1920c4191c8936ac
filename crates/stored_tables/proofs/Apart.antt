-- Rows stay apart as a transfer expires.
use Rattle.std.proofs.Common.{ℕ, Bool, true, false, eqb, cond, List, [], ◌∷◌, refl, arith}
use Rattle.std.specs.List.{AllByRecursion}
use Rattle.std.proofs.lemmas.List.Elements.{recursion_from_All, All-from_recursion}
use Rattle.records.specs.declared.balances.Balances.{Balances}
use Rattle.records.specs.declared.side.Side.TheVariants.{Debit, Credit}
use Rattle.records.specs.declared.transfer.Transfer.{Transfer}
use Rattle.records.specs.declared.facts.PendingState.TheVariants.{Expired}
use Rattle.engine.specs.After.{balances_released}
use Rattle.rows.specs.declared.balance_row.BalanceRow.{BalanceRow}
use Rattle.rows.specs.declared.status_row.StatusRow.{StatusRow}
use Rattle.rows.specs.Changes.{set_balances, with_expired}
use Rattle.rows.specs.Keyed.{changed}
use Rattle.rows.specs.Tables.{HasDistinctKeys}
use Rattle.rows.specs.TypedRows.{TypedRows}
use Rattle.rows.specs.Widths.{AreBalancesInWidth, IsStorableBalance, IsStorableStatus}
use Rattle.stored_tables.specs.Releasing.{AreApart, CanExpire}
use Rattle.stored_tables.proofs.RowMoves.{distinct_kept, found_all}

-- a change that keeps what holds of each row
module _ {R : Type 0} (P : R → Type 0) (key : R → ℕ) (k : ℕ) (change : R → R) (keeps : (row : R) → P row → P (change row)) where
  here_kept : (here : Bool) (row : R) → P row → P (cond here (change row) row)
  here_kept true row p = keeps row p
  here_kept false row p = p

  pub all_changed : (rows : List R) → AllByRecursion P rows → AllByRecursion P (changed key k change rows)
  all_changed [] all = tt
  all_changed (row ∷ rows) all = (here_kept (eqb (key row) k) row all.0, all_changed rows all.1)

less_debit : (b : Balances) (amount : ℕ) → AreBalancesInWidth b → AreBalancesInWidth (balances_released Debit b amount)
less_debit b amount fit = record { debits_pending = omega (arith, fit.debits_pending); debits_posted = fit.debits_posted; credits_pending = fit.credits_pending; credits_posted = fit.credits_posted }

less_credit : (b : Balances) (amount : ℕ) → AreBalancesInWidth b → AreBalancesInWidth (balances_released Credit b amount)
less_credit b amount fit = record { debits_pending = fit.debits_pending; debits_posted = fit.debits_posted; credits_pending = omega (arith, fit.credits_pending); credits_posted = fit.credits_posted }

module _ (account : ℕ) (balances : Balances) (rows : List BalanceRow) where
  set_fits : AreBalancesInWidth balances → AllByRecursion IsStorableBalance rows → AllByRecursion IsStorableBalance (set_balances account balances rows)
  set_fits fit all = all_changed IsStorableBalance (λ row. row.account) account (λ row. record row { balances = balances }) (λ row p. record { account = p.account; balances = fit }) rows all

  set_distinct : HasDistinctKeys (λ (row : BalanceRow). row.account) rows → HasDistinctKeys (λ (row : BalanceRow). row.account) (set_balances account balances rows)
  set_distinct once = distinct_kept (λ (row : BalanceRow). row.account) account (λ row. record row { balances = balances }) (λ row. refl) rows once

module _ (t : Transfer) (debit credit : Balances) (rows : TypedRows) (can : CanExpire t debit credit rows) where
  pub apart_expired : AreApart (with_expired t debit credit rows)
  unfolding with_expired
  apart_expired =
      let fits = recursion_from_All IsStorableBalance rows.balances can.apart.balances_fit in
      let debit_fits = (found_all IsStorableBalance (λ row. row.account) t.debit_account_id rows.balances _ fits can.debit_found).balances in
      let credit_fits = (found_all IsStorableBalance (λ row. row.account) t.credit_account_id rows.balances _ fits can.credit_found).balances in
      let first = balances_released Debit debit t.amount in
      let second = balances_released Credit credit t.amount in
      let once = set_balances t.debit_account_id first rows.balances in
      record {
        transfers_fit = can.apart.transfers_fit;
        transfers = can.apart.transfers;
        balances_fit = All-from_recursion IsStorableBalance (set_balances t.credit_account_id second once)
            (set_fits t.credit_account_id second once (less_credit credit t.amount credit_fits) (set_fits t.debit_account_id first rows.balances (less_debit debit t.amount debit_fits) fits));
        balances = set_distinct t.credit_account_id second once (set_distinct t.debit_account_id first rows.balances can.apart.balances);
        statuses_fit = All-from_recursion IsStorableStatus (changed (λ (row : StatusRow). row.transfer) t.id (λ row. record row { state = Expired }) rows.statuses)
            (all_changed IsStorableStatus (λ row. row.transfer) t.id (λ row. record row { state = Expired }) (λ row p. record { transfer = p.transfer; due = p.due }) rows.statuses (recursion_from_All IsStorableStatus rows.statuses can.apart.statuses_fit));
        statuses = distinct_kept (λ (row : StatusRow). row.transfer) t.id (λ row. record row { state = Expired }) (λ row. refl) rows.statuses can.apart.statuses;
      }
