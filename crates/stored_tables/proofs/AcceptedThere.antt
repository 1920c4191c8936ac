-- What an accepted transfer changes is among the rows of its machine.
use Rattle.std.proofs.Common.{◌≡◌, ℕ, ◌<◌, ◌^◌, true, cond, Option, Some, None, option_map, IsSome, refl, sym, ap, ◌∙◌}
use Rattle.std.specs.Option.{option_and_then}
use Rattle.std.proofs.lemmas.List.Elements.{All-weaker}
use Rattle.records.specs.declared.account.Account.{Account}
use Rattle.records.specs.declared.accepted.Accepted.{Accepted}
use Rattle.records.specs.declared.accepted.Ending.{Ending}
use Rattle.records.specs.declared.facts.AccountWithBalances.{AccountWithBalances}
use Rattle.records.specs.declared.side.Side.TheVariants.{Debit, Credit}
use Rattle.records.specs.declared.transfer.Transfer.{Transfer}
use Rattle.records.specs.Accepted.{IsAccepted}
use Rattle.records.specs.Facts.{with_balances, state_in}
use Rattle.records.specs.Fate.{fate_of}
use Rattle.records.specs.Flags.{is_pending}
use Rattle.records.specs.Machine.{Machine, account_with, transfer_with}
use Rattle.records.specs.Valid.{IsValid}
use Rattle.engine.specs.EndingLaw.{ended_id, TellsFates}
use Rattle.engine.proofs.ValidMachineLemmas.{sound, next_is_sound}
use Rattle.rows.specs.declared.balance_row.BalanceRow.{BalanceRow}
use Rattle.rows.specs.declared.status_row.StatusRow.{StatusRow}
use Rattle.rows.specs.Keyed.{row_with}
use Rattle.rows.specs.Prescribed.{rows_for}
use Rattle.rows.specs.SameRows.{TellsOf, account_from}
use Rattle.rows.specs.Tables.{AreKeyed}
use Rattle.rows.specs.Widths.{AreStorable, IsStorableBalance, IsStorableStatus}
use Rattle.stored_tables.specs.Moves.{IsThere, HasStatus, CanEnd, CanAccept}

-- an account with balances has a balance row
has_balance : (f : Account → AccountWithBalances) (found : Option Account) (x : Account) (row : Option BalanceRow) → found ≡ Some x → account_from found row ≡ option_map f found → IsSome row
has_balance f found x (Some row) is told = refl
has_balance f found x None is told = absurd (let e : account_from (Some x) None ≡ option_map f (Some x) = ap (λ o. account_from o None) (sym is) ∙ told ∙ ap (option_map f) is in cc)

-- a pending transfer has a status row
has_status : (m : Machine) (found : Option Transfer) (t : Transfer) (row : Option StatusRow) → found ≡ Some t → is_pending t.flags ≡ true → option_map (λ (r : StatusRow). r.state) row ≡ option_and_then (state_in m) found → IsSome row
has_status m found t (Some row) is pends told = refl
has_status m found t None is pends told =
    absurd (let e : None ≡ Some (fate_of m.transfers m.clock t) = told ∙ ap (option_and_then (state_in m)) is ∙ ap (λ b. cond b (Some (fate_of m.transfers m.clock t)) None) pends in cc)

module _ (m : Machine) (valid : IsValid m) (fit : AreStorable (rows_for 3 m)) (keyed : AreKeyed (rows_for 3 m)) (told : (id : ℕ) → TellsOf m (rows_for 3 m) id) where
  pub balance_there : (id : ℕ) (x : Account) → account_with id m.accounts ≡ Some x → IsThere (λ (row : BalanceRow). row.account) id (rows_for 3 m).balances
  unfolding rows_for
  balance_there id x found = record {
    ids = All-weaker IsStorableBalance (λ (row : BalanceRow). row.account < 2 ^ 128) (λ row (p : IsStorableBalance row). p.account) (rows_for 3 m).balances fit.balances;
    distinct = keyed.balances;
    found = has_balance (with_balances m) (account_with id m.accounts) x (row_with (λ (row : BalanceRow). row.account) id (rows_for 3 m).balances) found (told id).account;
  }

  pub status_there : (id : ℕ) (t : Transfer) → transfer_with id m.transfers ≡ Some t → is_pending t.flags ≡ true → HasStatus id (rows_for 3 m).statuses
  status_there id t found pends = record {
    there = record {
      ids = All-weaker IsStorableStatus (λ (row : StatusRow). row.transfer < 2 ^ 128) (λ row (p : IsStorableStatus row). p.transfer) (rows_for 3 m).statuses fit.statuses;
      distinct = keyed.statuses;
      found = has_status m (transfer_with id m.transfers) t (row_with (λ (row : StatusRow). row.transfer) id (rows_for 3 m).statuses) found pends (told id).state;
    };
    storable = fit.statuses;
  }

  module _ (a : Accepted) (accepted : IsAccepted m a) (fates : TellsFates m a) where
    ended_there : (ends : Option Ending) → a.ends ≡ ends → CanEnd ends (rows_for 3 m).statuses
    ended_there None is = tt
    ended_there (Some ending) is = let e = fates.ended ending is in status_there (ended_id ending) e.pending e.found e.is_pending

    pub accepted_there : CanAccept a (rows_for 3 m)
    accepted_there =
        let s = next_is_sound m a.stored (sound m valid) accepted.next in
        record {
          balances = record { debit = balance_there a.stored.debit_account_id (s.account Debit) (s.is_account Debit); credit = balance_there a.stored.credit_account_id (s.account Credit) (s.is_account Credit) };
          ended = ended_there a.ends refl;
        }
