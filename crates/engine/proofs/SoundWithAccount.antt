-- A valid machine stays sound with its next account, which has a new id and no entry yet.
use Rattle.std.proofs.Common.{◌≡◌, ℕ, eqb, cond, List, [], ◌∷◌, ◌++◌, Option, Some, None, inl, inr, refl, arith}
use Rattle.std.proofs.lemmas.Bool.{cond-false}
use Rattle.std.proofs.lemmas.List.Elements.{All-weaker}
use Rattle.records.specs.declared.account.Account.{Account}
use Rattle.records.specs.declared.account.AccountEvent.{AccountEvent}
use Rattle.records.specs.declared.side.Side.{Side}
use Rattle.records.specs.declared.transfer.Transfer.{Transfer}
use Rattle.records.specs.Sides.{account_on}
use Rattle.records.specs.Machine.{Machine, account_with}
use Rattle.records.specs.Balances.{amount_on, pending_amount, posted_amount}
use Rattle.records.specs.Step.{account_verdict_in}
use Rattle.records.specs.FirstOf.{first_of}
use Rattle.records.specs.AccountVerdict.{account_verdict, account_id_verdict, account_event_results, account_difference}
use Rattle.records.specs.Valid.{event_of_account, IsNextAccount, with_account}
use Rattle.engine.proofs.FirstOfLemmas.{or_else-none}
use Rattle.engine.proofs.FindByIdLemmas.{distinct_push, find_push_some, found_push, absent_other, other_way}
use Rattle.engine.proofs.ListSumLemmas.{sum_zero}
use Rattle.engine.proofs.SideSumLemmas.{total_in}
use Rattle.engine.proofs.IsSound.{IsEntrySound, IsSound}

unknown_by : (old : Option Account) (ev : AccountEvent) → account_verdict old ev ≡ None → old ≡ None
unfolding account_verdict
unknown_by None ev h = refl
unknown_by (Some old) ev h =
    let outer = or_else-none (first_of (account_event_results ev)) (account_id_verdict (Some old) ev) h in
    let inner = or_else-none (account_difference old ev) _ outer.1 in
    grind (arith, inner.1)

-- the id of a next account is new
pub account_unknown : (m : Machine) (a : Account) → IsNextAccount m a → account_with a.id m.accounts ≡ None
unfolding account_verdict_in
account_unknown m a next = unknown_by (account_with a.id m.accounts) (event_of_account a) next.accepted

entry_with_account : (accounts : List Account) (transfers : List Transfer) (a : Account) (e : Transfer) → IsEntrySound accounts transfers e → IsEntrySound (accounts ++ a ∷ []) transfers e
entry_with_account accounts transfers a e s = record {
  amount = s.amount;
  account = s.account;
  is_account = λ side. find_push_some (λ (x : Account). x.id) (account_on side e) accounts a (s.account side) (s.is_account side);
  ledger = s.ledger;
  differ = s.differ;
  single = s.single;
  ended = s.ended;
}

not_its : (accounts : List Account) (id own : ℕ) (a : Account) (amount : ℕ) → account_with id accounts ≡ None → account_with own accounts ≡ Some a → cond (eqb own id) amount 0 ≡ 0
not_its accounts id own a amount none found = cond-false (eqb own id) amount 0 (other_way id own (absent_other (λ (x : Account). x.id) id own accounts a none found))

-- an account that is not there has zero sums
pub nothing_on : (side : Side) (m : Machine) (id : ℕ) → IsSound m → account_with id m.accounts ≡ None → total_in side m id ≡ 0
nothing_on side m id s none =
    let zero = λ (f : Transfer → ℕ). sum_zero (amount_on side id f) m.transfers (All-weaker (IsEntrySound m.accounts m.transfers) (λ e. amount_on side id f e ≡ 0) (λ e h. not_its m.accounts id (account_on side e) (h.account side) (f e) none (h.is_account side)) m.transfers s.entries) in
    omega (arith, zero (pending_amount m.transfers m.clock), zero posted_amount)

pub sound_account : (m : Machine) (a : Account) → IsSound m → IsNextAccount m a → IsSound (with_account m a)
sound_account m a s next =
    let found = λ (id : ℕ) (x : Account) (h : account_with id (m.accounts ++ a ∷ []) ≡ Some x). found_push (λ (y : Account). y.id) id m.accounts a x h in
    record {
      accounts = distinct_push (λ (x : Account). x.id) m.accounts a s.accounts (account_unknown m a next);
      transfers = s.transfers;
      entries = All-weaker (IsEntrySound m.accounts m.transfers) (IsEntrySound (m.accounts ++ a ∷ []) m.transfers) (λ e h. entry_with_account m.accounts m.transfers a e h) m.transfers s.entries;
      unnamed = s.unnamed;
      once = s.once;
      sums = s.sums;
      limits = λ side id x h limited. elim (found id x h) [ inl w ↦ s.limits side id x w limited | inr w ↦ omega (arith, nothing_on side m id s w.0) ];
      ascending = s.ascending;
      failed = s.failed;
    }
