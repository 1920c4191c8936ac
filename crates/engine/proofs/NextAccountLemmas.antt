-- An accepted account is the next one of the machine.
use Rattle.std.proofs.Common.{◌≡◌, ℕ, false, not, eqb, Option, Some, None, sym, subst, arith}
use Rattle.std.proofs.lemmas.Bool.Decides.{nat_tests}
use Rattle.records.specs.declared.account.Account.{Account}
use Rattle.records.specs.declared.account.AccountEvent.{AccountEvent}
use Rattle.records.specs.FirstOf.{first_of}
use Rattle.records.specs.Machine.{Machine, account_with}
use Rattle.records.specs.AccountVerdict.{account_verdict, account_id_verdict, account_event_results, account_difference, new_account_results}
use Rattle.records.specs.StoredRecord.{stored_account}
use Rattle.records.specs.Step.{account_verdict_in}
use Rattle.records.specs.Widths.{IsAccountInWidth}
use Rattle.records.specs.Valid.{event_of_account, IsNextTimestamp, IsNextAccount}
use Rattle.engine.proofs.FirstOfLemmas.{AllFail, all_fail, or_else-none}

-- what an accepted event meets
record Accepts (ev : AccountEvent) : Type 0 where
  own : AllFail (account_event_results ev)
  new : AllFail (new_account_results ev)

id_is_new : (old : Option Account) (ev : AccountEvent) → account_id_verdict old ev ≡ None → AllFail (new_account_results ev)
id_is_new None ev h = all_fail (new_account_results ev) h
id_is_new (Some old) ev h = let parts = or_else-none (account_difference old ev) _ h in grind (arith, parts.1)

accepts : (old : Option Account) (ev : AccountEvent) → account_verdict old ev ≡ None → Accepts ev
unfolding account_verdict
accepts old ev h =
    let parts = or_else-none (first_of (account_event_results ev)) (account_id_verdict old ev) h in
    record { own = all_fail (account_event_results ev) parts.0; new = id_is_new old ev parts.1 }

zero : (n : ℕ) → not (eqb n 0) ≡ false → n ≡ 0
zero n h = grind (arith, nat_tests)

-- the account, sent again as it is stored, is the event
same_event : (ev : AccountEvent) (timestamp : ℕ) → Accepts ev → event_of_account (stored_account ev timestamp) ≡ ev
same_event ev timestamp a = λ i. record {
  id = ev.id;
  debits_pending = sym (zero ev.debits_pending a.new.1.0) i;
  debits_posted = sym (zero ev.debits_posted a.new.1.1.0) i;
  credits_pending = sym (zero ev.credits_pending a.new.1.1.1.0) i;
  credits_posted = sym (zero ev.credits_posted a.new.1.1.1.1.0) i;
  user_data_128 = ev.user_data_128;
  user_data_64 = ev.user_data_64;
  user_data_32 = ev.user_data_32;
  ledger = ev.ledger;
  code = ev.code;
  flags = ev.flags;
  timestamp = sym (zero ev.timestamp a.own.0) i;
}

still_accepted : (m : Machine) (ev : AccountEvent) (timestamp : ℕ) → account_verdict (account_with ev.id m.accounts) ev ≡ None → account_verdict_in m (event_of_account (stored_account ev timestamp)) ≡ None
unfolding account_verdict_in
still_accepted m ev timestamp h =
    let P : AccountEvent → Type 0 = λ e. account_verdict (account_with ev.id m.accounts) e ≡ None in
    subst P (sym (same_event ev timestamp (accepts (account_with ev.id m.accounts) ev h))) h

pub next_account : (m : Machine) (old : Option Account) (ev : AccountEvent) (timestamp : ℕ) (account : Account) → account ≡ stored_account ev timestamp → IsAccountInWidth account → account_verdict old ev ≡ None → old ≡ account_with ev.id m.accounts → IsNextTimestamp m timestamp → IsNextAccount m account
next_account m old ev timestamp account stored widths none is next =
    let P : Option Account → Type 0 = λ o. account_verdict o ev ≡ None in
    let Q : Account → Type 0 = λ a. account_verdict_in m (event_of_account a) ≡ None in
    record {
      widths = widths;
      timestamp = rw stored next;
      accepted = subst Q (sym stored) (still_accepted m ev timestamp (subst P is none));
    }
