-- What an entry's own fields say of it, as the next entry at its own clock.
use Rattle.std.proofs.Common.{◌≡◌, ◌<◌, ◌+◌, ℕ, Bool, true, false, List, [], ◌∷◌, ◌++◌, length, take, get_or, Option, Some, None, refl, sym, ap, ap₂, ◌∙◌, subst}
use Rattle.std.specs.Bool.{OnTrue, OnFalse}
use Rattle.std.specs.Option.{option_map}
use Rattle.std.proofs.lemmas.Bool.{both_ways}
use Rattle.std.proofs.lemmas.List.{take_more}
use Rattle.records.specs.declared.account.Account.{Account}
use Rattle.records.specs.declared.account.AccountEvent.{AccountEvent}
use Rattle.records.specs.declared.facts.AccountWithBalances.{AccountWithBalances}
use Rattle.records.specs.Machine.{Machine, new_machine, account_with}
use Rattle.records.specs.AccountVerdict.{account_verdict}
use Rattle.records.specs.Facts.{account_in, with_balances}
use Rattle.records.specs.Step.{account_verdict_in, at_clock}
use Rattle.records.specs.Valid.{IsNextTimestamp, IsNextAccount, event_of_account, with_account}
use Rattle.records.specs.Widths.{IsAccountInWidth}
use Rattle.rows.specs.declared.history_row.HistoryRow.{HistoryRow}
use Rattle.rows.specs.Prescribed.{history_rows}
use Rattle.running.specs.declared.entry.Entry.{Entry}
use Rattle.running.specs.declared.entry.Entry.TheVariants.{Opened}
use Rattle.running.specs.declared.running.Running.{Running}
use Rattle.running.specs.Entries.{CanCome, IsNext, with_entry, machine_of, AreNext, clock_for}
use Rattle.running.specs.Running.{IsRunning}
use Rattle.running.specs.History.{IsToldMore}
use Rattle.running.proofs.EntriesPush.{after_push, next_push}

-- a next timestamp is behind the last
pub after_last : (m : Machine) (r : Running) (timestamp clock : ℕ) → IsRunning m r → IsNextTimestamp (at_clock m clock) timestamp → r.last < timestamp
after_last m r timestamp clock is next = is.last.only_after timestamp (record { positive = next.positive; accounts = next.after_accounts; transfers = next.after_transfers })

-- an account is judged alike at every clock
pub at_any_clock : (m : Machine) (clock : ℕ) (ev : AccountEvent) → account_verdict_in (at_clock m clock) ev ≡ account_verdict_in m ev
unfolding account_verdict_in
at_any_clock m clock ev = refl

-- and by the account under its id
only_account : (m : Machine) (found : Option Account) → option_map (λ (a : AccountWithBalances). a.account) (option_map (with_balances m) found) ≡ found
only_account m None = refl
only_account m (Some a) = refl

pub verdict_by : (m : Machine) (r : Running) (a : Account) (found : Option AccountWithBalances) (old : Option Account) (ev : AccountEvent) → found ≡ account_in m a.id → old ≡ option_map (λ (x : AccountWithBalances). x.account) found → ev ≡ event_of_account a → account_verdict_in m (event_of_account a) ≡ account_verdict old ev
unfolding account_verdict_in
verdict_by m r a found old ev of_found of_old of_ev =
    let is = of_old ∙ ap (option_map (λ (x : AccountWithBalances). x.account)) of_found ∙ only_account m (account_with a.id m.accounts) in
    sym (ap₂ account_verdict is of_ev)

-- the next account, at a clock that is the least it can have come at
pub next_account : (m : Machine) (a : Account) (clock : ℕ) → IsAccountInWidth a → IsNextTimestamp (at_clock m clock) a.timestamp → account_verdict_in m (event_of_account a) ≡ None → IsNextAccount (at_clock m clock) a
next_account m a clock widths time verdict = record { widths = widths; timestamp = time; accepted = at_any_clock m clock (event_of_account a) ∙ verdict }

pub applied_account : (m : Machine) (a : Account) (clock : ℕ) (new : Running) → clock ≡ clock_for m (Opened a) → CanCome m clock → IsNextAccount (at_clock m clock) a → IsRunning (with_account (at_clock m clock) a) new → IsNext m (Opened a) × IsRunning (with_entry m (Opened a)) new
applied_account m a clock new same can next is = (
  record {
    clock = subst (λ (n : ℕ). CanCome m n) same can;
    accepted = subst (λ (n : ℕ). IsNextAccount (at_clock m n) a) same next;
  },
  subst (λ (n : ℕ). IsRunning (with_account (at_clock m n) a) new) same is,
)

-- what holds where a test does
pub on_true : (b : Bool) (P : Type 0) → b ≡ true → OnTrue b P → P
on_true true P h p = p
on_true false P h p = absurd (both_ways false refl h)

pub on_false : (b : Bool) (P : Type 0) → b ≡ false → OnFalse b P → P
on_false false P h p = p
on_false true P h p = absurd (both_ways true h refl)

-- entries up to a place
abbrev pub AreReplayed : List Entry → ℕ → Running → Type 0
AreReplayed es i r = AreNext new_machine (take i es) × IsRunning (machine_of (take i es)) r

pub one_replayed : (es : List Entry) (i : ℕ) (entry : Entry) (old new : Running) → AreReplayed es i old → i < length es → entry ≡ get_or es i entry → ((m : Machine) → IsRunning m old → IsNext m entry × IsRunning (with_entry m entry) new) → AreReplayed es (i + 1) new
one_replayed es i entry old new so_far within is step =
    let got = step (machine_of (take i es)) so_far.1 in
    let more : take i es ++ entry ∷ [] ≡ take (i + 1) es = ap (λ (e : Entry). take i es ++ e ∷ []) is ∙ sym (take_more es i entry within) in (
      subst (λ (xs : List Entry). AreNext new_machine xs) more (next_push new_machine (take i es) entry so_far.0 got.0),
      subst (λ (xs : List Entry). IsRunning (machine_of xs) new) more (subst (λ (m : Machine). IsRunning m new) (sym (after_push new_machine (take i es) entry)) got.1),
    )

-- and whoever is told their history
pub one_told : {H : Type 0} (told : H → H → List HistoryRow → Type 0) (es : List Entry) (i : ℕ) (entry : Entry) (initial old new : H) → i < length es → entry ≡ get_or es i entry → IsToldMore told initial old new_machine (machine_of (take i es)) → IsToldMore told old new (machine_of (take i es)) (with_entry (machine_of (take i es)) entry) → IsToldMore told initial new new_machine (machine_of (take (i + 1) es))
one_told told es i entry initial old new within is so_far step first none =
    let more : take i es ++ entry ∷ [] ≡ take (i + 1) es = ap (λ (e : Entry). take i es ++ e ∷ []) is ∙ sym (take_more es i entry within) in
    subst (λ (xs : List Entry). told first new (history_rows (machine_of xs))) more
    (subst (λ (m : Machine). told first new (history_rows m)) (sym (after_push new_machine (take i es) entry)) (step first (so_far first none)))
