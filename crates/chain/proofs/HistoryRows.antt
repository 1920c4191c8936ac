-- What a filter shows of an account's entries is the account's history.
use Rattle.std.proofs.Common.{◌≡◌, ℕ, ◌≤◌, ◌-◌, ◌^◌, Bool, true, false, ◌&&◌, ◌||◌, eqb, leb, cond, Option, Some, None, List, [], ◌∷◌, ◌++◌, Ok, map, filter, reverse, take, refl, sym, ap, ◌∙◌, arith}
use Rattle.std.specs.List.{All, filter_map}
use Rattle.std.specs.Option.{is_some}
use Rattle.std.proofs.lemmas.Bool.Decides.{nat_tests}
use Rattle.std.proofs.lemmas.Bool.{both_ways}
use Rattle.std.proofs.lemmas.List.{map-append, reverse-append, take-map}
use Rattle.std.proofs.lemmas.List.Elements.{All-head, All-tail, All-take, All-weaker, filter_agree, filter_passes}
use Rattle.std.proofs.lemmas.Simd.{map-map}
use Rattle.records.specs.declared.account.Account.{Account}
use Rattle.records.specs.declared.balances.BalanceAt.{BalanceAt}
use Rattle.records.specs.declared.facts.AccountWithBalances.{AccountWithBalances}
use Rattle.records.specs.declared.filter.AccountFilter.{AccountFilter}
use Rattle.records.specs.declared.filter.Order.TheVariants.{Oldest, Newest}
use Rattle.records.specs.declared.transfer.Transfer.{Transfer}
use Rattle.records.specs.Facts.{account_in, with_balances}
use Rattle.records.specs.Flags.{has_bit, keeps_history}
use Rattle.records.specs.Machine.{Machine, account_with}
use Rattle.records.specs.Queries.{is_within, last_time, page_order, page_span}
use Rattle.records.specs.Reads.{Entry, answer_by, answer_by_history, asks_side, asks_time, entries_after, entries_of, history_answer, history_balances_answer, history_balances_of, history_of, in_order, is_chosen, is_entry_of, page_of, Found, NoHistory}
use Rattle.records.specs.Step.{max_clock}
use Rattle.records.specs.Valid.{IsValid}
use Rattle.chain.specs.declared.account_entry.AccountEntry.{AccountEntry}
use Rattle.chain.specs.AccountEntries.{account_entries, account_entry, asked_entry, balance_of, entry_time, page_asked}
use Rattle.chain.specs.LedgerReads.{seen_by}
use Rattle.chain.specs.Pages.{IsRecord, all_within, first_shown}
use Rattle.chain.specs.Records.{entry_records}
use Rattle.chain.proofs.PageSpans.{in_order_filter}

-- lists

filter_mapped : {A B : Type 0} (p : B → Bool) (f : A → B) (xs : List A) → filter p (map f xs) ≡ map f (filter (λ x. p (f x)) xs)
filter_mapped p f [] = refl
filter_mapped p f (x ∷ xs) =
    elim (p (f x)) as (λ b. cond b (f x ∷ filter p (map f xs)) (filter p (map f xs)) ≡ map f (cond b (x ∷ filter (λ y. p (f y)) xs) (filter (λ y. p (f y)) xs))) [
      | true ↦ ap (λ ys. f x ∷ ys) (filter_mapped p f xs)
      | false ↦ filter_mapped p f xs
    ]

pub map_reversed : {A B : Type 0} (f : A → B) (xs : List A) → map f (reverse xs) ≡ reverse (map f xs)
map_reversed f [] = refl
map_reversed f (x ∷ xs) =
    ap (map f) (reverse-append (x ∷ []) xs) ∙ map-append f (reverse xs) (x ∷ [])
    ∙ ap (λ front. front ++ f x ∷ []) (map_reversed f xs) ∙ sym (reverse-append (f x ∷ []) (map f xs))

-- a filter behind one that lets through all that it lets through
filter_on : {A : Type 0} (p q : A → Bool) (xs : List A) → ((x : A) → p x ≡ true → q x ≡ true) → filter p (filter q xs) ≡ filter p xs
filter_on p q [] more = refl
filter_on p q (x ∷ xs) more = at (p x) (q x) refl refl (filter_on p q xs more)
  where
    at : (b c : Bool) → p x ≡ b → q x ≡ c → filter p (filter q xs) ≡ filter p xs → filter p (filter q (x ∷ xs)) ≡ filter p (x ∷ xs)
    at b true is_p is_q same = rw is_q (ap (λ rest. cond (p x) (x ∷ rest) rest) same)
    at true false is_p is_q same = absurd (both_ways (q x) is_q (more x is_p))
    at false false is_p is_q same = rw (is_q, is_p) same

-- a test that is two tests at each element
filter_twice : {A : Type 0} (p q r : A → Bool) (xs : List A) → All (λ x. p x ≡ (q x && r x)) xs → filter r (filter q xs) ≡ filter p xs
filter_twice p q r [] both = refl
filter_twice p q r (x ∷ xs) both =
    at (q x) (r x) refl refl (All-head (λ y. p y ≡ (q y && r y)) x xs both)
    (filter_twice p q r xs (All-tail (λ y. p y ≡ (q y && r y)) x xs both))
  where
    at : (b c : Bool) → q x ≡ b → r x ≡ c → p x ≡ (q x && r x) → filter r (filter q xs) ≡ filter p xs → filter r (filter q (x ∷ xs)) ≡ filter p (x ∷ xs)
    at true true is_q is_r is_p same = rw (is_p, is_q) (rw is_r (ap (λ ys. x ∷ ys) same))
    at true false is_q is_r is_p same = rw (is_p, is_q) (rw is_r same)
    at false c is_q is_r is_p same = rw (is_p, is_q) same

both_turned : (a b : Bool) → (a && b) ≡ (b && a)
both_turned true true = refl
both_turned true false = refl
both_turned false true = refl
both_turned false false = refl

of_either : (a b d c : Bool) → (a && d || b && c) ≡ true → (d || c) ≡ true
of_either a true true c is = refl
of_either a false true c is = refl
of_either true b false c is = grind arith
of_either false b false c is = grind arith

transfers_are : (before xs : List Transfer) → map (λ (e : Entry). e.transfer) (entries_after before xs) ≡ xs
transfers_are before [] = refl
transfers_are before (t ∷ xs) = ap (λ ys. t ∷ ys) (transfers_are (before ++ t ∷ []) xs)

-- a filter's times

until : (bound time : ℕ) → time ≤ max_clock → leb time (last_time bound) ≡ (eqb bound 0 || leb time bound)
until bound time fits = at (eqb bound 0)
  where
    at : (b : Bool) → leb time (cond b (2 ^ 64 - 1) bound) ≡ (b || leb time bound)
    at true = grind (arith, nat_tests)
    at false = refl

module _ (asked : AccountFilter) where
  chosen_splits :
      (entry : AccountEntry) → entry_time entry ≤ max_clock →
      is_chosen asked entry.transfer ≡ (is_within (page_span (page_asked asked)) (entry_time entry) && asks_side asked entry.transfer)
  chosen_splits entry fits =
      ap (λ b. asks_side asked entry.transfer && (leb asked.timestamp_min (entry_time entry) && b)) (sym (until asked.timestamp_max (entry_time entry) fits))
      ∙ both_turned (asks_side asked entry.transfer) (is_within (page_span (page_asked asked)) (entry_time entry))

  of_account : (entry : Entry) → is_chosen asked entry.transfer ≡ true → is_entry_of asked.account_id entry.transfer ≡ true
  of_account entry is =
      let t = entry.transfer in
      of_either (has_bit asked.flags.0 0) (has_bit asked.flags.0 1) (eqb t.debit_account_id asked.account_id) (eqb t.credit_account_id asked.account_id)
      (first (asks_side asked t) (asks_time asked t) is)
    where
      first : (a b : Bool) → (a && b) ≡ true → a ≡ true
      first true b h = refl
      first false b h = h

  turned_order : {A : Type 0} (xs : List A) → in_order (page_order (page_asked asked)) xs ≡ cond (has_bit asked.flags.0 2) (reverse xs) xs
  turned_order xs = at (has_bit asked.flags.0 2)
    where
      at : (b : Bool) → in_order (cond (has_bit (cond b 1 0) 0) Newest Oldest) xs ≡ cond b (reverse xs) xs
      at true = refl
      at false = refl

  page_mapped : {A B : Type 0} (f : A → B) (xs : List A) → map f (page_of asked xs) ≡ page_of asked (map f xs)
  page_mapped f xs = at (has_bit asked.flags.0 2)
    where
      at : (b : Bool) → map f (take asked.limit (cond b (reverse xs) xs)) ≡ take asked.limit (cond b (reverse (map f xs)) (map f xs))
      at true = sym (take-map f asked.limit (reverse xs)) ∙ ap (take asked.limit) (map_reversed f xs)
      at false = sym (take-map f asked.limit xs)

  some_asked : (entry : AccountEntry) → is_some (asked_entry asked entry) ≡ asks_side asked entry.transfer
  some_asked entry = elim (asks_side asked entry.transfer) as (λ b. is_some (cond b (Some entry) None) ≡ b) [ true ↦ refl | false ↦ refl ]

  -- the entries that are asked for are shown as they are
  shown_same : (xs : List AccountEntry) → All (λ entry. asks_side asked entry.transfer ≡ true) xs → filter_map (asked_entry asked) xs ≡ xs
  shown_same [] all = refl
  shown_same (x ∷ xs) all =
      let P = λ (entry : AccountEntry). asks_side asked entry.transfer ≡ true in
      rw (All-head P x xs all) (ap (λ ys. x ∷ ys) (shown_same xs (All-tail P x xs all)))

  module _ (m : Machine) (valid : IsValid m) where
    chosen : List Entry
    chosen = filter (λ entry. is_chosen asked entry.transfer) (entries_of m)

    of_machine : filter (λ (entry : AccountEntry). is_chosen asked entry.transfer) (account_entries m asked.account_id) ≡ map (account_entry asked.account_id) chosen
    unfolding chosen
    of_machine =
        let own = λ (entry : Entry). is_entry_of asked.account_id entry.transfer in
        filter_mapped (λ (entry : AccountEntry). is_chosen asked entry.transfer) (account_entry asked.account_id) (filter own (entries_of m))
        ∙ ap (map (account_entry asked.account_id)) (filter_on (λ (entry : Entry). is_chosen asked entry.transfer) own (entries_of m) of_account)

    entries_shown :
        first_shown entry_time (asked_entry asked) (page_asked asked) (account_entries m asked.account_id)
        ≡ page_of asked (map (account_entry asked.account_id) chosen)
    entries_shown =
        let entries = account_entries m asked.account_id in
        let side = λ (entry : AccountEntry). asks_side asked entry.transfer in
        let within = λ (entry : AccountEntry). is_within (page_span (page_asked asked)) (entry_time entry) in
        let order = page_order (page_asked asked) in
        let all = all_within entry_time (page_span (page_asked asked)) entries in
        let fits = All-weaker (IsRecord entry_time (λ e. Unit {0})) (λ (entry : AccountEntry). is_chosen asked entry.transfer ≡ (within entry && side entry))
        (λ entry is. chosen_splits entry is.bounded) entries (entry_records m valid asked.account_id).each in
        ap (λ xs. filter_map (asked_entry asked) (take asked.limit xs)) (filter_agree (λ entry. is_some (asked_entry asked entry)) side some_asked all)
        ∙ shown_same (take asked.limit (filter side all)) (All-take (λ entry. side entry ≡ true) asked.limit (filter side all) (filter_passes side all))
        ∙ ap (take asked.limit) (sym (in_order_filter entry_time side order (filter within entries)))
        ∙ ap (λ xs. take asked.limit (in_order order xs)) (filter_twice (λ (entry : AccountEntry). is_chosen asked entry.transfer) within side entries fits ∙ of_machine)
        ∙ ap (take asked.limit) (turned_order (map (account_entry asked.account_id) chosen))

    pub transfers_shown :
        map (λ (entry : AccountEntry). entry.transfer) (first_shown entry_time (asked_entry asked) (page_asked asked) (account_entries m asked.account_id))
        ≡ history_of m asked
    unfolding chosen
    transfers_shown =
        let transfer = λ (entry : AccountEntry). entry.transfer in
        ap (map transfer) entries_shown
        ∙ page_mapped transfer (map (account_entry asked.account_id) chosen)
        ∙ ap (page_of asked) (map-map transfer (account_entry asked.account_id) chosen
        ∙ sym (filter_mapped (is_chosen asked) (λ (e : Entry). e.transfer) (entries_of m))
        ∙ ap (filter (is_chosen asked)) (transfers_are [] m.transfers))

    pub balances_shown :
        map balance_of (first_shown entry_time (asked_entry asked) (page_asked asked) (account_entries m asked.account_id))
        ≡ history_balances_of m asked
    unfolding chosen
    balances_shown =
        ap (map balance_of) entries_shown
        ∙ page_mapped balance_of (map (account_entry asked.account_id) chosen)
        ∙ ap (page_of asked) (map-map balance_of (account_entry asked.account_id) chosen)

-- the account that is found with its balances
found_with : (m : Machine) (id : ℕ) (found : AccountWithBalances) → account_in m id ≡ Some found → account_with id m.accounts ≡ Some found.account
found_with m id found is = at (account_with id m.accounts) is
  where
    at : (o : Option Account) → Rattle.std.specs.Option.option_map (with_balances m) o ≡ Some found → o ≡ Some found.account
    at None none = absurd (cc)
    at (Some account) some = ap (λ (o : Option AccountWithBalances). Rattle.std.specs.Option.option_map (λ (a : AccountWithBalances). a.account) o) some

-- an account that is there is told its transfers
pub transfers_told :
    (m : Machine) (asked : AccountFilter) (clock : ℕ) (found : AccountWithBalances) (entries : List AccountEntry) (items : List Transfer) →
    IsValid m → clock ≡ m.clock → account_in m asked.account_id ≡ Some found →
    entries ≡ first_shown entry_time (asked_entry asked) (page_asked asked) (account_entries m asked.account_id) →
    items ≡ map (λ (entry : AccountEntry). entry.transfer) entries →
    seen_by m.clock (history_answer m asked) ≡ Ok (record { clock = clock; shown = items })
transfers_told m asked clock found entries items valid clock_is found_is entries_are items_are =
    let all = items_are ∙ ap (map (λ (entry : AccountEntry). entry.transfer)) entries_are ∙ transfers_shown asked m valid in
    ap (λ o. seen_by m.clock (answer_by o (history_of m asked))) (found_with m asked.account_id found found_is)
    ∙ (λ i. Ok (record { clock = sym clock_is i; shown = sym all i }))

-- and its balances, where it keeps a history
pub balances_told :
    (m : Machine) (asked : AccountFilter) (clock : ℕ) (found : AccountWithBalances) (entries : List AccountEntry) (items : List BalanceAt) →
    IsValid m → clock ≡ m.clock → account_in m asked.account_id ≡ Some found → keeps_history found.account.flags ≡ true →
    entries ≡ first_shown entry_time (asked_entry asked) (page_asked asked) (account_entries m asked.account_id) →
    items ≡ map balance_of entries →
    seen_by m.clock (history_balances_answer m asked) ≡ Ok (record { clock = clock; shown = items })
balances_told m asked clock found entries items valid clock_is found_is keeps entries_are items_are =
    let all = items_are ∙ ap (map balance_of) entries_are ∙ balances_shown asked m valid in
    ap (λ o. seen_by m.clock (answer_by_history o (history_balances_of m asked))) (found_with m asked.account_id found found_is)
    ∙ ap (λ b. seen_by m.clock (cond b (Found (history_balances_of m asked)) NoHistory)) keeps
    ∙ (λ i. Ok (record { clock = sym clock_is i; shown = sym all i }))
