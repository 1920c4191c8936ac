-- A machine that continues another has the same entries of an account up to its clock.
use Rattle.std.proofs.Common.{◌≡◌, ◌∙◌, ℕ, ◌<◌, ◌≤◌, false, List, [], ◌∷◌, ◌++◌, map, filter, refl, ap, arith, append_assoc, append-nil}
use Rattle.std.specs.List.{All}
use Rattle.std.proofs.lemmas.Bool.Decides.{nat_tests}
use Rattle.std.proofs.lemmas.List.{map-append}
use Rattle.std.proofs.lemmas.List.Elements.{All-cons, All-filter, All-head, All-map, All-nil, All-tail, filter-append}
use Rattle.chain.specs.AccountEntries.{account_entries, account_entry, entry_time}
use Rattle.chain.specs.Pages.{all_within}
use Rattle.chain.specs.declared.account_entry.AccountEntry.{AccountEntry}
use Rattle.engine.specs.Following.{ContinuesAfter}
use Rattle.records.specs.Machine.{Machine}
use Rattle.records.specs.Queries.{is_within}
use Rattle.records.specs.Reads.{Entry, entries_after, in_order, is_entry_of}
use Rattle.records.specs.declared.query.Span.{Span}
use Rattle.records.specs.declared.transfer.Transfer.{Transfer}

-- the entries of a list that goes on are its own, and then those of the rest
entries_on :
    (before xs ys : List Transfer)
    → entries_after before (xs ++ ys) ≡ entries_after before xs ++ entries_after (before ++ xs) ys
entries_on before [] ys = rw append-nil refl
entries_on before (x ∷ xs) ys =
    ap (λ (more : List Entry). record { before = before ++ x ∷ []; transfer = x } ∷ more)
    (entries_on (before ++ x ∷ []) xs ys
    ∙ ap (λ (all : List Transfer). entries_after (before ++ x ∷ []) xs ++ entries_after all ys)
    (append_assoc before (x ∷ []) xs))

-- the account's entries of a list, behind those before it
abbrev pub own_of : ℕ → List Transfer → List Transfer → List AccountEntry
own_of account before transfers =
    map (account_entry account)
    (filter (λ (entry : Entry). is_entry_of account entry.transfer) (entries_after before transfers))

own_on :
    (account : ℕ) (xs ys : List Transfer)
    → own_of account [] (xs ++ ys) ≡ own_of account [] xs ++ own_of account xs ys
own_on account xs ys =
    let own = λ (entry : Entry). is_entry_of account entry.transfer in
    let old = entries_after [] xs in
    let new = entries_after xs ys in
    ap (λ (all : List Entry). map (account_entry account) (filter own all)) (entries_on [] xs ys)
    ∙ ap (map (account_entry account)) (filter-append own old new)
    ∙ map-append (account_entry account) (filter own old) (filter own new)

-- what holds of all transfers holds of those of the entries
all_entries :
    (P : Transfer → Type 0) (before transfers : List Transfer) → All P transfers
    → All (λ (e : Entry). P e.transfer) (entries_after before transfers)
all_entries P before [] all = All-nil (λ (e : Entry). P e.transfer)
all_entries P before (t ∷ transfers) all =
    All-cons (λ (e : Entry). P e.transfer) (record { before = before ++ t ∷ []; transfer = t })
    (entries_after (before ++ t ∷ []) transfers) (All-head P t transfers all)
    (all_entries P (before ++ t ∷ []) transfers (All-tail P t transfers all))

pub all_own :
    (account : ℕ) (P : Transfer → Type 0) (before transfers : List Transfer) → All P transfers
    → All (λ (e : AccountEntry). P e.transfer) (own_of account before transfers)
all_own account P before transfers all =
    let own = λ (e : Entry). is_entry_of account e.transfer in
    All-map (λ (e : AccountEntry). P e.transfer) (account_entry account)
    (filter own (entries_after before transfers))
    (All-filter own (λ (e : Entry). P e.transfer) (entries_after before transfers)
    (all_entries P before transfers all))

-- no entry behind a time lies in a span that ends by it
beyond : (span : Span) (time : ℕ) → span.last < time → is_within span time ≡ false
beyond span time later = grind (arith, nat_tests)

none_within :
    (span : Span) (clock : ℕ) (xs : List AccountEntry) → span.last ≤ clock
    → All (λ (e : AccountEntry). clock < entry_time e) xs
    → filter (λ (e : AccountEntry). is_within span (entry_time e)) xs ≡ []
none_within span clock [] ends all = refl
none_within span clock (x ∷ xs) ends all =
    let P = λ (e : AccountEntry). clock < entry_time e in
    let later : clock < entry_time x = All-head P x xs all in
    rw (beyond span (entry_time x) (omega arith)) (none_within span clock xs ends (All-tail P x xs all))

-- a machine that continues another has the same entries up to its clock
pub same_later :
    (m later : Machine) (account : ℕ) (span : Span) → ContinuesAfter m later → span.last ≤ m.clock
    → all_within entry_time span (account_entries later account)
    ≡ all_within entry_time span (account_entries m account)
same_later m later account span continues ends =
    let within = λ (e : AccountEntry). is_within span (entry_time e) in
    let on = continues.transfers in
    let old = own_of account [] m.transfers in
    let new = own_of account m.transfers on.more in
    let is_new = λ (t : Transfer). m.clock < t.timestamp in
    let none =
    none_within span m.clock new ends (all_own account is_new m.transfers on.more on.behind) in
    ap (λ (all : List Transfer). in_order span.order (filter within (own_of account [] all))) on.is
    ∙ ap (λ (all : List AccountEntry). in_order span.order (filter within all))
    (own_on account m.transfers on.more)
    ∙ ap (in_order span.order) (filter-append within old new
    ∙ ap (λ (all : List AccountEntry). filter within old ++ all) none ∙ append-nil (filter within old))
