-- What the next transfer, or account, makes of the balance rows and of the history.
use Rattle.std.proofs.Common.{◌≡◌, ℕ, Bool, true, false, eqb, cond, List, [], ◌∷◌, ◌++◌, map, refl, sym, ap, ◌∙◌, append_assoc}
use Rattle.std.proofs.lemmas.List.{map-append}
use Rattle.std.proofs.lemmas.List.Concat.{flat_map-append}
use Rattle.std.proofs.lemmas.Simd.{map-map}
use Rattle.std.proofs.lemmas.Bool.{eqb-true}
use Rattle.std.specs.List.{flat_map}
use Rattle.records.specs.declared.account.Account.{Account}
use Rattle.records.specs.declared.transfer.Transfer.{Transfer}
use Rattle.records.specs.declared.balances.Balances.{Balances}
use Rattle.records.specs.declared.accepted.Accepted.{Accepted}
use Rattle.records.specs.Machine.{Machine}
use Rattle.records.specs.Balances.{balances_of, balances_in}
use Rattle.records.specs.Reads.{Entry, entries_after, entries_of}
use Rattle.records.specs.Accepted.{IsAccepted}
use Rattle.records.specs.Sides.{account_on}
use Rattle.records.specs.Valid.{IsNextAccount, with_account, with_transfer}
use Rattle.rows.specs.declared.balance_row.BalanceRow.{BalanceRow}
use Rattle.rows.specs.declared.history_row.HistoryRow.{HistoryRow}
use Rattle.rows.specs.Prescribed.{balance_row, balance_rows, history_row, history_rows}
use Rattle.rows.specs.Changes.{set_both, new_balance, new_history}
use Rattle.engine.proofs.ValidMachineLemmas.{other_way, IsSound, balances_elsewhere, unknown_has_none, by_side, account_unknown}
use Rattle.rows.proofs.RowLists.{map_same, changed_row}

-- the row of an account with these balances
abbrev pub balance_of : ℕ → Balances → BalanceRow
balance_of account balances = record { account = account; balances = balances }

-- a row in which the balances of an account are set
abbrev set_row : ℕ → Balances → BalanceRow → BalanceRow
set_row account balances = changed_row (λ (row : BalanceRow). row.account) account (λ row. record row { balances = balances })

outer_by : (is_credit : Bool) (id : ℕ) (old credit new : Balances) → (is_credit ≡ true → new ≡ credit) → (is_credit ≡ false → new ≡ old) → balance_of id new ≡ cond is_credit (balance_of id credit) (balance_of id old)
outer_by true id old credit new is_set is_old = ap (balance_of id) (is_set refl)
outer_by false id old credit new is_set is_old = ap (balance_of id) (is_old refl)

inner_by : (is_debit : Bool) (id : ℕ) (account : ℕ) (old debit credit new : Balances) → (eqb id account ≡ true → new ≡ credit) → (is_debit ≡ true → new ≡ debit) → (is_debit ≡ false → eqb id account ≡ false → new ≡ old) → balance_of id new ≡ set_row account credit (cond is_debit (balance_of id debit) (balance_of id old))
inner_by true id account old debit credit new of_credit of_debit other = outer_by (eqb id account) id debit credit new of_credit (λ _. of_debit refl)
inner_by false id account old debit credit new of_credit of_debit other = outer_by (eqb id account) id old credit new of_credit (other refl)

-- rows in which the balances of a transfer's two accounts are set
pub set_rows : (old new : ℕ → Balances) (t : Transfer) (debit credit : Balances)
    → new t.debit_account_id ≡ debit → new t.credit_account_id ≡ credit
    → ((id : ℕ) → eqb t.debit_account_id id ≡ false → eqb t.credit_account_id id ≡ false → new id ≡ old id)
    → (xs : List Account) → map (λ a. balance_of a.id (new a.id)) xs ≡ set_both t debit credit (map (λ a. balance_of a.id (old a.id)) xs)
set_rows old new t debit credit of_debit of_credit others xs =
    let d = t.debit_account_id in
    let c = t.credit_account_id in
    let before : Account → BalanceRow = λ a. balance_of a.id (old a.id) in
    let one = λ (a : Account).
    inner_by (eqb a.id d) a.id c (old a.id) debit credit (new a.id)
    (λ is. ap new (eqb-true a.id c is) ∙ of_credit)
    (λ is. ap new (eqb-true a.id d is) ∙ of_debit)
    (λ not_debit not_credit. others a.id (other_way a.id d not_debit) (other_way a.id c not_credit)) in
    map_same (λ a. balance_of a.id (new a.id)) (λ a. set_row c credit (set_row d debit (before a))) one xs
    ∙ sym (map-map (λ r. set_row c credit (set_row d debit r)) before xs)
    ∙ sym (map-map (set_row c credit) (set_row d debit) (map before xs))

-- all balance rows with the next transfer
pub balances_push : (m : Machine) (a : Accepted) → IsSound m → IsAccepted m a → balance_rows (with_transfer m a.stored) ≡ set_both a.stored a.debit_after a.credit_after (balance_rows m)
balances_push m a s is = set_rows (balances_in m) (balances_in (with_transfer m a.stored)) a.stored a.debit_after a.credit_after (sym is.debit_after) (sym is.credit_after) (λ id debit credit. balances_elsewhere m a.stored id s is.next (by_side (λ side. eqb (account_on side a.stored) id ≡ false) debit credit)) m.accounts

-- and with the next account
pub balances_open : (m : Machine) (a : Account) → IsSound m → IsNextAccount m a → balance_rows (with_account m a) ≡ balance_rows m ++ new_balance a ∷ []
balances_open m a s next =
    map-append (balance_row m) m.accounts (a ∷ [])
    ∙ ap (λ (b : Balances). balance_rows m ++ balance_of a.id b ∷ []) (unknown_has_none m a.id s (account_unknown m a next))

-- the entries of a list with one more
entries_push : (before xs : List Transfer) (t : Transfer) → entries_after before (xs ++ t ∷ []) ≡ entries_after before xs ++ record { before = before ++ (xs ++ t ∷ []); transfer = t } ∷ []
entries_push before [] t = refl
entries_push before (x ∷ xs) t =
    let first : Entry = record { before = before ++ x ∷ []; transfer = x } in
    let last : List Transfer → Entry = λ all. record { before = all; transfer = t } in
    ap (λ rest. first ∷ rest) (entries_push (before ++ x ∷ []) xs t ∙ ap (λ all. entries_after (before ++ x ∷ []) xs ++ last all ∷ []) (append_assoc before (x ∷ []) (xs ++ t ∷ [])))

-- the two history rows of an entry
abbrev both_rows : Entry → List HistoryRow
both_rows entry = history_row entry.transfer.debit_account_id entry ∷ history_row entry.transfer.credit_account_id entry ∷ []

-- all history rows with the next transfer
pub history_push : (m : Machine) (a : Accepted) → IsAccepted m a → history_rows (with_transfer m a.stored) ≡ history_rows m ++ new_history a
history_push m a is =
    let t = a.stored in
    let row : ℕ → Balances → HistoryRow = λ account balances. record { account = account; timestamp = t.timestamp; balances = balances } in
    let at = λ (account : ℕ). ap (λ (clock : ℕ). balances_of (m.transfers ++ t ∷ []) clock account) is.next.at in
    let last : Entry = record { before = m.transfers ++ t ∷ []; transfer = t } in
    ap (flat_map both_rows) (entries_push [] m.transfers t) ∙ flat_map-append both_rows (entries_of m) (last ∷ [])
    ∙ (λ i. history_rows m ++ row t.debit_account_id ((at t.debit_account_id ∙ sym is.debit_after) i) ∷ row t.credit_account_id ((at t.credit_account_id ∙ sym is.credit_after) i) ∷ [])
