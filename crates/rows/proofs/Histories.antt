-- An account's history rows stand in order of timestamp.
use Rattle.std.proofs.Common.{◌≡◌, ◌<◌, ℕ, Bool, true, false, eqb, cond, List, [], ◌∷◌, ◌++◌, refl, subst}
use Rattle.std.specs.List.{All, filter, flat_map}
use Rattle.std.proofs.lemmas.Bool.{both_ways, eqb-true}
use Rattle.std.proofs.lemmas.List.Elements.{All-nil, All-cons, All-head, All-tail, All-filter}
use Rattle.records.specs.declared.transfer.Transfer.{Transfer}
use Rattle.records.specs.Machine.{Machine}
use Rattle.records.specs.Reads.{Entry, entries_after}
use Rattle.records.specs.Valid.{IsValid}
use Rattle.engine.proofs.ValidMachineLemmas.{other_way}
use Rattle.rows.specs.declared.history_row.HistoryRow.{HistoryRow}
use Rattle.rows.specs.Prescribed.{history_row, history_rows}
use Rattle.rows.specs.Tables.{IsAscendingBy}
use Rattle.rows.proofs.InOrder.{made_at, transfers_ascend}

abbrev at : HistoryRow → ℕ
at row = row.timestamp

abbrev of_account : ℕ → HistoryRow → Bool
of_account account row = eqb row.account account

abbrev both_rows : Entry → List HistoryRow
both_rows entry = history_row entry.transfer.debit_account_id entry ∷ history_row entry.transfer.credit_account_id entry ∷ []

abbrev history_behind : List Transfer → List Transfer → List HistoryRow
history_behind before xs = flat_map both_rows (entries_after before xs)

-- rows of later transfers are later
rows_later : (least : ℕ) (before xs : List Transfer) → All (λ t. least < made_at t) xs → All (λ row. least < at row) (history_behind before xs)
rows_later least before [] later = All-nil (λ row. least < at row)
rows_later least before (t ∷ xs) later =
    let own = All-head (λ x. least < made_at x) t xs later in
    let entry : Entry = record { before = before ++ t ∷ []; transfer = t } in
    let rest = rows_later least (before ++ t ∷ []) xs (All-tail (λ x. least < made_at x) t xs later) in
    All-cons (λ row. least < at row) (history_row t.debit_account_id entry) (history_row t.credit_account_id entry ∷ history_behind (before ++ t ∷ []) xs) own
    (All-cons (λ row. least < at row) (history_row t.credit_account_id entry) (history_behind (before ++ t ∷ []) xs) own rest)

-- of a transfer's two rows one at most is the account's
two_rows : (debit credit : Bool) (d c : HistoryRow) (rest : List HistoryRow) → (debit ≡ true → credit ≡ false) → All (λ row. at d < at row) rest → All (λ row. at c < at row) rest → IsAscendingBy at rest
    → IsAscendingBy at (cond debit (d ∷ cond credit (c ∷ rest) rest) (cond credit (c ∷ rest) rest))
two_rows true true d c rest one later_d later_c up = absurd (both_ways true (one refl) refl)
two_rows true false d c rest one later_d later_c up = (later_d, up)
two_rows false true d c rest one later_d later_c up = (later_c, up)
two_rows false false d c rest one later_d later_c up = up

one_side : (account d c : ℕ) → eqb d c ≡ false → eqb d account ≡ true → eqb c account ≡ false
one_side account d c differ is = subst (λ k. eqb c k ≡ false) (eqb-true d account is) (other_way d c differ)

history_ascends : (account : ℕ) (before xs : List Transfer) → IsAscendingBy made_at xs → All (λ t. eqb t.debit_account_id t.credit_account_id ≡ false) xs → IsAscendingBy at (filter (of_account account) (history_behind before xs))
history_ascends account before [] up differ = tt
history_ascends account before (t ∷ xs) up differ =
    let entry : Entry = record { before = before ++ t ∷ []; transfer = t } in
    let behind = history_behind (before ++ t ∷ []) xs in
    let later = All-filter (of_account account) (λ row. made_at t < at row) behind (rows_later (made_at t) (before ++ t ∷ []) xs up.0) in
    two_rows (eqb t.debit_account_id account) (eqb t.credit_account_id account) (history_row t.debit_account_id entry) (history_row t.credit_account_id entry) (filter (of_account account) behind)
    (one_side account t.debit_account_id t.credit_account_id (All-head (λ x. eqb x.debit_account_id x.credit_account_id ≡ false) t xs differ)) later later
    (history_ascends account (before ++ t ∷ []) xs up.1 (All-tail (λ x. eqb x.debit_account_id x.credit_account_id ≡ false) t xs differ))

pub account_history_ascends : (m : Machine) (account : ℕ) → IsValid m → All (λ t. eqb t.debit_account_id t.credit_account_id ≡ false) m.transfers → IsAscendingBy at (filter (of_account account) (history_rows m))
account_history_ascends m account valid differ = history_ascends account [] m.transfers (transfers_ascend m valid) differ
