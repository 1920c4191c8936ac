-- The open transfers that are due, and those that are left once one of them has expired.
use Rattle.std.proofs.Common.{◌≡◌, ℕ, Bool, true, false, eqb, cond, List, [], ◌∷◌, map, Some, None, inl, inr, refl, sym, ap, ◌∙◌, subst, subst₂}
use Rattle.std.specs.List.{filter, All}
use Rattle.std.specs.List.Sorted.{IsPermutation}
use Rattle.std.proofs.lemmas.Bool.{eqb-true}
use Rattle.std.proofs.lemmas.List.Elements.{All-head, All-tail, All-weaker}
use Rattle.std.proofs.lemmas.List.Sorted.{IsPermutation-refl, IsPermutation-cons, IsPermutation-trans, IsPermutation-middle}
use Rattle.records.specs.declared.transfer.Transfer.{Transfer}
use Rattle.records.specs.declared.facts.PendingState.TheVariants.{Expired}
use Rattle.records.specs.Flags.{is_pending}
use Rattle.records.specs.Machine.{Machine}
use Rattle.rows.specs.declared.status_row.StatusRow.{StatusRow}
use Rattle.rows.specs.Changes.{set_state}
use Rattle.rows.specs.Settling.{is_due_row, is_past_with, status_row_when, rows_when, rows_released}
use Rattle.running.specs.Holds.{status_with}
use Rattle.engine.proofs.ValidMachineLemmas.{AreDistinct, here_or_later, found_itself, IsSound}
use Rattle.running.proofs.KeyedRows.{changed_none, apart_mapped, apart_filtered}

abbrev pub transfer_of : StatusRow → ℕ
transfer_of row = row.transfer

-- the ids of those that are due
abbrev pub ids_due : ℕ → List StatusRow → List ℕ
ids_due clock rows = map transfer_of (filter (is_due_row clock) rows)

-- the first row, and the others
first_due : (due : Bool) (x : StatusRow) (rest : List StatusRow) → map transfer_of (cond due (x ∷ rest) rest) ≡ cond due (x.transfer ∷ map transfer_of rest) (map transfer_of rest)
first_due true x rest = refl
first_due false x rest = refl

behind : (due : Bool) (n id : ℕ) (before after : List ℕ) → IsPermutation before (id ∷ after) → IsPermutation (cond due (n ∷ before) before) (id ∷ cond due (n ∷ after) after)
behind true n id before after h = IsPermutation-trans (n ∷ before) (n ∷ id ∷ after) (id ∷ n ∷ after) (IsPermutation-cons n before (id ∷ after) h) (IsPermutation-middle (n ∷ []) id after)
behind false n id before after h = h

abbrev expired : StatusRow → StatusRow
expired row = record row { state = Expired }

here : (clock id : ℕ) (x row : StatusRow) (xs : List StatusRow) → eqb x.transfer id ≡ true → x ≡ row → is_due_row clock row ≡ true → status_with x.transfer xs ≡ None → IsPermutation (ids_due clock (x ∷ xs)) (id ∷ ids_due clock (set_state id Expired (x ∷ xs)))
here clock id x row xs is same due none =
    let key = eqb-true x.transfer id is in
    let rest = changed_none transfer_of id expired xs (subst (λ (k : ℕ). status_with k xs ≡ None) key none) in
    let before : ids_due clock (x ∷ xs) ≡ id ∷ ids_due clock xs =
    first_due (is_due_row clock x) x (filter (is_due_row clock) xs)
    ∙ (λ i. cond ((ap (is_due_row clock) same ∙ due) i) (key i ∷ ids_due clock xs) (ids_due clock xs)) in
    let after : ids_due clock xs ≡ ids_due clock (set_state id Expired (x ∷ xs)) =
    sym (λ i. ids_due clock (cond (is i) (expired x) x ∷ rest i)) in
    subst₂ (λ (a b : List ℕ). IsPermutation a (id ∷ b)) (sym before) after (IsPermutation-refl (id ∷ ids_due clock xs))

there : (clock id : ℕ) (x : StatusRow) (xs : List StatusRow) → eqb x.transfer id ≡ false → IsPermutation (ids_due clock xs) (id ∷ ids_due clock (set_state id Expired xs)) → IsPermutation (ids_due clock (x ∷ xs)) (id ∷ ids_due clock (set_state id Expired (x ∷ xs)))
there clock id x xs away rest =
    let ys = set_state id Expired xs in
    let before = first_due (is_due_row clock x) x (filter (is_due_row clock) xs) in
    let after : ids_due clock (set_state id Expired (x ∷ xs)) ≡ cond (is_due_row clock x) (x.transfer ∷ ids_due clock ys) (ids_due clock ys) =
    (λ i. ids_due clock (cond (away i) (expired x) x ∷ ys)) ∙ first_due (is_due_row clock x) x (filter (is_due_row clock) ys) in
    subst₂ (λ (a b : List ℕ). IsPermutation a (id ∷ b)) (sym before) (sym after) (behind (is_due_row clock x) x.transfer id (ids_due clock xs) (ids_due clock ys) rest)

pub one_expired : (clock id : ℕ) (rows : List StatusRow) (row : StatusRow) → AreDistinct transfer_of rows → status_with id rows ≡ Some row → is_due_row clock row ≡ true → IsPermutation (ids_due clock rows) (id ∷ ids_due clock (set_state id Expired rows))
one_expired clock id [] row d found due = absurd cc
one_expired clock id (x ∷ xs) row d found due = elim (here_or_later (eqb x.transfer id) x row (status_with id xs) found) [
  | inl w ↦ here clock id x row xs w.0 w.1 due d.0
  | inr w ↦ there clock id x xs w.0 (one_expired clock id xs row d.1 w.1 due)
]

-- where none is due none is left
none_kept : (clock : ℕ) (rows : List StatusRow) → All (λ row. is_due_row clock row ≡ false) rows → ids_due clock rows ≡ []
none_kept clock [] all = refl
none_kept clock (x ∷ xs) all =
    first_due (is_due_row clock x) x (filter (is_due_row clock) xs)
    ∙ ap (λ (b : Bool). cond b (x.transfer ∷ ids_due clock xs) (ids_due clock xs)) (All-head (λ row. is_due_row clock row ≡ false) x xs all)
    ∙ none_kept clock xs (All-tail (λ row. is_due_row clock row ≡ false) x xs all)

pub none_left_due : (clock : ℕ) (rows : List StatusRow) → AreDistinct transfer_of rows → ((id : ℕ) (row : StatusRow) → status_with id rows ≡ Some row → is_due_row clock row ≡ false) → ids_due clock rows ≡ []
none_left_due clock rows d none = none_kept clock rows (All-weaker (λ x. status_with x.transfer rows ≡ Some x) (λ x. is_due_row clock x ≡ false) (λ x found. none x.transfer x found) rows (found_itself transfer_of rows d))

-- the status rows of a sound machine, some of its transfers released, are told apart
pub statuses_apart : (m : Machine) (done : List ℕ) → IsSound m → AreDistinct transfer_of (rows_released m done).statuses
unfolding rows_when
statuses_apart m done s =
    apart_mapped (λ (t : Transfer). t.id) transfer_of (status_row_when (is_past_with m.clock done) m) (λ t. refl) (filter (λ (t : Transfer). is_pending t.flags) m.transfers)
    (apart_filtered (λ (t : Transfer). t.id) (λ t. is_pending t.flags) m.transfers s.transfers)
