-- The ids of status rows that are due, as one of them expires.
use Rattle.std.proofs.Common.{◌≡◌, ℕ, ◌+◌, ◌≤◌, Bool, true, false, eqb, ◌||◌, cond, List, [], ◌∷◌, map, filter, Some, refl, sym, ap, subst, ◌∙◌, arith}
use Rattle.std.specs.List.{AllByRecursion, count_by}
use Rattle.std.specs.List.Sorted.{IsPermutation}
use Rattle.std.proofs.lemmas.Bool.Decides.{Decides-eqb}
use Rattle.std.proofs.lemmas.List.Sorted.{IsPermutation-refl, IsPermutation-cons, IsPermutation-trans, IsPermutation-middle, list_any-IsPermutation}
use Rattle.std.proofs.lemmas.List.Sums.{sum_by-cons}
use Rattle.records.specs.declared.facts.PendingState.TheVariants.{Expired}
use Rattle.records.specs.Machine.{has_id}
use Rattle.rows.specs.declared.status_row.StatusRow.{StatusRow}
use Rattle.rows.specs.Changes.{set_state}
use Rattle.rows.specs.Keyed.{row_with}
use Rattle.rows.specs.Settling.{is_due_row}

-- the ids of the rows that are due
abbrev pub due_in : ℕ → List StatusRow → List ℕ
due_in clock rows = map (λ (row : StatusRow). row.transfer) (filter (is_due_row clock) rows)

-- a row that is due comes first
due_step : (due : Bool) (row : StatusRow) (kept : List StatusRow)
    → map (λ (row : StatusRow). row.transfer) (cond due (row ∷ kept) kept) ≡ cond due (row.transfer ∷ map (λ (row : StatusRow). row.transfer) kept) (map (λ (row : StatusRow). row.transfer) kept)
due_step true row kept = refl
due_step false row kept = refl

module _ (clock id : ℕ) where
  due_cons : (row : StatusRow) (rows : List StatusRow) → due_in clock (row ∷ rows) ≡ cond (is_due_row clock row) (row.transfer ∷ due_in clock rows) (due_in clock rows)
  due_cons row rows = due_step (is_due_row clock row) row (filter (is_due_row clock) rows)

  abbrev rows_with : List StatusRow → ℕ
  rows_with rows = count_by (λ (row : StatusRow). eqb row.transfer id) rows

  count_step : (here : Bool) (n m : ℕ) → m ≡ cond here 1 0 + n → m ≤ 1 → (n ≤ 1) × (here ≡ true → n ≡ 0)
  count_step true n m is once = (omega arith, λ _. omega arith)
  count_step false n m is once = (omega arith, λ h. absurd (cc))

  once_behind : (row : StatusRow) (rows : List StatusRow) → rows_with (row ∷ rows) ≤ 1 → (rows_with rows ≤ 1) × (eqb row.transfer id ≡ true → rows_with rows ≡ 0)
  once_behind row rows once = count_step (eqb row.transfer id) (rows_with rows) (rows_with (row ∷ rows)) (sum_by-cons (λ (row : StatusRow). cond {A = ℕ} (eqb row.transfer id) 1 0) row rows) once

  none_step : (here : Bool) (n m : ℕ) → m ≡ cond here 1 0 + n → m ≡ 0 → (here ≡ false) × (n ≡ 0)
  none_step true n m is none = absurd (omega arith)
  none_step false n m is none = (refl, omega arith)

  none_behind : (row : StatusRow) (rows : List StatusRow) → rows_with (row ∷ rows) ≡ 0 → (eqb row.transfer id ≡ false) × (rows_with rows ≡ 0)
  none_behind row rows none = none_step (eqb row.transfer id) (rows_with rows) (rows_with (row ∷ rows)) (sum_by-cons (λ (row : StatusRow). cond {A = ℕ} (eqb row.transfer id) 1 0) row rows) none

  abbrev expired : List StatusRow → List StatusRow
  expired rows = set_state id Expired rows

  abbrev moved : Bool → StatusRow → StatusRow
  moved here row = cond here (record row { state = Expired }) row

  -- where no row has the id, nothing changes, and it is not due
  same_rows : (rows : List StatusRow) → rows_with rows ≡ 0 → expired rows ≡ rows
  same_rows [] none = refl
  same_rows (row ∷ rows) none = let split = none_behind row rows none in λ i. moved (split.0 i) row ∷ same_rows rows split.1 i

  lacks_step : (due here : Bool) (ids : List ℕ) (t : ℕ) → eqb t id ≡ here → here ≡ false → has_id id ids ≡ false → has_id id (cond due (t ∷ ids) ids) ≡ false
  lacks_step true here ids t is away lacks = λ i. (is ∙ away) i || lacks i
  lacks_step false here ids t is away lacks = lacks

  lacks : (row : StatusRow) (rows : List StatusRow) → eqb row.transfer id ≡ false → has_id id (due_in clock rows) ≡ false → has_id id (due_in clock (row ∷ rows)) ≡ false
  lacks row rows away rest = ap (has_id id) (due_cons row rows) ∙ lacks_step (is_due_row clock row) (eqb row.transfer id) (due_in clock rows) row.transfer refl away rest

  none_due : (rows : List StatusRow) → rows_with rows ≡ 0 → has_id id (due_in clock rows) ≡ false
  none_due [] none = refl
  none_due (row ∷ rows) none = let split = none_behind row rows none in lacks row rows split.0 (none_due rows split.1)

  -- a row that is not due is passed over
  passed_over : (row : StatusRow) (rows : List StatusRow) → is_due_row clock row ≡ false → due_in clock (row ∷ rows) ≡ due_in clock rows
  passed_over row rows is = due_cons row rows ∙ ap (λ due. cond due (row.transfer ∷ due_in clock rows) (due_in clock rows)) is

  -- what has expired is not due
  gone_step : (here : Bool) (row : StatusRow) (rows : List StatusRow) → eqb row.transfer id ≡ here → has_id id (due_in clock rows) ≡ false → has_id id (due_in clock (moved here row ∷ rows)) ≡ false
  gone_step true row rows is rest = ap (has_id id) (passed_over (record row { state = Expired }) rows refl) ∙ rest
  gone_step false row rows is rest = lacks row rows is rest

  pub gone : (rows : List StatusRow) → has_id id (due_in clock (expired rows)) ≡ false
  gone [] = refl
  gone (row ∷ rows) = gone_step (eqb row.transfer id) row (expired rows) refl (gone rows)

  -- an id is not due where its row is not
  not_step : (here : Bool) (row : StatusRow) (rows : List StatusRow) → eqb row.transfer id ≡ here → (here ≡ true → rows_with rows ≡ 0) → ((it : StatusRow) → cond here (Some row) (row_with (λ r. r.transfer) id rows) ≡ Some it → is_due_row clock it ≡ false)
      → (((it : StatusRow) → row_with (λ r. r.transfer) id rows ≡ Some it → is_due_row clock it ≡ false) → has_id id (due_in clock rows) ≡ false) → has_id id (due_in clock (row ∷ rows)) ≡ false
  not_step true row rows is alone found rest = ap (has_id id) (passed_over row rows (found row refl)) ∙ none_due rows (alone refl)
  not_step false row rows is alone found rest = lacks row rows is (rest found)

  pub not_due : (rows : List StatusRow) → rows_with rows ≤ 1 → ((row : StatusRow) → row_with (λ r. r.transfer) id rows ≡ Some row → is_due_row clock row ≡ false) → has_id id (due_in clock rows) ≡ false
  not_due [] once found = refl
  not_due (row ∷ rows) once found =
      let split = once_behind row rows once in
      not_step (eqb row.transfer id) row rows refl split.1 found (not_due rows split.0)

  -- one that is due expires
  due_first : (due : Bool) (t : ℕ) (before after : List ℕ) → IsPermutation before (id ∷ after) → IsPermutation (cond due (t ∷ before) before) (id ∷ cond due (t ∷ after) after)
  due_first true t before after same = IsPermutation-trans (t ∷ before) (t ∷ id ∷ after) (id ∷ t ∷ after) (IsPermutation-cons t before (id ∷ after) same) (IsPermutation-middle (t ∷ []) id after)
  due_first false t before after same = same

  expires_step : (here : Bool) (row it : StatusRow) (rows : List StatusRow) → eqb row.transfer id ≡ here → (here ≡ true → rows_with rows ≡ 0) → cond here (Some row) (row_with (λ r. r.transfer) id rows) ≡ Some it → is_due_row clock it ≡ true
      → (row_with (λ r. r.transfer) id rows ≡ Some it → IsPermutation (due_in clock rows) (id ∷ due_in clock (expired rows))) → IsPermutation (due_in clock (row ∷ rows)) (id ∷ due_in clock (moved here row ∷ expired rows))
  expires_step true row it rows is alone found due rest =
      let this : row ≡ it = cc in
      let its_due : is_due_row clock row ≡ true = ap (is_due_row clock) this ∙ due in
      let before : due_in clock (row ∷ rows) ≡ id ∷ due_in clock rows = due_cons row rows ∙ (λ i. cond (its_due i) ((Decides-eqb row.transfer id).0 is i ∷ due_in clock rows) (due_in clock rows)) in
      let after : due_in clock (record row { state = Expired } ∷ expired rows) ≡ due_in clock rows = passed_over (record row { state = Expired }) (expired rows) refl ∙ ap (due_in clock) (same_rows rows (alone refl)) in
      subst (IsPermutation (due_in clock (row ∷ rows))) (before ∙ ap (λ ids. id ∷ ids) (sym after)) (IsPermutation-refl (due_in clock (row ∷ rows)))
  expires_step false row it rows is alone found due rest =
      subst (λ ids. IsPermutation ids (id ∷ due_in clock (row ∷ expired rows))) (sym (due_cons row rows))
      (subst (λ ids. IsPermutation (cond (is_due_row clock row) (row.transfer ∷ due_in clock rows) (due_in clock rows)) (id ∷ ids)) (sym (due_cons row (expired rows)))
      (due_first (is_due_row clock row) row.transfer (due_in clock rows) (due_in clock (expired rows)) (rest found)))

  pub expires : (rows : List StatusRow) (row : StatusRow) → rows_with rows ≤ 1 → row_with (λ r. r.transfer) id rows ≡ Some row → is_due_row clock row ≡ true → IsPermutation (due_in clock rows) (id ∷ due_in clock (expired rows))
  expires [] row once found due = absurd (cc)
  expires (first ∷ rows) row once found due =
      let split = once_behind first rows once in
      expires_step (eqb first.transfer id) first row rows refl split.1 found due (λ there. expires rows row split.0 there due)

-- where another id is not due, it is not due in fewer
not_either : (here there : Bool) → (here || there) ≡ false → there ≡ false
not_either true there h = absurd (cc)
not_either false there h = h

pub not_in_fewer : (k id : ℕ) (more fewer : List ℕ) → IsPermutation more (id ∷ fewer) → has_id k more ≡ false → has_id k fewer ≡ false
not_in_fewer k id more fewer same lacks = not_either (eqb id k) (has_id k fewer) (sym (list_any-IsPermutation (λ other. eqb other k) more (id ∷ fewer) same) ∙ lacks)

-- an id that is due has a row that is
pub record IsDueRow (clock k : ℕ) (P : StatusRow → Type 0) : Type 0 where
  pub row : StatusRow
  pub holds : P row
  pub transfer : row.transfer ≡ k
  pub due : is_due_row clock row ≡ true

row_step : (clock k : ℕ) (P : StatusRow → Type 0) (due here : Bool) (row : StatusRow) (ids : List ℕ) → is_due_row clock row ≡ due → eqb row.transfer k ≡ here → P row → has_id k (cond due (row.transfer ∷ ids) ids) ≡ true → (has_id k ids ≡ true → IsDueRow clock k P) → IsDueRow clock k P
row_step clock k P true true row ids is same p has rest = record { row = row; holds = p; transfer = (Decides-eqb row.transfer k).0 same; due = is }
row_step clock k P true false row ids is same p has rest = rest (sym (ap (λ b. b || has_id k ids) same) ∙ has)
row_step clock k P false here row ids is same p has rest = rest has

pub due_row : (clock k : ℕ) (P : StatusRow → Type 0) (rows : List StatusRow) → AllByRecursion P rows → has_id k (due_in clock rows) ≡ true → IsDueRow clock k P
due_row clock k P [] all has = absurd (cc)
due_row clock k P (row ∷ rows) all has =
    row_step clock k P (is_due_row clock row) (eqb row.transfer k) row (due_in clock rows) refl refl all.0
    (sym (ap (has_id k) (due_step (is_due_row clock row) row (filter (is_due_row clock) rows))) ∙ has) (due_row clock k P rows all.1)
