-- The row with a key, and the rows after it is changed.
use Rattle.std.proofs.Common.{◌≡◌, ◌≤◌, ◌+◌, ℕ, Bool, true, false, not, eqb, cond, List, [], ◌∷◌, Option, Some, refl, sym, ap, ap₂, ◌∙◌, subst, arith}
use Rattle.std.specs.List.{filter, count_by}
use Rattle.std.specs.List.Sorted.{IsPermutation}
use Rattle.std.specs.Option.{option_to_list}
use Rattle.std.proofs.lemmas.Option.{same_Some}
use Rattle.std.proofs.lemmas.List.Sums.{sum_by-cons}
use Rattle.std.proofs.lemmas.List.Sorted.{IsPermutation-refl, IsPermutation-cons, IsPermutation-trans}
use Rattle.rows.specs.Keyed.{row_with, changed}
use Rattle.rows.specs.Tables.{without_key}
use Rattle.rows.proofs.Permuted.{turned}

abbrev with_this : {A : Type 0} → (A → ℕ) → ℕ → A → Bool
with_this key id row = eqb (key row) id

abbrev rows_with : {A : Type 0} → (A → ℕ) → ℕ → List A → ℕ
rows_with key id rows = count_by (with_this key id) rows

-- what a key that no row has leaves
record IsUntouched {A : Type 0} (key : A → ℕ) (id : ℕ) (change : A → A) (xs : List A) : Type 0 where
  changed_rows : changed key id change xs ≡ xs
  other_rows : without_key key id xs ≡ xs
  key_rows : filter (with_this key id) xs ≡ []

untouched_step : {A : Type 0} (here : Bool) (id : ℕ) (key : A → ℕ) (change : A → A) (x : A) (xs : List A) → eqb (key x) id ≡ here → here ≡ false → IsUntouched key id change xs → IsUntouched key id change (x ∷ xs)
untouched_step here id key change x xs is away u = let no_match = is ∙ away in record {
  changed_rows = ap₂ ◌∷◌ (ap (λ (b : Bool). cond b (change x) x) no_match) u.changed_rows;
  other_rows = ap (λ (b : Bool). cond (not b) (x ∷ without_key key id xs) (without_key key id xs)) no_match ∙ ap (λ rest. x ∷ rest) u.other_rows;
  key_rows = ap (λ (b : Bool). cond b (x ∷ filter (with_this key id) xs) (filter (with_this key id) xs)) no_match ∙ u.key_rows;
}

counts_none : (here : Bool) (n : ℕ) → cond here 1 0 + n ≡ 0 → (here ≡ false) × (n ≡ 0)
counts_none true n h = absurd (omega arith)
counts_none false n h = (refl, omega arith)

untouched : {A : Type 0} (key : A → ℕ) (id : ℕ) (change : A → A) (xs : List A) → rows_with key id xs ≡ 0 → IsUntouched key id change xs
untouched key id change [] none = record { changed_rows = refl; other_rows = refl; key_rows = refl }
untouched key id change (x ∷ xs) none =
    let parts = counts_none (eqb (key x) id) (rows_with key id xs) (sym (sum_by-cons (λ y. cond {A = ℕ} (eqb (key y) id) 1 0) x xs) ∙ none) in
    untouched_step (eqb (key x) id) id key change x xs refl parts.0 (untouched key id change xs parts.1)

-- a list in which a key stands at most once
abbrev OnceAtMost : {A : Type 0} → (A → ℕ) → ℕ → List A → Type 0
OnceAtMost key id xs = rows_with key id xs ≤ 1

none_behind : (here : Bool) (n : ℕ) → cond here 1 0 + n ≤ 1 → here ≡ true → n ≡ 0
none_behind true n h is = omega arith
none_behind false n h is = absurd (grind arith)

one_behind : (here : Bool) (n : ℕ) → cond here 1 0 + n ≤ 1 → n ≤ 1
one_behind here n h = omega arith

cut : {A : Type 0} (key : A → ℕ) (id : ℕ) (x : A) (xs : List A) → OnceAtMost key id (x ∷ xs) → cond (eqb (key x) id) 1 0 + rows_with key id xs ≤ 1
cut key id x xs once = subst (λ (n : ℕ). n ≤ 1) (sum_by-cons (λ y. cond {A = ℕ} (eqb (key y) id) 1 0) x xs) once

-- the rows with the key are the row that is found
picked_step : {A : Type 0} (here : Bool) (x : A) (behind : List A) (found : Option A) → (here ≡ true → behind ≡ []) → behind ≡ option_to_list found → cond here (x ∷ behind) behind ≡ option_to_list (cond here (Some x) found)
picked_step true x behind found none rest = ap (λ xs. x ∷ xs) (none refl)
picked_step false x behind found none rest = rest

pub picked : {A : Type 0} (key : A → ℕ) (id : ℕ) (xs : List A) → OnceAtMost key id xs → filter (with_this key id) xs ≡ option_to_list (row_with key id xs)
picked key id [] once = refl
picked key id (x ∷ xs) once =
    let c = cut key id x xs once in
    picked_step (eqb (key x) id) x (filter (with_this key id) xs) (row_with key id xs)
    (λ here. (untouched key id (λ y. y) xs (none_behind (eqb (key x) id) (rows_with key id xs) c here)).key_rows)
    (picked key id xs (one_behind (eqb (key x) id) (rows_with key id xs) c))

-- the rows after a change: the changed row, and all others
replaced_here : {A : Type 0} (key : A → ℕ) (id : ℕ) (change : A → A) (x y : A) (xs : List A) → y ≡ x → IsUntouched key id change xs → IsPermutation (change x ∷ without_key key id xs) (change y ∷ changed key id change xs)
replaced_here key id change x y xs is u =
    subst (λ rows. IsPermutation (change x ∷ without_key key id xs) rows)
    (λ i. change (sym is i) ∷ (u.other_rows ∙ sym u.changed_rows) i)
    (IsPermutation-refl (change x ∷ without_key key id xs))

replaced_step : {A : Type 0} (here : Bool) (key : A → ℕ) (id : ℕ) (change : A → A) (x y : A) (xs : List A) → cond here (Some y) (row_with key id xs) ≡ Some x
    → (here ≡ true → IsUntouched key id change xs) → (row_with key id xs ≡ Some x → IsPermutation (change x ∷ without_key key id xs) (changed key id change xs))
    → IsPermutation (change x ∷ cond (not here) (y ∷ without_key key id xs) (without_key key id xs)) (cond here (change y) y ∷ changed key id change xs)
replaced_step true key id change x y xs found none rest = replaced_here key id change x y xs (same_Some y x found) (none refl)
replaced_step false key id change x y xs found none rest =
    IsPermutation-trans _ _ _ (turned (change x) y (without_key key id xs)) (IsPermutation-cons y (change x ∷ without_key key id xs) (changed key id change xs) (rest found))

pub replaced : {A : Type 0} (key : A → ℕ) (id : ℕ) (change : A → A) (xs : List A) (x : A) → OnceAtMost key id xs → row_with key id xs ≡ Some x → IsPermutation (change x ∷ without_key key id xs) (changed key id change xs)
replaced key id change [] x once found = absurd (grind arith)
replaced key id change (y ∷ xs) x once found =
    let c = cut key id y xs once in
    replaced_step (eqb (key y) id) key id change x y xs found
    (λ here. untouched key id change xs (none_behind (eqb (key y) id) (rows_with key id xs) c here))
    (λ behind. replaced key id change xs x (one_behind (eqb (key y) id) (rows_with key id xs) c) behind)
