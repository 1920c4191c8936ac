-- Rows that are found by a key, with one more or with a change.
use Rattle.std.proofs.Common.{◌≡◌, ℕ, Bool, true, false, eqb, cond, List, [], ◌∷◌, ◌++◌, map, Option, Some, None, inl, inr, refl, ap, ◌∙◌, arith}
use Rattle.std.specs.List.{filter}
use Rattle.std.specs.Option.{option_map}
use Rattle.std.proofs.lemmas.Bool.{cases_Bool, both_ways, eqb-true}
use Rattle.records.specs.FirstOf.{or_else}
use Rattle.rows.specs.Keyed.{row_with, changed}
use Rattle.engine.proofs.ValidMachineLemmas.{AreDistinct, not_later}

-- one row more
pub found_push : {A : Type 0} (key : A → ℕ) (id : ℕ) (xs : List A) (y : A) → row_with key id (xs ++ y ∷ []) ≡ or_else (row_with key id xs) (cond (eqb (key y) id) (Some y) None)
found_push key id [] y = refl
found_push key id (x ∷ xs) y = grind (arith, found_push key id xs y)

-- one row changed
changed_at : {A : Type 0} (here there : Bool) (change : A → A) (x : A) (rest found : Option A) → rest ≡ cond there (option_map change found) found → cond here (Some (cond there (change x) x)) rest ≡ cond there (option_map change (cond here (Some x) found)) (cond here (Some x) found)
changed_at true true change x rest found h = refl
changed_at true false change x rest found h = refl
changed_at false true change x rest found h = h
changed_at false false change x rest found h = h

changed_here : {A : Type 0} (key : A → ℕ) (change : A → A) → ((x : A) → key (change x) ≡ key x) → (k id : ℕ) (x : A) (rest found : Option A) → rest ≡ cond (eqb id k) (option_map change found) found → cond (eqb (key (cond (eqb (key x) k) (change x) x)) id) (Some (cond (eqb (key x) k) (change x) x)) rest ≡ cond (eqb id k) (option_map change (cond (eqb (key x) id) (Some x) found)) (cond (eqb (key x) id) (Some x) found)
changed_here key change keeps k id x rest found h =
    let same : (b : Bool) → key (cond b (change x) x) ≡ key x = λ b. elim b as (λ v. key (cond v (change x) x) ≡ key x) [ true ↦ keeps x | false ↦ refl ] in
    ap (λ (n : ℕ). cond (eqb n id) (Some (cond (eqb (key x) k) (change x) x)) rest) (same (eqb (key x) k))
    ∙ elim (cases_Bool (eqb (key x) id)) [
      | inl is ↦
          let there : eqb (key x) k ≡ eqb id k = ap (λ (n : ℕ). eqb n k) (eqb-true (key x) id is) in
          ap (λ (b : Bool). cond (eqb (key x) id) (Some (cond b (change x) x)) rest) there ∙ changed_at (eqb (key x) id) (eqb id k) change x rest found h
      | inr away ↦ other (eqb (key x) id) (eqb id k) change (cond (eqb (key x) k) (change x) x) x rest found away h
    ]
  where
    other : {A : Type 0} (here there : Bool) (change : A → A) (y x : A) (rest found : Option A) → here ≡ false → rest ≡ cond there (option_map change found) found → cond here (Some y) rest ≡ cond there (option_map change (cond here (Some x) found)) (cond here (Some x) found)
    other true there change y x rest found away h = absurd (both_ways true away refl)
    other false there change y x rest found away h = h

pub found_changed : {A : Type 0} (key : A → ℕ) (change : A → A) → ((x : A) → key (change x) ≡ key x) → (k id : ℕ) (xs : List A) → row_with key id (changed key k change xs) ≡ cond (eqb id k) (option_map change (row_with key id xs)) (row_with key id xs)
found_changed key change keeps k id [] = nothing (eqb id k) change
  where
    nothing : {A : Type 0} (b : Bool) (change : A → A) → None ≡ cond b (option_map change None) None
    nothing true change = refl
    nothing false change = refl
found_changed key change keeps k id (x ∷ xs) = changed_here key change keeps k id x (row_with key id (changed key k change xs)) (row_with key id xs) (found_changed key change keeps k id xs)

none_changed : {A : Type 0} (b : Bool) (change : A → A) (found : Option A) → found ≡ None → cond b (option_map change found) found ≡ None
none_changed true change found h = ap (option_map change) h
none_changed false change found h = h

pub stays_none : {A : Type 0} (key : A → ℕ) (change : A → A) → ((x : A) → key (change x) ≡ key x) → (k id : ℕ) (xs : List A) → row_with key id xs ≡ None → row_with key id (changed key k change xs) ≡ None
stays_none key change keeps k id xs none = found_changed key change keeps k id xs ∙ none_changed (eqb id k) change (row_with key id xs) none

-- where no row has the key nothing is changed
pub changed_none : {A : Type 0} (key : A → ℕ) (k : ℕ) (change : A → A) (xs : List A) → row_with key k xs ≡ None → changed key k change xs ≡ xs
changed_none key k change [] none = refl
changed_none key k change (x ∷ xs) none = step (eqb (key x) k) x (change x) (changed key k change xs) xs (row_with key k xs) (changed_none key k change xs) none
  where
    step : {A : Type 0} (here : Bool) (x y : A) (ys xs : List A) (found : Option A) → (found ≡ None → ys ≡ xs) → cond here (Some x) found ≡ None → cond here y x ∷ ys ≡ x ∷ xs
    step true x y ys xs found rest none = absurd (grind arith)
    step false x y ys xs found rest none = ap (λ zs. x ∷ zs) (rest none)

-- rows that are made of elements with the same keys
pub none_mapped : {A B : Type 0} (key : A → ℕ) (name : B → ℕ) (f : A → B) → ((x : A) → name (f x) ≡ key x) → (id : ℕ) (xs : List A) → row_with key id xs ≡ None → row_with name id (map f xs) ≡ None
none_mapped key name f same id [] none = refl
none_mapped key name f same id (x ∷ xs) none =
    let away = not_later (eqb (key x) id) x (row_with key id xs) none in
    ap (λ (b : Bool). cond b (Some (f x)) (row_with name id (map f xs))) (ap (λ (n : ℕ). eqb n id) (same x) ∙ away.0) ∙ none_mapped key name f same id xs away.1

pub apart_mapped : {A B : Type 0} (key : A → ℕ) (name : B → ℕ) (f : A → B) → ((x : A) → name (f x) ≡ key x) → (xs : List A) → AreDistinct key xs → AreDistinct name (map f xs)
apart_mapped key name f same [] d = tt
apart_mapped key name f same (x ∷ xs) d = (ap (λ (n : ℕ). row_with name n (map f xs)) (same x) ∙ none_mapped key name f same (key x) xs d.0, apart_mapped key name f same xs d.1)

-- and some of the elements
none_left : {A : Type 0} (here kept : Bool) (x : A) (rest left : Option A) → (rest ≡ None → left ≡ None) → cond here (Some x) rest ≡ None → cond kept (cond here (Some x) left) left ≡ None
none_left here kept x rest left h none = let away = not_later here x rest none in by_kept here kept x left away.0 (h away.1)
  where
    by_kept : {A : Type 0} (here kept : Bool) (x : A) (left : Option A) → here ≡ false → left ≡ None → cond kept (cond here (Some x) left) left ≡ None
    by_kept here true x left off none = ap (λ (b : Bool). cond b (Some x) left) off ∙ none
    by_kept here false x left off none = none

found_kept : {A : Type 0} (key : A → ℕ) (id : ℕ) (kept : Bool) (x : A) (xs : List A) → row_with key id (cond kept (x ∷ xs) xs) ≡ cond kept (cond (eqb (key x) id) (Some x) (row_with key id xs)) (row_with key id xs)
found_kept key id true x xs = refl
found_kept key id false x xs = refl

pub none_filtered : {A : Type 0} (key : A → ℕ) (p : A → Bool) (id : ℕ) (xs : List A) → row_with key id xs ≡ None → row_with key id (filter p xs) ≡ None
none_filtered key p id [] none = refl
none_filtered key p id (x ∷ xs) none = found_kept key id (p x) x (filter p xs) ∙ none_left (eqb (key x) id) (p x) x (row_with key id xs) (row_with key id (filter p xs)) (none_filtered key p id xs) none

pub apart_filtered : {A : Type 0} (key : A → ℕ) (p : A → Bool) (xs : List A) → AreDistinct key xs → AreDistinct key (filter p xs)
apart_filtered key p [] d = tt
apart_filtered key p (x ∷ xs) d = by_kept key (p x) x (filter p xs) (none_filtered key p (key x) xs d.0) (apart_filtered key p xs d.1)
  where
    by_kept : {A : Type 0} (key : A → ℕ) (kept : Bool) (x : A) (xs : List A) → row_with key (key x) xs ≡ None → AreDistinct key xs → AreDistinct key (cond kept (x ∷ xs) xs)
    by_kept key true x xs none d = (none, d)
    by_kept key false x xs none d = d
