-- Lists of rows: maps, keys and changes.
use Rattle.std.proofs.Common.{◌≡◌, ℕ, Bool, true, false, eqb, cond, List, [], ◌∷◌, map, Option, Some, refl, sym, ap, ap₂, ◌∙◌}
use Rattle.std.specs.List.{find, All}
use Rattle.std.specs.Option.{option_map}
use Rattle.std.proofs.lemmas.List.Elements.{All-head, All-tail}
use Rattle.std.proofs.lemmas.Simd.{map-map}
use Rattle.rows.specs.Keyed.{row_with, changed}

-- rows made by two functions that agree
pub map_same : {A B : Type 0} (f g : A → B) → ((x : A) → f x ≡ g x) → (xs : List A) → map f xs ≡ map g xs
map_same f g same xs = ap (λ h. map h xs) (λ i x. same x i)

-- and that agree on the elements alone
pub map_same_in : {A B : Type 0} (f g : A → B) (xs : List A) → All (λ x. f x ≡ g x) xs → map f xs ≡ map g xs
map_same_in f g [] all = refl
map_same_in f g (x ∷ xs) all = ap₂ ◌∷◌ (All-head (λ x. f x ≡ g x) x xs all) (map_same_in f g xs (All-tail (λ x. f x ≡ g x) x xs all))

-- one row as it is after a change of the row with this key
abbrev pub changed_row : {A : Type 0} → (A → ℕ) → ℕ → (A → A) → A → A
changed_row key id change row = cond (eqb (key row) id) (change row) row

-- a change of rows that are made of elements
pub changed_map : {A B : Type 0} (key : B → ℕ) (id : ℕ) (change : B → B) (f g : A → B) → ((x : A) → g x ≡ changed_row key id change (f x)) → (xs : List A) → map g xs ≡ changed key id change (map f xs)
changed_map key id change f g same xs = map_same g (λ x. changed_row key id change (f x)) same xs ∙ sym (map-map (changed_row key id change) f xs)

found_at : {A B : Type 0} (here : Bool) (f : A → B) (x : A) (rest : Option B) (found : Option A) → rest ≡ option_map f found → cond here (Some (f x)) rest ≡ option_map f (cond here (Some x) found)
found_at true f x rest found h = refl
found_at false f x rest found h = h

-- the row with a key among rows that are made of elements
pub row_with-map : {A B : Type 0} (key : B → ℕ) (id : ℕ) (f : A → B) (xs : List A) → row_with key id (map f xs) ≡ option_map f (find (λ x. eqb (key (f x)) id) xs)
row_with-map key id f [] = refl
row_with-map key id f (x ∷ xs) = found_at (eqb (key (f x)) id) f x (row_with key id (map f xs)) (find (λ y. eqb (key (f y)) id) xs) (row_with-map key id f xs)
