-- Rows in order of key, and the first place of a kind.
use Rattle.std.specs.Prelude.{◌≡◌, ◌≢◌, ℕ, ◌<◌, min, nat_le, List, [], ◌∷◌, Option, Some, None, IsSomeAnd, slice_get, if◌then◌else◌}

-- a row in front of the first that has no lesser key
abbrev pub placed : {A : Type 0} → (A → ℕ) → A → List A → List A
placed key row [] = row ∷ []
placed key row (other ∷ rows) =
    if nat_le (key row) (key other) then row ∷ other ∷ rows else other ∷ placed key row rows

-- the rows in order of key
abbrev pub in_order : {A : Type 0} → (A → ℕ) → List A → List A
in_order key [] = []
in_order key (row ∷ rows) = placed key row (in_order key rows)

-- a row holds the cells of a value that fits
abbrev pub HasValue : {V R : Type 0} → (V → R) → (V → Type 0) → R → Type 0
HasValue {V} cells Fits row = (value : V) × Fits value × (row ≡ cells value)

-- a row at this place, of which the fact does not hold
abbrev pub IsBadRow : {A : Type 0} → (A → Type 0) → List A → ℕ → Type 0
IsBadRow IsGood rows place = IsSomeAnd (slice_get rows place) (λ row. IsGood row → ⊥)

-- two lists are different at this place, where one of them may have ended
abbrev pub Differ : {A : Type 0} → List A → List A → ℕ → Type 0
Differ xs ys place = slice_get xs place ≢ slice_get ys place

-- the least place of these, or none where there is none
abbrev pub IsFirstPlace : (ℕ → Type 0) → Option ℕ → Type 0
IsFirstPlace P None = (place : ℕ) → P place → ⊥
IsFirstPlace P (Some first) = P first × ((place : ℕ) → place < first → P place → ⊥)

-- the lesser of two places, where there is one
abbrev pub lesser_place : Option ℕ → Option ℕ → Option ℕ
lesser_place None b = b
lesser_place (Some a) None = Some a
lesser_place (Some a) (Some b) = Some (min a b)
