-- Rows that are found and changed by a key.
use Rattle.std.specs.Prelude.{ℕ, ◌==◌, List, map, Option, if◌then◌else◌}
use Rattle.std.specs.List.{find}

-- the row with this key
abbrev pub row_with : {A : Type 0} → (A → ℕ) → ℕ → List A → Option A
row_with key id rows = find (λ row. key row == id) rows

-- the rows, with a change of the one that has this key
abbrev pub changed : {A : Type 0} → (A → ℕ) → ℕ → (A → A) → List A → List A
changed key id change rows = map (λ row. if key row == id then change row else row) rows
