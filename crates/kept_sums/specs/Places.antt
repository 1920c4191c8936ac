-- What is written to a file whose bytes are known.
use Rattle.std.specs.Prelude.{◌≡◌, ℕ, ◌+◌, ◌≤◌, List, length, take, drop, ◌++◌, Option, Some}

-- a part is written at a place, within what there is or at its end
abbrev pub WritesPart : ℕ → List ℕ → Option (List ℕ) → Option (List ℕ) → Type 0
WritesPart at part old new =
    (now : List ℕ) → new ≡ Some now
    → (all : List ℕ) × (old ≡ Some all)
    × (at ≤ length all → now ≡ take at all ++ (part ++ drop (at + length part) all))

-- what stands before a place is as it was
abbrev pub KeepsBefore : ℕ → Option (List ℕ) → Option (List ℕ) → Type 0
KeepsBefore at old new =
    (now : List ℕ) → new ≡ Some now
    → (all : List ℕ) × (old ≡ Some all) × (take at now ≡ take at all)
