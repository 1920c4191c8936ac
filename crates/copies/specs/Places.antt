-- What is read of a file and written to it, where its bytes can be told.
use Rattle.std.specs.Prelude.{◌≡◌, ℕ, ◌+◌, ◌≤◌, List, length, take, drop, ◌++◌, Option, Some}

-- so many bytes of the room are what the file has from a place on: all of it that has room
pub record HasRead (file : Option (List ℕ)) (at : ℕ) (room : List ℕ) (count : ℕ) : Type 0 where
  pub few : count ≤ length room
  pub same : (all : List ℕ) → file ≡ Some all → take count room ≡ take (length room) (drop at all)

-- bytes with a part written over them at a place
unfoldable pub overwritten : ℕ → List ℕ → List ℕ → List ℕ
overwritten at part all = take at all ++ part ++ drop (at + length part) all

-- a part is written at a place, within what there is or at its end
abbrev pub WritesPart : ℕ → List ℕ → Option (List ℕ) → Option (List ℕ) → Type 0
WritesPart at part old new =
    (all : List ℕ) → old ≡ Some all → at ≤ length all → new ≡ Some (overwritten at part all)

-- what is behind so many bytes is gone
abbrev pub Cuts : ℕ → Option (List ℕ) → Option (List ℕ) → Type 0
Cuts size old new = (all : List ℕ) → old ≡ Some all → new ≡ Some (take size all)

-- what a file has at a place, and has room, is written to its copy, and so much it is
abbrev pub Copies : ℕ → ℕ → Option (List ℕ) → Option (List ℕ) → Option (List ℕ) → ℕ → Type 0
Copies at room file old new count =
    (all had : List ℕ) → file ≡ Some all → old ≡ Some had → at ≤ length had →
    (count ≡ length (take room (drop at all)))
    × (new ≡ Some (overwritten at (take room (drop at all)) had))

-- a copy is the file, of so many bytes
abbrev pub IsCopied : Option (List ℕ) → Option (List ℕ) → Option (List ℕ) → ℕ → Type 0
IsCopied file old new size =
    (all had : List ℕ) → file ≡ Some all → old ≡ Some had → (new ≡ Some all) × (size ≡ length all)
