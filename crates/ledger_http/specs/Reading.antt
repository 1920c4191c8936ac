-- What reading the parts of a message gives, where the bytes are known.
use Rattle.std.specs.Prelude.{◌≡◌, ◌≢◌, ℕ, ◌≤◌, ◌<◌, true, List, [], length, take, drop, Option, Some, Ok, Err, ⊤}
use Rattle.ledger_http.specs.declared.reading.HeadEnd.{HeadEnd}
use Rattle.ledger_http.specs.declared.reading.HeadEnd.TheVariants.{At, Nothing, Refused}
use Rattle.ledger_http.specs.Limits.{max_head}
use Rattle.ledger_http.specs.RefusalTable.{is_of_reading}
use Rattle.ledger_http.specs.Message.{length_of_head}

-- a head that has ended has room, and one that has not is refused while it is read
abbrev pub EndsWithin : ℕ → HeadEnd → Type 0
EndsWithin room (At n) = n ≤ room
EndsWithin room Nothing = ⊤
EndsWithin room (Refused refusal) = is_of_reading refusal ≡ true

-- where the head ends that the bytes begin with; no byte behind it is taken, nor behind as many as
-- it may have
abbrev pub IsHeadEnd : List ℕ → Option (List ℕ) → List ℕ → HeadEnd → Type 0
IsHeadEnd bytes left head (At n) =
    (length_of_head bytes ≡ Ok n) × (n ≤ length bytes)
    × (take n head ≡ take n bytes) × (left ≡ Some (drop n bytes))
IsHeadEnd bytes left head Nothing = (bytes ≡ []) × (left ≡ Some [])
IsHeadEnd bytes left head (Refused refusal) =
    (bytes ≢ []) × (length_of_head bytes ≡ Err refusal) × (left ≡ Some (drop max_head bytes))

-- the room begins with the next bytes, which are all where it is not full
pub record Fills
    (bytes : List ℕ) (left : Option (List ℕ)) (room : List ℕ) (filled : ℕ) : Type 0 where
  pub front : take filled room ≡ take filled bytes
  pub rest : left ≡ Some (drop filled bytes)
  pub there : filled ≤ length bytes
  pub all : filled < length room → filled ≡ length bytes

-- fewer bytes are taken than were due
pub record FallsShort (bytes : List ℕ) (left : Option (List ℕ)) (due : ℕ) : Type 0 where
  pub filled : ℕ
  pub few : filled < due
  pub there : filled ≤ length bytes
  pub rest : left ≡ Some (drop filled bytes)
