-- The numbers that stand for states and due times.
use Rattle.std.specs.Prelude.{ℕ, ℤ, pos, ◌<◌, ◌^◌, Option, Some, None}
use Rattle.records.specs.declared.facts.PendingState.{PendingState}
use Rattle.records.specs.declared.facts.PendingState.TheVariants.{Open, Posted, Voided, Expired}

-- the number of a state
abbrev pub state_number : PendingState → ℤ
state_number Open = pos 0
state_number Posted = pos 1
state_number Voided = pos 2
state_number Expired = pos 3

-- a due time, or 0 for never
abbrev pub due_number : Option ℕ → ℤ
due_number None = pos 0
due_number (Some due) = pos due

-- a due time that a file can hold; 0 is none, since it says never
abbrev pub IsStorableDue : Option ℕ → Type 0
IsStorableDue None = Unit {0}
IsStorableDue (Some due) = (0 < due) × (due < 2 ^ 63)
