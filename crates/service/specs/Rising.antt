-- Moments that do not fall.
use Rattle.std.specs.Prelude.{◌≡◌, ◌≤◌, ℕ, List, [], ◌∷◌}
use Rattle.service.specs.Courses.{Event, Replied, Tried, Reopened}
use Rattle.service.specs.Deeds.{Asked, Joined, Keyed}

-- a moment is given: it counts as the last one from then on, and is not before the last one so far
abbrev pub GivesTold : {C : Type 0} → (C → ℕ) → C → ℕ → C → Type 0
GivesTold told old moment new = (moment ≡ told new) × (told old ≤ told new)

-- so it is of each moment that is given
abbrev pub GivesRising : {C : Type 0} → (C → ℕ → C → Type 0) → (C → ℕ) → Type 0
GivesRising {C} gives told =
    (old : C) (moment : ℕ) (new : C) → gives old moment new → GivesTold told old moment new

-- an event at which this moment is the last that was given: a message is answered at it, and a tenant
-- is settled to no later time
abbrev pub IsAt : ℕ → Event → Type 0
IsAt given (Replied asked moment reply) = moment ≡ given
IsAt given (Tried (Asked digest meaning moment) ending) = moment ≤ given
IsAt given (Tried (Joined digest) ending) = Unit {0}
IsAt given (Tried (Keyed was now) ending) = Unit {0}
IsAt given (Reopened deeds) = Unit {0}

-- events at moments that do not fall, from this moment to that one
abbrev pub Rise : ℕ → List Event → ℕ → Type 0
Rise from [] to = from ≤ to
Rise from (event ∷ events) to =
    (given : ℕ) × (from ≤ given) × IsAt given event × Rise given events to
