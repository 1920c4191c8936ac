-- Room for long messages, and those who wait for it.
use Rattle.std.specs.Prelude.{◌≡◌, ◌-◌, ◌≤◌, ◌<◌, ◌⊎◌, ◌≢◌, ℕ, List, [], ◌∷◌, min, ⊤}
use Rattle.sockets.specs.declared.room.Asked.{Asked}
use Rattle.sockets.specs.declared.room.Room.{Room}

-- how much of the room a message of so many bytes takes: its whole length, or all if it is longer
abbrev pub share : Room → ℕ → ℕ
share room bytes = min bytes room.all

-- nobody waits, and a message has its share
pub record IsTaken (old new : Room) (bytes taken : ℕ) : Type 0 where
  pub share : taken ≡ share old bytes
  pub nobody : old.waiting.items ≡ []
  pub enough : taken ≤ old.free
  pub left : new ≡ record old { free = old.free - taken }

-- somebody waits, or less is free than the share of a message
abbrev pub IsFull : Room → ℕ → Type 0
IsFull room bytes = (room.waiting.items ≢ []) ⊎ (room.free < share room bytes)

-- who waited first waits no more, and has its share
pub record IsLetIn (old new : Room) (let_in : Asked) : Type 0 where
  pub asked : ℕ
  pub order : old.waiting.items ≡ record let_in { bytes = asked } ∷ new.waiting.items
  pub share : let_in.bytes ≡ share old asked
  pub enough : let_in.bytes ≤ old.free
  pub left : new.free ≡ old.free - let_in.bytes
  pub all : new.all ≡ old.all

-- who waits first waits for more than is free
abbrev pub IsMore : Room → List Asked → Type 0
IsMore room [] = ⊤
IsMore room (asked ∷ rest) = room.free < share room asked.bytes

-- nobody waits, or the first one for more than is free, which is less than all: nothing changes
pub record LetsNobodyIn (old new : Room) : Type 0 where
  pub more : IsMore old old.waiting.items
  pub never : old.all ≤ old.free → old.waiting.items ≡ []
  pub same : new ≡ old

-- as much is free as before, of as much room
pub record KeepsRoom (old new : Room) : Type 0 where
  pub free : new.free ≡ old.free
  pub all : new.all ≡ old.all
