-- What a call that commits nothing leaves of the tables.
use Rattle.std.specs.Prelude.{◌≡◌, ◌⊎◌, false, [], IsTrue}
use Rattle.sqlite.specs.State.{State, HasCleanDisk, IsUnchanged, IsRolledBack, Survives}

-- the disk was honest so far, and the store is open
abbrev pub Live : State → Type 0
Live s = HasCleanDisk s × IsTrue s.is_open

-- a call that failed has changed nothing, or the whole transaction is undone
abbrev pub IsKeptOrUndone : State → State → Type 0
IsKeptOrUndone old new = IsUnchanged old new ⊎ IsRolledBack old new

-- outside a transaction there is no mark
abbrev pub IsUnmarked : State → Type 0
IsUnmarked s = s.in_transaction ≡ false → s.marks ≡ []

-- what every run of calls without a commit keeps: nothing new may be found after a crash
pub record Follows (old new : State) : Type 0 where
  pub survives : Survives old new (λ _. ⊥)
  pub live : Live new → IsTrue old.is_open
  pub committed : Live new → new.committed ≡ old.committed
  pub unmarked : Live new → IsUnmarked old → IsUnmarked new
