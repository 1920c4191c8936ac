-- A machine that another one can have come to.
use Rattle.std.specs.Prelude.{◌≡◌, ℕ, ◌≤◌, true, List, ◌++◌}
use Rattle.records.specs.Machine.{Machine, has_id}

-- a list that goes on behind another one
abbrev pub Extends : {A : Type 0} → List A → List A → Type 0
Extends {A} old new = (more : List A) × (new ≡ old ++ more)

-- the entries and failed ids of the earlier one are kept in place, and the clock does not fall
pub record IsLater (old new : Machine) : Type 0 where
  pub accounts : Extends old.accounts new.accounts
  pub transfers : Extends old.transfers new.transfers
  pub failed : (id : ℕ) → has_id id old.failed ≡ true → has_id id new.failed ≡ true
  pub clock : old.clock ≤ new.clock
