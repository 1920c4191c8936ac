-- A running tenant on the way to a later clock.
use Rattle.std.specs.Prelude.{◌≡◌, ℕ, ◌≤◌, [], ◌++◌, List, IsPermutation}
use Rattle.records.specs.Machine.{Machine}
use Rattle.records.specs.Valid.{IsValid}
use Rattle.rows.specs.Prescribed.{rows_for}
use Rattle.rows.specs.Settling.{rows_released, due_ids}
use Rattle.running.specs.declared.running.Running.{Running}
use Rattle.running.specs.Running.{Agrees, IsLast}

-- these transfers are released, of all that are due at the later clock
pub record IsReleasing
    (m : Machine) (clock : ℕ) (done : List ℕ) (r : Running) : Type 0 where
  pub valid : IsValid m
  pub none_failed : m.failed ≡ []
  pub later : m.clock ≤ clock
  pub last : IsLast m r.last
  pub agrees : Agrees (rows_released m done) r
  pub left :
      IsPermutation (due_ids clock (rows_for 3 m))
      (done ++ due_ids clock (rows_released m done))
