-- What a call over tables of ledgers answers and leaves: one word for each kind of call.
use Rattle.std.specs.Prelude.{◌≢◌, Result, Err, IfOk, IsTrue}
use Rattle.sqlite_trees.specs.Tree.{Trees}
use Rattle.sqlite.specs.Effect.{Database}
use Rattle.sqlite.specs.State.{State, HasCleanDisk, Survives}
use Rattle.ledger_sql.specs.Frames.{Live}
use Rattle.stored_ledgers.specs.DueSets.{DueSets}
use Rattle.stored_ledgers.specs.Looks.{Looks, ReadsAtRest}
use Rattle.stored_ledgers.specs.Resting.{IsResting}

-- a call that looks at a database and tells something: the answer is so of what is there
pub record LeavesSeen {A E : Type 0} (Answer : Database → A → Type 0) (old new : State)
    (result : Result A E) : Type 0 where
  pub value : HasCleanDisk new → IfOk result (Answer old.now)
  pub looks : Looks old new result

-- the same of a call between two batches
pub record LeavesToldAtRest {A E : Type 0} (disk : E) (Answer : Database → A → Type 0)
    (old new : State) (result : Result A E) : Type 0 where
  pub value : HasCleanDisk new → IfOk result (Answer old.now)
  pub reads : ReadsAtRest disk old new result

-- whatever a change answers, the sets cover the ledgers, and unless this fault is told the database
-- is open
pub record ServesOn {A E : Type 0} (disk : E) (sets : DueSets) (new : State)
    (result : Result A E) : Type 0 where
  pub resting : Live new → IsResting sets new
  pub is_open : HasCleanDisk new → result ≢ Err disk → IsTrue new.is_open

-- what a change of the tenants leaves: `Told` holds of the databases before and after, and the
-- tables serve on. A crash leaves what was there before, or what `Left` says
pub record ChangesTenants {A E : Type 0} (disk : E) (Told : Database → Database → Type 0)
    (Left : Database → Trees → Type 0) (sets : DueSets) (old new : State) (result : Result A E)
    : Type 0 where
  pub told : Live new → Told old.now new.now
  pub serves : ServesOn disk sets new result
  pub survives : Survives old new (Left old.now)
