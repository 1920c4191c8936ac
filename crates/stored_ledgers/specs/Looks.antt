-- What a call that only looks at a database leaves of it.
use Rattle.std.specs.Prelude.{◌≢◌, Result, Err, OnOk, IsTrue}
use Rattle.sqlite.specs.State.{State, HasCleanDisk, IsUnchanged}
use Rattle.ledger_sql.specs.Frames.{Live, Follows}
use Rattle.stored_ledgers.specs.Resting.{IsQuiet, IsSame}

-- a call that looks at a database: answered, it has changed nothing; between two batches it leaves
-- what it found, whatever it answers
pub record Looks {A E : Type 0} (old new : State) (result : Result A E) : Type 0 where
  pub kept : HasCleanDisk new → OnOk result (IsUnchanged old new)
  pub same : Live new → IsQuiet old → IsSame old new
  pub follows : Follows old new

-- a call that reads between two batches: the database is as it was, and unless this fault is told
-- it is open
pub record ReadsAtRest {A E : Type 0} (disk : E) (old new : State) (result : Result A E) :
    Type 0 where
  pub same : Live new → IsSame old new
  pub is_open : HasCleanDisk new → result ≢ Err disk → IsTrue new.is_open
  pub follows : Follows old new
