-- What the steps of a migration leave, one after the other.
use Rattle.std.specs.Prelude.{◌≡◌, ◌≢◌, ℕ, ◌<◌, ◌≤◌, Result, Err, IfOk, OnOk, OnErr, IsTrue}
use Rattle.sqlite.specs.Effect.{Database}
use Rattle.sqlite.specs.State.{State, HasCleanDisk, Survives}
use Rattle.ledger_sql.specs.Frames.{Live, IsUnmarked, Follows}
use Rattle.ledger_sql.specs.Schema.{ledger_schema}
use Rattle.stored_ledgers.specs.DueSets.{DueSets}
use Rattle.stored_ledgers.specs.Resting.{IsQuiet, IsSame}
use Rattle.openings.specs.Opened.{CanServeOrdered, IsSoundIn}
use Rattle.openings.specs.Told.{HasNamesIn}
use Rattle.migrate.specs.Filling.{CanSetVersion, KeepsEntries}
use Rattle.migrate.specs.Upgrading.{IsRaised, Raised}

-- in a transaction the tables of balances are there, beside what was there
pub record HasBalanceTables (old new : State) : Type 0 where
  pub can_set : CanSetVersion new
  pub entries : KeepsEntries old.now.trees new.now.trees

-- what was written can be served, or has tenants with names and sound rows of the balance schema
pub record IsSeen (to : ℕ) (sets : DueSets) (db : Database) : Type 0 where
  pub current : 3 ≤ to → CanServeOrdered sets db
  pub older : to < 3 → HasNamesIn 2 db.trees × IsSoundIn 2 db.trees

-- a ledger of the newer version stands in the transaction, to be committed
pub record IsPrepared (to : ℕ) (sets : DueSets) (old new : State) : Type 0 where
  pub schema : 3 ≤ to → new.now.schema ≡ ledger_schema
  pub raised : IsRaised to sets old.now new.now

-- all of an upgrade but the commit: answered, the newer ledger is prepared
pub record Prepares {E : Type 0} (to : ℕ) (old new : State) (result : Result DueSets E) :
    Type 0 where
  pub prepared : HasCleanDisk new → IfOk result (λ sets. IsPrepared to sets old new)
  pub follows : Follows old new

-- an upgrade: answered, the newer ledger has come of the older one, and no transaction is open; a
-- crash leaves what was there, or the newer ledger
pub record Raises {E : Type 0} (to : ℕ) (old new : State) (result : Result DueSets E) :
    Type 0 where
  pub raised : HasCleanDisk new → IfOk result (λ sets. IsRaised to sets old.now new.now)
  pub quiet : HasCleanDisk new → OnOk result (IsQuiet new)
  pub survives : Survives old new (Raised to old.now)

-- so it is; answered, the database is open, and failed, nothing of it is committed
pub record RaisesOrBegins {E : Type 0} (to : ℕ) (old new : State) (result : Result DueSets E) :
    Type 0 where
  pub raises : Raises to old new result
  pub is_open : HasCleanDisk new → OnOk result (IsTrue new.is_open)
  pub committed : Live new → OnErr result (new.committed ≡ old.committed)
  pub unmarked : Live new → OnErr result (IsUnmarked new)

-- so it is; answered, the database is open, and failed, it is as before
pub record RaisesWhole {E : Type 0} (to : ℕ) (old new : State) (result : Result DueSets E) :
    Type 0 where
  pub raises : Raises to old new result
  pub is_open : HasCleanDisk new → OnOk result (IsTrue new.is_open)
  pub same : Live new → OnErr result (IsSame old new)

-- so it is; failed, the database is as before, and unless this fault is told it is open
pub record RaisesOrTells {E : Type 0} (disk : E) (to : ℕ) (old new : State)
    (result : Result DueSets E) : Type 0 where
  pub raises : Raises to old new result
  pub same : Live new → OnErr result (IsSame old new)
  pub is_open : HasCleanDisk new → result ≢ Err disk → IsTrue new.is_open
