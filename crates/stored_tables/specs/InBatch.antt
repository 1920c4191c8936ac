-- A ledger's tables in the batch of one tenant.
use Rattle.std.specs.Prelude.{◌≡◌, ◌⊎◌, ℤ, List, [], ◌∷◌, Option, Some, None, IsTrue}
use Rattle.records.specs.Machine.{Machine}
use Rattle.chain.specs.Tables.{State as Meant}
use Rattle.sqlite.specs.Effect.{Database}
use Rattle.sqlite.specs.State.{State, Savepoint, HasCleanDisk}
use Rattle.ledger_sql.specs.Effects.{IsLedger}
use Rattle.ledger_sql.specs.Frames.{Live, Follows}
use Rattle.ledger_sql.specs.Stages.{the_mark}
use Rattle.ledger_sql.specs.Strangers.{KeepsStrangers}
use Rattle.stored_tables.specs.Frames.{KeepsOtherTenants, AreNumbered}
use Rattle.stored_tables.specs.Holds.{HoldsMachine}
use Rattle.stored_tables.specs.MachineOf.{machine_of}

-- the tables are a ledger's, and the tenant's rows are those of its machine
pub record HoldsOwn (tenant : ℤ) (now : Database) : Type 0 where
  pub ledger : IsLedger now.schema
  pub numbered : AreNumbered now.trees
  pub holds : HoldsMachine tenant (machine_of tenant now.trees) now.trees

-- all but the tenant's rows is as it was
pub record KeepsRest (tenant : ℤ) (old now : Database) : Type 0 where
  pub schema : now.schema ≡ old.schema
  pub others : KeepsOtherTenants tenant old.trees now.trees
  pub strangers : KeepsStrangers old now

-- what a tenant's batch has made of a database: both of these
pub record IsBatchOf (tenant : ℤ) (begun now : Database) : Type 0 where
  pub ledger : IsLedger now.schema
  pub schema : now.schema ≡ begun.schema
  pub numbered : AreNumbered now.trees
  pub holds : HoldsMachine tenant (machine_of tenant now.trees) now.trees
  pub others : KeepsOtherTenants tenant begun.trees now.trees
  pub strangers : KeepsStrangers begun now

-- one mark is open, of such a database that differs in the tenant's rows alone, or none is
abbrev pub AreMarks : ℤ → Database → List Savepoint → Type 0
AreMarks tenant now marks =
    (marks ≡ [])
    ⊎ ((db : Database)
    × (marks ≡ the_mark db ∷ [])
    × HoldsOwn tenant db
    × KeepsRest tenant now db)

-- in a transaction over such a database
pub record IsInBatchOf (tenant : ℤ) (s : State) : Type 0 where
  pub is_open : IsTrue s.is_open
  pub mode : IsTrue s.in_transaction
  pub now : HoldsOwn tenant s.now
  pub marks : AreMarks tenant s.now s.marks

-- so it is as long as the disk was honest
abbrev pub IsInOwnBatch : ℤ → State → Type 0
IsInOwnBatch tenant s = HasCleanDisk s → IsInBatchOf tenant s

-- the machine at the mark
abbrev pub marked_in : ℤ → List Savepoint → Option Machine
marked_in tenant [] = None
marked_in tenant (mark ∷ marks) = Some (machine_of tenant mark.db.trees)

-- the tenant's machine now, as it was committed, and at the mark
unfoldable pub shown : ℤ → State → Meant
shown tenant s = record {
  now = machine_of tenant s.now.trees;
  begun = machine_of tenant s.committed.trees;
  marked = marked_in tenant s.marks;
}

-- what every run of calls in the batch keeps: nothing is committed, and as long as the transaction
-- goes on all but the tenant's rows is as it was
pub record FollowsInBatch (tenant : ℤ) (old new : State) : Type 0 where
  pub calls : Follows old new
  pub inside :
      Live new → IsTrue new.in_transaction →
      IsTrue old.in_transaction × KeepsRest tenant old.now new.now
