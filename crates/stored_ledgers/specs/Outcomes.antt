-- What a call leaves of a database, and what a crash in it may leave.
use Rattle.std.specs.Prelude.{◌≡◌, ◌≤◌, ℕ, ℤ, List, [], Result, Ok, Err, All, IsTrue}
use Rattle.records.specs.Machine.{Machine}
use Rattle.chain.specs.declared.ledgers.BatchFault.{BatchFault}
use Rattle.chain.specs.declared.ledgers.BatchFault.TheVariants.{UnknownKey as IsUnknown, Unavailable as AreUnavailable}
use Rattle.chain.specs.Ledgers.{IsDone}
use Rattle.sqlite.specs.Effect.{Database}
use Rattle.sqlite.specs.State.{State}
use Rattle.sqlite_trees.specs.Tree.{Trees}
use Rattle.ledger_sql.specs.Effects.{IsLedger}
use Rattle.ledger_sql.specs.Strangers.{KeepsStrangers}
use Rattle.stored_tables.specs.Frames.{AreNumbered}
use Rattle.stored_tables.specs.Holds.{HoldsMachine}
use Rattle.stored_tables.specs.InBatch.{IsBatchOf}
use Rattle.stored_tables.specs.MachineOf.{machine_of}
use Rattle.stored_ledgers.specs.declared.batches.UnknownKey.{UnknownKey}
use Rattle.stored_ledgers.specs.declared.working.Past.{Past}
use Rattle.stored_ledgers.specs.Directory.{tenants_in, KeepsDirectory}
use Rattle.stored_ledgers.specs.DueSets.{DueSet, CoversMachine}
use Rattle.stored_ledgers.specs.Ledger.{HoldsLedgers}
use Rattle.stored_ledgers.specs.Transactions.{Answer}

-- what a batch answers
abbrev pub batch_answer : {O : Type 0} → Answer O UnknownKey → Result O BatchFault
batch_answer (Ok (Ok output)) = Ok output
batch_answer (Ok (Err unknown)) = Err IsUnknown
batch_answer (Err why) = Err (AreUnavailable why)

-- the schema, the directory, and the tables of strangers are as they were
pub record KeepsTables (old new : Database) : Type 0 where
  pub schema : new.schema ≡ old.schema
  pub directory : KeepsDirectory old.trees new.trees
  pub strangers : KeepsStrangers old new

-- the tenant has the rows of its machine, which the set covers
pub record CanWork (tenant : ℤ) (set : DueSet) (db : Database) : Type 0 where
  pub ledger : IsLedger db.schema
  pub numbered : AreNumbered db.trees
  pub holds : HoldsMachine tenant (machine_of tenant db.trees) db.trees
  pub covered : CoversMachine set (machine_of tenant db.trees)

-- the work was done on a tenant's machine, which the set covers, and all else is as before
pub record HasWorked {O : Type 0} (gives : Machine → O → Machine → Type 0) (tenant : ℤ)
    (set : DueSet) (old new : Database) (output : O) : Type 0 where
  pub given : gives (machine_of tenant old.trees) output (machine_of tenant new.trees)
  pub batch : IsBatchOf tenant old new
  pub covered : CoversMachine set (machine_of tenant new.trees)

-- no tenant's clock has gone back
abbrev pub KeepsTime : Trees → Trees → Type 0
KeepsTime old new = (tenant : ℤ) → (machine_of tenant old).clock ≤ (machine_of tenant new).clock

-- a tenant's clock has a moment behind it; so has each of some tenants
abbrev pub IsPast : Trees → Past → Type 0
IsPast trees past = past.clock ≤ (machine_of past.tenant.0 trees).clock

abbrev pub ArePast : List Past → Trees → Type 0
ArePast pasts trees = All (IsPast trees) pasts

-- a transaction is open, without a mark, in which a tenant can be worked for
pub record IsWorkable (tenant : ℤ) (set : DueSet) (s : State) : Type 0 where
  pub is_open : IsTrue s.is_open
  pub mode : IsTrue s.in_transaction
  pub unmarked : s.marks ≡ []
  pub can : CanWork tenant set s.now

-- it goes on after the work was done, and this was the tenant's clock before
pub record HasWorkedHere {O : Type 0} (gives : Machine → O → Machine → Type 0) (tenant : ℤ)
    (set : DueSet) (old new : State) (output : O) (past : Past) : Type 0 where
  pub worked : HasWorked gives tenant set old.now new.now output
  pub is_open : IsTrue new.is_open
  pub mode : IsTrue new.in_transaction
  pub unmarked : new.marks ≡ []
  pub whose : past.tenant.0 ≡ tenant
  pub was : past.clock ≡ (machine_of tenant old.now.trees).clock
  pub later : past.clock ≤ (machine_of tenant new.now.trees).clock

-- a tenant's batch was done, and the directory, each other machine and the tables of strangers are
-- as before
pub record IsBatchDone {O : Type 0} (gives : Machine → O → Machine → Type 0) (digest : List ℕ)
    (old new : Database) (output : O) : Type 0 where
  pub keeps : KeepsTables old new
  pub done : IsDone gives digest (tenants_in old.trees) (tenants_in new.trees) output

-- so it was, and no clock has gone back, the tenant's not behind this moment
pub record IsBatchTimed {O : Type 0} (gives : Machine → O → Machine → Type 0) (digest : List ℕ)
    (old new : Database) (output : O) (past : Past) : Type 0 where
  pub batch : IsBatchDone gives digest old new output
  pub time : KeepsTime old.trees new.trees
  pub behind : IsPast new.trees past

-- the database after it, which holds ledgers, as a crash may leave it
pub record IsAfterBatch {O : Type 0} (gives : Machine → O → Machine → Type 0) (digest : List ℕ)
    (old : Database) (trees : Trees) : Type 0 where
  pub ledgers : HoldsLedgers (record { schema = old.schema; trees = trees })
  pub keeps : KeepsTables old (record { schema = old.schema; trees = trees })
  pub output : O
  pub done : IsDone gives digest (tenants_in old.trees) (tenants_in trees) output
