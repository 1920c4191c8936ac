-- A ledger's tables between two batches.
use Rattle.std.specs.Prelude.{◌≡◌, false, [], IsTrue}
use Rattle.sqlite_schema.specs.declared.schema.Schema.{Schema}
use Rattle.sqlite.specs.Effect.{Database}
use Rattle.sqlite.specs.State.{State, HasCleanDisk}
use Rattle.ledger_sql.specs.Creating.{IsEmptyLedger}
use Rattle.ledger_sql.specs.Schema.{ledger_schema}
use Rattle.stored_ledgers.specs.DueSets.{DueSets, AreCovered}
use Rattle.stored_ledgers.specs.Ledger.{HoldsLedgers}
pub use Rattle.stored_ledgers.specs.Transactions.{IsQuiet, IsSame}

-- it is open, and outside a transaction over this schema
pub record Rests (schema : Schema) (s : State) : Type 0 where
  pub is_open : IsTrue s.is_open
  pub schema_is : s.now.schema ≡ schema
  pub mode : s.in_transaction ≡ false
  pub settled : s.now ≡ s.committed
  pub unmarked : s.marks ≡ []

-- its database holds ledgers, which the sets cover
pub record IsResting (sets : DueSets) (s : State) : Type 0 where
  pub quiet : IsQuiet s
  pub ledgers : HoldsLedgers s.now
  pub covered : AreCovered sets s.now.trees

-- the database holds ledgers, which the sets cover
pub record CanServe (sets : DueSets) (db : Database) : Type 0 where
  pub ledgers : HoldsLedgers db
  pub covered : AreCovered sets db.trees

-- as long as the disk was honest it is open and rests
abbrev pub IsServing : DueSets → State → Type 0
IsServing sets s = HasCleanDisk s → IsTrue s.is_open × IsResting sets s

-- a new ledger: the tables of the current version, with no tenant
pub record IsNewLedger (s : State) : Type 0 where
  pub rests : Rests ledger_schema s
  pub empty : IsEmptyLedger s.now.trees

-- as long as the disk was honest it is open and quiet, and its database holds ledgers
abbrev pub HoldsHere : State → Type 0
HoldsHere s = HasCleanDisk s → IsTrue s.is_open × IsQuiet s × HoldsLedgers s.now
