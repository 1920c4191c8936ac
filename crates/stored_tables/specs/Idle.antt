-- What a ledger's tables have where a read tells what is so of a tenant.
use Rattle.std.specs.Prelude.{ℤ, IsTrue, Result}
use Rattle.records.specs.declared.unavailable.Unavailable.{Unavailable}
use Rattle.records.specs.Machine.{Machine}
use Rattle.sqlite.specs.State.{State}
use Rattle.ledger_sql.specs.Calls.{LeavesLearnt}
use Rattle.ledger_sql.specs.Effects.{IsLedger}
use Rattle.stored_tables.specs.Holds.{HoldsMachine}
use Rattle.stored_tables.specs.MachineOf.{machine_of}

-- their store is open
abbrev pub HasOpenStore : State → Type 0
HasOpenStore s = IsTrue s.is_open

-- the tenant's machine in a database
abbrev pub machine_at : ℤ → State → Machine
machine_at tenant s = machine_of tenant s.now.trees

-- the tables are a ledger's, and the tenant has the rows of its machine
pub record HoldsTenant (tenant : ℤ) (s : State) : Type 0 where
  pub schema : IsLedger s.now.schema
  pub holds : HoldsMachine tenant (machine_at tenant s) s.now.trees

-- a call that tells of such a tenant's machine what is so
abbrev pub LearnsOf : {X : Type 0} → ℤ → (Machine → X → Type 0) → State → State
    → Result X Unavailable → Type 0
LearnsOf tenant IsSo old new result =
    LeavesLearnt (HoldsTenant tenant) (λ trees. IsSo (machine_of tenant trees)) old new result
