-- The ledgers of many tenants: the machine of each, and what a call for one of them leaves.
use Rattle.std.specs.Prelude.{◌≡◌, ◌≢◌, ◌⊎◌, ℕ, Bool, true, List, Option, Some, None, Result, Ok, Err}
use Rattle.std.specs.Prelude.{IfOk, IsOk, OnErr, OnOk, is_some}
use Rattle.records.specs.declared.unavailable.Unavailable.{Unavailable}
use Rattle.records.specs.declared.unavailable.Unavailable.TheVariants.{Disk}
use Rattle.records.specs.Machine.{Machine}
use Rattle.records.specs.Valid.{IsValid}
use Rattle.chain.specs.declared.ledgers.BatchFault.{BatchFault}
use Rattle.chain.specs.declared.ledgers.BatchFault.TheVariants.{UnknownKey}
use Rattle.chain.specs.declared.ledgers.BatchFault.TheVariants.{Unavailable as AreUnavailable}
use Rattle.chain.specs.Tables.{Meaning}

-- the machine of the tenant with this digest, if there is one
abbrev pub Tenants : Type 0
Tenants = List ℕ → Option Machine

-- what the ledgers of many tenants mean: their machines, whether the ledgers are live, whether what
-- they stand on has failed, what every run of calls keeps, and which machines may be found where
-- what they stand on is opened again
pub record LedgersMeaning (S : Type 0) : Type 1 where
  pub tenants : S → Tenants
  pub is_live : S → Type 0
  pub has_failed : S → Bool
  pub follows : S → S → Type 0
  pub may_find : S → Tenants → Type 0

-- every tenant's machine is valid
abbrev pub AreValid : Tenants → Type 0
AreValid tenants = (digest : List ℕ) (m : Machine) → tenants digest ≡ Some m → IsValid m

-- every tenant's machine is as before
abbrev pub KeepsAll : Tenants → Tenants → Type 0
KeepsAll old new = (digest : List ℕ) → new digest ≡ old digest

-- every machine but that of one tenant is as before
abbrev pub KeepsOthers : List ℕ → Tenants → Tenants → Type 0
KeepsOthers digest old new = (other : List ℕ) → other ≢ digest → new other ≡ old other

-- what a batch of work leaves of one tenant's tables: if it answers, no mark is open
pub record IsWorkOver {S O : Type 0} (t : Meaning S) (old new : S) (result : Result O Unavailable) :
    Type 0 where
  pub usable : OnOk result (t.is_usable new)
  pub unmarked : t.is_live new → OnOk result ((t.state new).marked ≡ None)
  pub follows : t.follows old new

-- a batch was run on the tenant's machine, and every other machine is as before
pub record IsDone {O : Type 0} (gives : Machine → O → Machine → Type 0) (digest : List ℕ)
    (old new : Tenants) (output : O) : Type 0 where
  pub before : Machine
  pub after : Machine
  pub held : old digest ≡ Some before
  pub given : gives before output after
  pub holds : new digest ≡ Some after
  pub others : KeepsOthers digest old new

-- what a batch is told, and what it leaves
abbrev pub IsRun :
    {O : Type 0} → (Machine → O → Machine → Type 0) → List ℕ → Tenants → Tenants
    → Result O BatchFault → Type 0
IsRun gives digest old new (Ok output) = IsDone gives digest old new output
IsRun gives digest old new (Err UnknownKey) = (old digest ≡ None) × KeepsAll old new
IsRun gives digest old new (Err (AreUnavailable why)) = KeepsAll old new

-- what may be found after a call: what might have been found before, or machines that it leads to;
-- and only in live ledgers, where the call was answered
pub record Finds {S : Type 0} (t : LedgersMeaning S) (answered : Type 0)
    (LeadsTo : Tenants → Tenants → Type 0) (old new : S) : Type 0 where
  pub found :
      (found : Tenants) → t.may_find new found →
      t.may_find old found ⊎ (t.is_live old × LeadsTo (t.tenants old) found)
  pub live : answered → (found : Tenants) → t.may_find new found → t.is_live new

-- a batch was run, or there is no such tenant
abbrev pub IsAnswered : {O : Type 0} → Result O BatchFault → Type 0
IsAnswered (Ok output) = Unit {0}
IsAnswered (Err UnknownKey) = Unit {0}
IsAnswered (Err (AreUnavailable why)) = ⊥

-- machines that a batch leads to, whatever its output
abbrev pub LeadsBy :
    {O : Type 0} → (Machine → O → Machine → Type 0) → List ℕ → Tenants → Tenants → Type 0
LeadsBy {O} gives digest old found = (output : O) × IsDone gives digest old found output

-- machines that a round leads to, whatever its output
abbrev pub LeadsByRound :
    {O : Type 0} → (Tenants → O → Tenants → Type 0) → Tenants → Tenants → Type 0
LeadsByRound {O} gives old found = (output : O) × gives old output found

-- there is nothing that a question leads to
abbrev pub LeadsNowhere : Tenants → Tenants → Type 0
LeadsNowhere old found = ⊥

-- a batch on one tenant's machine: what it is told and leaves; of ledgers that have failed, that the
-- disk has
pub record RunsBatch {S O : Type 0} (t : LedgersMeaning S) (gives : Machine → O → Machine → Type 0)
    (digest : List ℕ) (old new : S) (result : Result O BatchFault) : Type 0 where
  pub run : t.is_live new → IsRun gives digest (t.tenants old) (t.tenants new) result
  pub failed : t.has_failed old ≡ true → result ≡ Err (AreUnavailable Disk)
  pub finds : Finds t (IsAnswered result) (LeadsBy gives digest) old new
  pub follows : t.follows old new

-- it is told whether a tenant has this digest, and nothing changes
pub record Knows {S : Type 0} (t : LedgersMeaning S) (digest : List ℕ) (old new : S)
    (result : Result Bool Unavailable) : Type 0 where
  pub value : t.is_live new → IfOk result (λ known. known ≡ is_some (t.tenants old digest))
  pub same : t.is_live new → KeepsAll (t.tenants old) (t.tenants new)
  pub failed : t.has_failed old ≡ true → result ≡ Err Disk
  pub finds : Finds t (IsOk result) LeadsNowhere old new
  pub follows : t.follows old new

-- the work of a round, all of it or nothing
pub record RunsRound {S O : Type 0} (t : LedgersMeaning S) (gives : Tenants → O → Tenants → Type 0)
    (old new : S) (result : Result O Unavailable) : Type 0 where
  pub run : t.is_live new → IfOk result (λ output. gives (t.tenants old) output (t.tenants new))
  pub same : t.is_live new → OnErr result (KeepsAll (t.tenants old) (t.tenants new))
  pub failed : t.has_failed old ≡ true → result ≡ Err Disk
  pub finds : Finds t (result ≢ Err Disk) (LeadsByRound gives) old new
  pub follows : t.follows old new
