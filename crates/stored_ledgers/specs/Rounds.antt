-- A ledger's tables in a round: a transaction in which work of several tenants is done.
use Rattle.std.specs.Prelude.{◌≡◌, ℕ, Bool, true, false, List, [], Option, Some, None, IsTrue}
use Rattle.records.specs.declared.unavailable.Unavailable.{Unavailable}
use Rattle.records.specs.declared.unavailable.Unavailable.TheVariants.{Memory, Size, Disk}
use Rattle.chain.specs.Ledgers.{Tenants}
use Rattle.sqlite.specs.Effect.{Database}
use Rattle.sqlite.specs.State.{State, HasCleanDisk}
use Rattle.sqlite_trees.specs.Tree.{Trees}
use Rattle.ledger_sql.specs.Frames.{Live, Follows}
use Rattle.stored_ledgers.specs.Directory.{tenants_in}
use Rattle.stored_ledgers.specs.DueSets.{DueSets, AreCovered}
use Rattle.stored_ledgers.specs.Ledger.{HoldsLedgers}
use Rattle.stored_ledgers.specs.Outcomes.{ArePast, KeepsTables}
use Rattle.stored_ledgers.specs.Resting.{CanServe}
use Rattle.stored_ledgers.specs.declared.working.Past.{Past}

-- in a transaction without a mark, whose database holds ledgers that the sets cover
pub record IsInRound (sets : DueSets) (s : State) : Type 0 where
  pub is_open : IsTrue s.is_open
  pub mode : IsTrue s.in_transaction
  pub unmarked : s.marks ≡ []
  pub serves : CanServe sets s.now

-- what the sets covered is still covered, so they serve what a rollback leads back to
abbrev pub GrowsSets : DueSets → DueSets → Type 0
GrowsSets old new = (trees : Trees) → AreCovered old trees → AreCovered new trees

-- what every run of calls in a round keeps: nothing is committed, and as long as the transaction
-- goes on the directory and the tables of strangers stay
pub record FollowsHere (old new : State) : Type 0 where
  pub calls : Follows old new
  pub inside :
      Live new → IsTrue new.in_transaction → IsTrue old.in_transaction × KeepsTables old.now new.now

-- whether a failure is the disk's
abbrev pub is_of_disk : Option Unavailable → Bool
is_of_disk None = false
is_of_disk (Some Memory) = false
is_of_disk (Some Size) = false
is_of_disk (Some Disk) = true

-- and where it has failed it stays so
pub record FollowsInRound (sets sets' : DueSets) (failure failure' : Option Unavailable)
    (old new : State) : Type 0 where
  pub here : FollowsHere old new
  pub unfailed : failure' ≡ None → failure ≡ None
  pub failed : is_of_disk failure ≡ true → is_of_disk failure' ≡ true
  pub grows : GrowsSets sets sets'

-- a round may go on, unless it has failed; what it keeps of clocks lies behind them
abbrev pub CanGoOn : Option Unavailable → DueSets → List Past → State → Type 0
CanGoOn failure sets pasts s =
    failure ≡ None → HasCleanDisk s → IsInRound sets s × ArePast pasts s.now.trees

-- the machines of a database that an opening may find: until the commit none that the round made
pub record FindsHere (s : State) (found : Tenants) : Type 0 where
  pub honest : HasCleanDisk s
  pub trees : Trees
  pub may : s.may_leave trees
  pub agrees : (digest : List ℕ) → found digest ≡ tenants_in trees digest

-- the work of a round was done, and clocks have these moments behind them
pub record IsRoundDone {O : Type 0} (gives : Tenants → O → Tenants → Type 0) (old new : Database)
    (output : O) (pasts : List Past) : Type 0 where
  pub keeps : KeepsTables old new
  pub done : gives (tenants_in old.trees) output (tenants_in new.trees)
  pub past : ArePast pasts new.trees

-- the database after it, which holds ledgers, as a crash may leave it
pub record IsAfterRound {O : Type 0} (gives : Tenants → O → Tenants → Type 0) (old : Database)
    (trees : Trees) : Type 0 where
  pub ledgers : HoldsLedgers (record { schema = old.schema; trees = trees })
  pub keeps : KeepsTables old (record { schema = old.schema; trees = trees })
  pub output : O
  pub done : gives (tenants_in old.trees) output (tenants_in trees)
