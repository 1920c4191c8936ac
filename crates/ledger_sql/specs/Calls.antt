-- What a call over a connection leaves of it: one word for each kind of call.
use Rattle.std.specs.Prelude.{List, Option, Result, IfOk, IfSome, OnOk, OnErr, option_map}
use Rattle.sqlite_value.specs.Order.{Row}
use Rattle.sqlite_trees.specs.Tree.{Trees}
use Rattle.sqlite_trees.specs.declared.store.Store.{Ghosts}
use Rattle.sqlite_schema.specs.declared.schema.Schema.{Schema}
use Rattle.sqlite.specs.Held.{Held, state}
use Rattle.sqlite.specs.State.{State, HasCleanDisk, IsUnchanged}
use Rattle.ledger_sql.specs.Effects.{IsLedger, StartsAs, Picks}
use Rattle.ledger_sql.specs.Frames.{Live, IsKeptOrUndone, IsOver, Follows}

-- a call that reads: answered, it has changed nothing; failed, it may have undone the transaction
pub record LeavesRead {A E : Type 0} (old new : State) (result : Result A E) : Type 0 where
  pub same : HasCleanDisk new → OnOk result (IsUnchanged old new)
  pub kept : HasCleanDisk new → IsKeptOrUndone old new
  pub follows : Follows old new

-- a call that learns something: answered over such tables, it tells what is so of them
pub record LeavesLearnt {A E : Type 0} (Over : State → Type 0) (Answer : Trees → A → Type 0)
    (old new : State) (result : Result A E) : Type 0 where
  pub ok : HasCleanDisk new → Over old → IfOk result (Answer old.now.trees)
  pub reads : LeavesRead old new result

-- a call that reads a table whole: where these tables come first, it answers so
pub record LeavesListed {A E : Type 0} (ours : Schema) (Answer : Trees → A → Type 0)
    (old new : State) (result : Result A E) : Type 0 where
  pub whole : HasCleanDisk new → StartsAs ours.tables old.now.schema →
      IfOk result (Answer old.now.trees)
  pub reads : LeavesRead old new result

-- a call that finds rows of a ledger: the answer is so of its tables, and fits their columns
pub record LeavesFound {A E : Type 0} (Fits : A → Type 0) (Answer : Trees → A → Type 0)
    (old new : State) (result : Result A E) : Type 0 where
  pub ok : HasCleanDisk new → IsLedger old.now.schema → IfOk result (Answer old.now.trees)
  pub fits : IfOk result Fits
  pub reads : LeavesRead old new result

-- a value that fits its columns, whatever it is
abbrev pub AnyWidth : {A : Type 0} → A → Type 0
AnyWidth value = Unit {0}

-- a call that writes inside a transaction: answered, it has this effect; failed, it has changed
-- nothing or undone the transaction
pub record LeavesWritten {A E : Type 0} (Effect : State → State → Type 0) (old new : State)
    (result : Result A E) : Type 0 where
  pub ok : HasCleanDisk new → OnOk result (Effect old new)
  pub err : HasCleanDisk new → OnErr result (IsKeptOrUndone old new)
  pub follows : Follows old new

-- a call of several steps: answered, it has this effect; failed, what was done so far may stand
pub record LeavesChanged {A E : Type 0} (Effect : State → State → Type 0) (old new : State)
    (result : Result A E) : Type 0 where
  pub ok : HasCleanDisk new → OnOk result (Effect old new)
  pub follows : Follows old new

-- a call that ends the transaction with nothing of it kept
pub record LeavesOver (old new : State) : Type 0 where
  pub over : Live new → IsOver old new
  pub follows : Follows old new

-- this is so of the connection, where its disk was honest so far
abbrev pub IfClean : {S : Type 0} → (State → Type 0) → Ghosts S → Held S → Type 0
IfClean Is store held = HasCleanDisk (state store held) → Is (state store held)

abbrev pub Reads : {S A E : Type 0} → Ghosts S → Held S → Held S → Result A E → Type 0
Reads store old new result = LeavesRead (state store old) (state store new) result

-- where the disk was honest to the end, the answer is so of what was there before and after
abbrev pub AnswersWith : {S A E : Type 0} → (State → State → A → Type 0) → Ghosts S → Held S → Held S
    → Result A E → Type 0
AnswersWith Answer store old new result =
    HasCleanDisk (state store new) → IfOk result (Answer (state store old) (state store new))

abbrev pub Learns : {S A E : Type 0} → (State → Type 0) → (Trees → A → Type 0) → Ghosts S → Held S
    → Held S → Result A E → Type 0
Learns Over Answer store old new result =
    LeavesLearnt Over Answer (state store old) (state store new) result

-- the tables are a ledger's
abbrev pub OverLedger : State → Type 0
OverLedger s = IsLedger s.now.schema

abbrev pub Lists : {S A E : Type 0} → Schema → (Trees → A → Type 0) → Ghosts S → Held S → Held S
    → Result A E → Type 0
Lists ours Answer store old new result =
    LeavesListed ours Answer (state store old) (state store new) result

abbrev pub FindsRows : {S A E : Type 0} → (A → Type 0) → (Trees → A → Type 0) → Ghosts S → Held S
    → Held S → Result A E → Type 0
FindsRows Fits Answer store old new result =
    LeavesFound Fits Answer (state store old) (state store new) result

-- the answer is the one of these rows
abbrev pub FindsRow : {S A E : Type 0} → (A → Type 0) → (A → Row) → (Trees → List Row) → Ghosts S
    → Held S → Held S → Result (Option A) E → Type 0
FindsRow Fits values rows store old new result =
    FindsRows (λ found. IfSome found Fits)
    (λ trees found. Picks (rows trees) (option_map values found)) store old new result

-- before the call the tables were a ledger's, and the disk has been honest to its end
abbrev pub SawLedger : {S : Type 0} → Ghosts S → Held S → Held S → Type 0
SawLedger store old new = HasCleanDisk (state store new) × IsLedger (state store old).now.schema

abbrev pub Writes : {S A E : Type 0} → (State → State → Type 0) → Ghosts S → Held S → Held S
    → Result A E → Type 0
Writes Effect store old new result =
    LeavesWritten Effect (state store old) (state store new) result

abbrev pub Changes : {S A E : Type 0} → (State → State → Type 0) → Ghosts S → Held S → Held S
    → Result A E → Type 0
Changes Effect store old new result =
    LeavesChanged Effect (state store old) (state store new) result

abbrev pub GivesUp : {S : Type 0} → Ghosts S → Held S → Held S → Type 0
GivesUp store old new = LeavesOver (state store old) (state store new)
