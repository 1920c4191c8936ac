-- What a call leaves of tables: one word for each kind of call.
use Rattle.std.specs.Prelude.{Result, IfOk, OnOk, OnErr}
use Rattle.sqlite_trees.specs.Tree.{Trees}
use Rattle.sqlite_trees.specs.View.{IsClean}
use Rattle.sqlite_trees.specs.declared.store.Store.{Ghosts}
use Rattle.sqlite_schema.specs.declared.schema.Schema.{Schema}
use Rattle.sqlite.specs.State.{State, HasCleanDisk, IsUnchanged, IsRolledBack}
use Rattle.keyed_trees.specs.Frames.{IsKeptOrUndone, Follows}
use Rattle.keyed_trees.specs.Kept.{Kept, state}

-- a call that reads: answered, it has changed nothing; failed, it may have undone the transaction
pub record LeavesRead {A E : Type 0} (old new : State) (result : Result A E) : Type 0 where
  pub same : HasCleanDisk new → OnOk result (IsUnchanged old new)
  pub kept : HasCleanDisk new → IsKeptOrUndone old new
  pub follows : Follows old new

-- a call that writes inside a transaction: answered, it has this effect; failed, it has changed
-- nothing or undone the transaction
pub record LeavesWritten {A E : Type 0} (Effect : State → State → Type 0) (old new : State)
    (result : Result A E) : Type 0 where
  pub ok : HasCleanDisk new → OnOk result (Effect old new)
  pub err : HasCleanDisk new → OnErr result (IsKeptOrUndone old new)
  pub follows : Follows old new

-- a call that undoes the transaction
pub record LeavesUndone (old new : State) : Type 0 where
  pub undone : HasCleanDisk new → IsRolledBack old new
  pub follows : Follows old new

abbrev pub Reads : {S A E : Type 0} → Schema → Ghosts S → Kept S → Kept S → Result A E → Type 0
Reads schema store old new result =
    LeavesRead (state schema store old) (state schema store new) result

-- where the disk was honest to the end, the answer is so of the trees
abbrev pub Answers : {S A E : Type 0} → (Trees → A → Type 0) → Ghosts S → Kept S → Kept S
    → Result A E → Type 0
Answers Answer store old new result =
    IsClean (store.view new.store) → IfOk result (Answer (store.view old.store).trees)

abbrev pub Writes : {S A E : Type 0} → (State → State → Type 0) → Schema → Ghosts S → Kept S
    → Kept S → Result A E → Type 0
Writes Effect schema store old new result =
    LeavesWritten Effect (state schema store old) (state schema store new) result

abbrev pub Undoes : {S : Type 0} → Schema → Ghosts S → Kept S → Kept S → Type 0
Undoes schema store old new = LeavesUndone (state schema store old) (state schema store new)
