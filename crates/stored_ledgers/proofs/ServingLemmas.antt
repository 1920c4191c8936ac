-- A ledger's tables after a change to what it serves.
use Rattle.std.specs.Prelude.{IsTrue}
use Rattle.std.proofs.Common.{◌≡◌, ◌≢◌, Result, Ok, Err, sym, subst, ◌∙◌}
use Rattle.records.specs.declared.unavailable.Unavailable.{Unavailable}
use Rattle.records.specs.declared.unavailable.Unavailable.TheVariants.{Disk}
use Rattle.sqlite.specs.Effect.{Database}
use Rattle.sqlite.specs.State.{State, HasCleanDisk, Survives}
use Rattle.sqlite.proofs.StateLemmas.{survives_weaker}
use Rattle.sqlite_trees.specs.Tree.{Trees}
use Rattle.ledger_sql.specs.Frames.{Live}
use Rattle.stored_ledgers.specs.Calls.{ChangesTenants, ServesOn}
use Rattle.stored_ledgers.specs.DueSets.{DueSets}
use Rattle.stored_ledgers.specs.Resting.{CanServe, IsResting, IsQuiet, IsSame}
use Rattle.stored_ledgers.specs.Transactions.{Answer, IfAnswered, UnlessMade, MayLeave}

-- after one that was not made it still rests
rests_still : (sets : DueSets) (old new : State) → CanServe sets old.now → IsSame old new
    → IsQuiet new → IsResting sets new
rests_still sets old new serves same quiet =
    let there = subst (CanServe sets) (sym same.now) serves in
    record { quiet = quiet; ledgers = there.ledgers; covered = there.covered }

-- after a change that keeps what is served the tables serve on, whatever the answer is and in
-- whatever words it stands
pub serves_after : {O R A : Type 0} (answer : Answer O R) (result : Result A Unavailable)
    (does : O → Type 0) (refuses : R → Type 0) (sets : DueSets) (old new : State)
    → (answer ≡ Err Disk → result ≡ Err Disk)
    → (Live new → IfAnswered answer (λ output. does output × CanServe sets new.now) refuses)
    → (Live new → UnlessMade answer (CanServe sets old.now))
    → (Live new → UnlessMade answer (IsSame old new)) → (Live new → IsQuiet new)
    → (HasCleanDisk new → answer ≢ Err Disk → IsTrue new.is_open) → ServesOn Disk sets new result
serves_after answer result does refuses sets old new words told again same quiet opens = record {
  resting = λ live. of (quiet live) answer (told live) (again live) (same live);
  is_open = λ clean differs. opens clean (λ failed. differs (words failed));
}
  where
    of : IsQuiet new → (answer : _)
        → IfAnswered answer (λ output. does output × CanServe sets new.now) refuses
        → UnlessMade answer (CanServe sets old.now) → UnlessMade answer (IsSame old new)
        → IsResting sets new
    of quiet (Ok (Ok output)) told again same =
        record { quiet = quiet; ledgers = told.1.ledgers; covered = told.1.covered }
    of quiet (Ok (Err refusal)) told again same = rests_still sets old new again same quiet
    of quiet (Err why) told again same = rests_still sets old new again same quiet

-- what a change of which tenants there are is told, and what it may leave in the files
pub record IsTenantChange {R F : Type 0} (answers : Answer (Unit {0}) R → Result (Unit {0}) F)
    (Told : Database → Database → Result (Unit {0}) F → Type 0) (Left : Database → Trees → Type 0)
    (does : Database → Database → Type 0) (refuses : Database → R → Type 0) : Type 0 where
  pub made : (old new : Database) → does old new → Told old new (answers (Ok (Ok tt)))
  pub refused : (old : Database) (refusal : R) → refuses old refusal
      → Told old old (answers (Ok (Err refusal)))
  pub failed : (old : Database) (why : Unavailable) → Told old old (answers (Err why))
  pub left : (old new : Database) (trees : Trees) → does old new → trees ≡ new.trees → Left old trees

-- so it is of one that was made in a transaction, or was not
pub changes_tenants : {R F : Type 0} {answers : Answer (Unit {0}) R → Result (Unit {0}) F}
    {Told : Database → Database → Result (Unit {0}) F → Type 0} {Left : Database → Trees → Type 0}
    {does : Database → Database → Type 0} {refuses : Database → R → Type 0}
    → IsTenantChange answers Told Left does refuses
    → (sets : DueSets) (old new : State) (answer : Answer (Unit {0}) R)
    → (Live new → IfAnswered answer (λ done. does old.now new.now × CanServe sets new.now) (refuses old.now))
    → (Live new → UnlessMade answer (CanServe sets old.now))
    → (Live new → IsQuiet new) → (Live new → UnlessMade answer (IsSame old new))
    → (HasCleanDisk new → answer ≢ Err Disk → IsTrue new.is_open)
    → Survives old new (MayLeave (λ (done : Unit {0}) (sets : DueSets) now. does old.now now × CanServe sets now))
    → ChangesTenants Disk (λ before after. Told before after (answers answer)) Left sets old new answer
changes_tenants {R} {F} {answers} {Told} {Left} {does} {refuses} change sets old new answer told again quiet same opens survives = record {
  told = λ live. of answer (told live) (same live);
  serves = serves_after answer answer _ _ sets old new (λ failed. failed) told again same quiet opens;
  survives = survives_weaker _ _ _ _
      (λ clean trees left. change.left old.now left.after trees left.done.0 left.is) survives;
}
  where
    of : (answer : _)
        → IfAnswered answer (λ done. does old.now new.now × CanServe sets new.now) (refuses old.now)
        → UnlessMade answer (IsSame old new) → Told old.now new.now (answers answer)
    of (Ok (Ok done)) told same = change.made old.now new.now told.0
    of (Ok (Err refusal)) told same =
        subst (λ db. Told old.now db (answers (Ok (Err refusal)))) (sym same.now)
        (change.refused old.now refusal told)
    of (Err why) told same =
        subst (λ db. Told old.now db (answers (Err why))) (sym same.now) (change.failed old.now why)

-- what is known of a change by what was answered
module _ {O R : Type 0} (answer : Answer O R) where
  pub told_made : (does : O → Type 0) (refuses : R → Type 0) (output : O) → answer ≡ Ok (Ok output)
      → IfAnswered answer does refuses → does output
  told_made does refuses output is told = subst (λ a. IfAnswered a does refuses) is told

  pub told_refused : (does : O → Type 0) (refuses : R → Type 0) (refusal : R)
      → answer ≡ Ok (Err refusal) → IfAnswered answer does refuses → refuses refusal
  told_refused does refuses refusal is told = subst (λ a. IfAnswered a does refuses) is told

  pub unless_refused : (P : Type 0) (refusal : R) → answer ≡ Ok (Err refusal) → UnlessMade answer P
      → P
  unless_refused P refusal is unless = subst (λ a. UnlessMade a P) is unless

  pub no_fault : (told : _) → answer ≡ Ok told → answer ≢ Err Disk
  no_fault told is fault = let both = sym is ∙ fault in cc
