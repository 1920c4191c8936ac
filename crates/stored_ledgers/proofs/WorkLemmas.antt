-- What calls in a round leave of its transaction.
use Rattle.std.proofs.Common.{◌≡◌, ◌≤◌, ℕ, ℤ, List, Some, false, Result, Ok, Err, OnOk, IsTrue, sym, subst, ◌∙◌}
use Rattle.std.specs.BTreeMap.{get}
use Rattle.std.specs.Ordering.{int_cmp, is_eq}
use Rattle.records.specs.Machine.{Machine}
use Rattle.sqlite.specs.Effect.{Database}
use Rattle.sqlite.specs.State.{State, IsUnchanged}
use Rattle.stored_tables.specs.MachineOf.{machine_of}
use Rattle.stored_ledgers.specs.Directory.{number_of}
use Rattle.stored_ledgers.specs.DueSets.{DueSet, DueSets}
use Rattle.stored_ledgers.specs.Outcomes.{HasWorked, HasWorkedHere, IsBatchTimed}
use Rattle.stored_ledgers.specs.Resting.{CanServe}
use Rattle.stored_ledgers.specs.Rounds.{IsInRound}
use Rattle.stored_ledgers.specs.Transactions.{Answer, IfAnswered}
use Rattle.stored_ledgers.specs.declared.working.Past.{Past}
use Rattle.stored_ledgers.proofs.OutcomeLemmas.{serves_after, batch_done, time_kept}

-- where nothing changed, the round goes on
pub still_in_round : (sets : DueSets) (old new : State) → IsUnchanged old new → IsInRound sets old
    → IsInRound sets new
still_in_round sets old new same was = record {
  is_open = same.0.is_open;
  mode = same.0.mode ∙ was.mode;
  unmarked = same.2 ∙ was.unmarked;
  serves = subst (CanServe sets) (sym same.0.now_is) was.serves;
}

-- work that was done with a set that was lent, behind a look-up that left the database as it was
module _ {O : Type 0} (sets sets' : DueSets) (number : ℤ) (set : DueSet)
    (found : get int_cmp sets' number ≡ Some set)
    (others : (other : ℤ) → is_eq (int_cmp number other) ≡ false
    → get int_cmp sets' other ≡ get int_cmp sets other)
    (gives : Machine → O → Machine → Type 0) (digest : List ℕ) (old mid new : State)
    (same : mid.now ≡ old.now) (serves : CanServe sets old.now)
    (tenant : number_of digest old.now.trees ≡ Some number) (output : O) (past : Past)
    (here : HasWorkedHere gives number set mid new output past) where
  worked : HasWorked gives number set old.now new.now output
  worked = subst (λ (db : Database). HasWorked gives number set db new.now output) same here.worked

  -- was done for the tenant's digest
  work_timed : IsBatchTimed gives digest old.now new.now output past
  work_timed = record {
    batch = batch_done sets sets' number set found others gives digest old.now new.now serves output tenant worked;
    time = time_kept sets sets' number set found others gives digest old.now new.now serves output tenant worked
        past.clock (subst (λ (db : Database). past.clock ≡ (machine_of number db.trees).clock) same here.was)
        here.later;
    behind = subst (λ t. past.clock ≤ (machine_of t new.now.trees).clock) (sym here.whose) here.later;
  }

  -- and the round goes on
  pub work_done : IsBatchTimed gives digest old.now new.now output past × IsInRound sets' new
  work_done = (
    work_timed,
    record {
      is_open = here.is_open;
      mode = here.mode;
      unmarked = here.unmarked;
      serves = serves_after sets sets' number set found others gives digest old.now new.now serves output tenant
          worked;
    },
  )

-- what a round was told, with what it serves
pub told_serving : {O R : Type 0} (answer : Answer O R) (does : O → Type 0) (refuses refused : R → Type 0)
    (sets : DueSets) (s : State) → ((r : R) → refuses r → refused r) → IfAnswered answer does refuses
    → OnOk answer (IsInRound sets s) → IfAnswered answer (λ output. does output × CanServe sets s.now) refused
told_serving (Ok (Ok output)) does refuses refused sets s weaker told here = (told, here.serves)
told_serving (Ok (Err refusal)) does refuses refused sets s weaker told here = weaker refusal told
told_serving (Err why) does refuses refused sets s weaker told here = tt

-- where a round goes on the database is open
pub open_here : {X E : Type 0} (answer : Result X E) (sets : DueSets) (s : State)
    → OnOk answer (IsInRound sets s) → OnOk answer (IsTrue s.is_open)
open_here (Ok x) sets s here = here.is_open
open_here (Err e) sets s here = tt
