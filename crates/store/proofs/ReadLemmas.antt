-- What a call on a store leaves where it answers.
use Rattle.std.proofs.Common.{◌≡◌, ◌≢◌, ◌⊎◌, Bool, true, not, Result, Err, IsTrue, ◌↔◌, sym, ap, subst, ◌∙◌, arith}
use Rattle.std.proofs.lemmas.Bool.{both_ways}
use Rattle.records.specs.declared.unavailable.Unavailable.{Unavailable}
use Rattle.records.specs.declared.unavailable.Unavailable.TheVariants.{Disk as DiskFailed}
use Rattle.sqlite_disk.specs.declared.Disk as disk
use Rattle.sqlite.specs.Effect.{Database}
use Rattle.sqlite.specs.State.{State, HasCleanDisk, Survives}
use Rattle.sqlite_trees.specs.Tree.{Trees}
use Rattle.ledger_sql.specs.Frames.{Live, Follows}
use Rattle.stored_ledgers.specs.Calls.{ServesOn}
use Rattle.stored_ledgers.specs.Directory.{tenants_in}
use Rattle.stored_ledgers.specs.DueSets.{DueSets}
use Rattle.stored_ledgers.specs.Looks.{ReadsAtRest}
use Rattle.stored_ledgers.specs.Resting.{IsResting, IsServing, HoldsHere}
use Rattle.openings.specs.OpenTables.{OpenTables, open_state}
use Rattle.store.specs.Stores.{IsUsable, IsUsableAt, IsLiveAt, IsHonestAt, OfDatabaseAt, tenants_at, may_find_at, AnswersUnless, ReadsStore}
use Rattle.store.specs.declared.place.Place.{Place}
use Rattle.store.specs.declared.place.Place.TheVariants as at
use Rattle.store.specs.declared.store.Store.{Store}
use Rattle.stored_ledgers.specs.RestingLaws.{still_rests}

live_before : (a b : State) → Follows a b → Live b → Live a
live_before a b f live = (omega (arith, f.survives.clean, live.0), f.live live)

clean_before : (a b : State) → Follows a b → HasCleanDisk b → HasCleanDisk a
clean_before a b f clean = omega (arith, f.survives.clean, clean)

-- a connection that serves holds ledgers
pub holds_here : (sets : DueSets) (s : State) → IsServing sets s → HoldsHere s
holds_here sets s serves clean =
    let now = serves clean in (now.0, now.1.quiet, now.1.ledgers)

module _ {D : Type 0} (g : disk.Ghosts D) where
  -- a store that answers serves
  pub is_serving : (ready : Bool) (sets : DueSets) (place : Place D g) (tables : OpenTables D g)
      → place ≡ at.Open tables → ready ≡ true → IsUsableAt ready sets place → IsServing sets (open_state tables)
  is_serving ready sets place tables is answers usable clean =
      let here : IsUsableAt ready sets (at.Open tables) = subst (IsUsableAt ready sets) is usable in
      let is_open = here.1 answers clean in
      (is_open, here.0 (clean, is_open))

  -- so it holds ledgers, which may be read
  pub reads_here : (self : Store D g) (tables : OpenTables D g) → self.place ≡ at.Open tables
      → self.ready ≡ true → IsUsable self → HoldsHere (open_state tables)
  reads_here self tables is answers usable =
      holds_here self.due (open_state tables) (is_serving self.ready self.due self.place tables is answers usable)

  module _ {T : Type 0} (result : Result T Unavailable) (fault : Bool) (old new : Store D g)
      (tables tables' : OpenTables D g) (old_is : old.place ≡ at.Open tables)
      (new_is : new.place ≡ at.Open tables') (was_ready : old.ready ≡ true)
      (now_ready : new.ready ≡ not fault) (told : IsTrue fault ↔ (result ≡ Err DiskFailed))
      (usable : IsUsable old) where
    was_usable : IsUsableAt old.ready old.due (at.Open tables)
    was_usable = subst (IsUsableAt old.ready old.due) old_is usable

    unless_fault : new.ready ≡ true → result ≢ Err DiskFailed
    unless_fault ready failed =
        let yes_fault : fault ≡ true = told.1 failed in
        absurd (both_ways _ (now_ready ∙ ap not yes_fault) ready)

    -- a call on the open database, which then rests
    answers_open : (HasCleanDisk (open_state tables') → HasCleanDisk (open_state tables))
        → (HasCleanDisk (open_state tables') → result ≢ Err DiskFailed → IsTrue (open_state tables').is_open)
        → (Live (open_state tables') → IsResting new.due (open_state tables')) → AnswersUnless DiskFailed old new result
    answers_open before is_open rests = record {
      usable = subst (IsUsableAt new.ready new.due) (sym new_is)
          (rests, λ ready clean. is_open clean (unless_fault ready));
      follows = record {
        lived = λ live. subst IsLiveAt (sym old_is)
            (let clean = before (subst IsLiveAt new_is live).0 in (clean, was_usable.1 was_ready clean));
        honest = λ honest. subst IsHonestAt (sym old_is) (before (subst IsHonestAt new_is honest));
        unready = λ ready. was_ready;
      };
      open_yet = λ honest no_fault. subst IsLiveAt (sym new_is)
          (let clean = subst IsHonestAt new_is honest in (clean, is_open clean no_fault));
      unready = λ failed. now_ready ∙ ap not (told.1 failed);
      refuses = λ shut. absurd (both_ways _ shut was_ready);
    }

    -- so it is of one that changes the database and serves on
    pub serves_open : {X : Trees → Type 0} → ServesOn DiskFailed new.due (open_state tables') result
        → Survives (open_state tables) (open_state tables') X → AnswersUnless DiskFailed old new result
    serves_open serves survives =
        answers_open (λ clean. omega (arith, survives.clean, clean)) serves.is_open serves.resting

    -- and of one that reads it
    module _ (same_due : new.due ≡ old.due) (reads : ReadsAtRest DiskFailed (open_state tables) (open_state tables') result) where
      still_resting : Live (open_state tables') → IsResting new.due (open_state tables')
      still_resting live =
          subst (λ sets. IsResting sets (open_state tables')) (sym same_due)
          (still_rests old.due (open_state tables) (open_state tables')
          (was_usable.0 (live_before (open_state tables) (open_state tables') reads.follows live)) (reads.same live))

      pub reads_open : ReadsStore old new result
      reads_open = record {
        answers = answers_open (clean_before (open_state tables) (open_state tables') reads.follows) reads.is_open still_resting;
        unchanged = λ live.
            subst (λ place. OfDatabaseAt (λ before. OfDatabaseAt (λ after. after ≡ before) new.place) place)
            (sym old_is) (subst (OfDatabaseAt (λ after. after ≡ (open_state tables).now)) (sym new_is)
            (reads.same (subst IsLiveAt new_is live)).now);
        same = λ live digest.
            ap (λ place. tenants_at place digest) new_is
            ∙ ap (λ (db : Database). tenants_in db.trees digest) (reads.same (subst IsLiveAt new_is live)).now
            ∙ sym (ap (λ place. tenants_at place digest) old_is);
        finds = λ honest db may. subst (λ place. may_find_at place db ⊎ ⊥) (sym old_is)
            (reads.follows.survives.crash (subst IsHonestAt new_is honest) db
            (subst (λ place. may_find_at place db) new_is may));
      }

  -- what may be found behind a change of the open database
  pub finds_open : (After : Database → Trees → Type 0) (place : Place D g) (tables tables' : OpenTables D g)
      → place ≡ at.Open tables → Survives (open_state tables) (open_state tables') (After (open_state tables).now)
      → HasCleanDisk (open_state tables') → (db : Trees) → (open_state tables').may_leave db
      → may_find_at place db ⊎ OfDatabaseAt (λ was. After was db) place
  finds_open After place tables tables' is survives clean db may =
      subst (λ place. may_find_at place db ⊎ OfDatabaseAt (λ was. After was db) place) (sym is)
      (survives.crash clean db may)

  -- the same of a call that tells the fault in words of its own
  pub answers_as : {T U E : Type 0} (fault : E) (old new : Store D g) (done : Result T Unavailable)
      (result : Result U E) → (result ≡ Err fault ↔ done ≡ Err DiskFailed) → old.ready ≡ true
      → AnswersUnless DiskFailed old new done → AnswersUnless fault old new result
  answers_as fault old new done result told was_ready answers = record {
    usable = answers.usable;
    follows = answers.follows;
    open_yet = λ honest no_fault. answers.open_yet honest (λ failed. no_fault (told.1 failed));
    unready = λ failed. answers.unready (told.0 failed);
    refuses = λ shut. absurd (both_ways _ shut was_ready);
  }
