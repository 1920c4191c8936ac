-- A ledger that is migrated.
use Rattle.std.proofs.Common.{◌≡◌, ◌≢◌, ◌<◌, ◌≤◌, ℕ, Bool, true, false, not, IsTrue, ◌↔◌, Result, Ok, Err, refl, sym, ap, subst, ◌∙◌, arith}
use Rattle.std.proofs.lemmas.Bool.{both_ways}
use Rattle.records.specs.declared.unavailable.Unavailable.TheVariants.{Disk as DiskFailed}
use Rattle.sqlite_disk.specs.declared.Disk as disk
use Rattle.sqlite_trees.specs.Tree.{Trees}
use Rattle.sqlite.specs.Effect.{Database}
use Rattle.sqlite.specs.State.{State, HasCleanDisk, Survives}
use Rattle.sqlite.proofs.StateLemmas.{survives_then, survives_weaker}
use Rattle.ledger_sql.specs.Frames.{Follows, Live}
use Rattle.stored_tables.specs.BatchLaws.{follows_itself}
use Rattle.stored_ledgers.specs.DueSets.{DueSets}
use Rattle.stored_ledgers.specs.Resting.{IsQuiet, IsSame}
use Rattle.openings.specs.declared.opening.OpenFault.{OpenFault}
use Rattle.openings.specs.declared.opening.OpenFault.TheVariants as opening
use Rattle.migrate.specs.Faults.{upgrade_fault}
use Rattle.migrate.specs.Ledgers.{IsMigratable, state_of}
use Rattle.migrate.specs.Migrating.{LeavesLedger}
use Rattle.migrate.specs.Raising.{RaisesOrTells}
use Rattle.migrate.specs.Upgrading.{IsOlder, IsRaised, Raised, older_schema}
use Rattle.migrate.specs.UpgradingLaws.{raised_older, raised_resting, still_older}
use Rattle.migrate.specs.declared.fault.MigrateFault.{MigrateFault}
use Rattle.migrate.specs.declared.fault.MigrateFault.TheVariants as fault
use Rattle.migrate.specs.declared.ledger.LedgerOfVersion.{LedgerOfVersion}

-- no call at all leaves what was there
pub survives_itself : (a : State) (X : Trees → Type 0) → Survives a a X
survives_itself a X = survives_weaker a a _ X (λ _ db none. absurd none) (follows_itself a).survives

-- nor does one that only reads leave anything else
pub survives_read : (a b : State) (X : Trees → Type 0) → Follows a b → Survives a b X
survives_read a b X follows = survives_weaker a b _ X (λ _ db none. absurd none) follows.survives

-- what may be found after a read and a change
pub survives_change : (from to : ℕ) (a b c : State) → from ≡ to → Follows a b
    → (HasCleanDisk b → b.now ≡ a.now) → Survives b c (Raised from b.now) → Survives a c (Raised to a.now)
survives_change from to a b c version read same change =
    survives_then a b c _ _ _ (λ _ db none. absurd none)
    (λ clean db raised.
    subst (λ (old : Database). Raised to old db) (same (omega (arith, change.clean, clean)))
    (subst (λ n. Raised n b.now db) version raised)) read.survives change

-- what changed nothing twice
pub then_same : (a b c : State) → IsSame a b → IsSame b c → IsSame a c
then_same a b c first second = record {
  now = second.now ∙ first.now;
  committed = second.committed ∙ first.committed;
  mode = second.mode;
  unmarked = second.unmarked;
}

-- an answer is no fault
pub no_fault : {A E : Type 0} {x : A} {e : E} → ◌≡◌ {A = Result A E} (Ok x) (Err e) → ⊥
no_fault is = cc

-- no fault of the disk was told where calls are still answered
pub unless_fault : (Failed : Type 0) (ready fault : Bool) → ready ≡ not fault → (IsTrue fault ↔ Failed) → ready ≡ true → Failed → ⊥
unless_fault Failed ready fault now told answers failed =
    let yes : fault ≡ true = told.1 failed in
    both_ways ready (now ∙ ap not yes) answers

-- what answers without a fault of the disk answers as before
pub still_ready : (Failed : Type 0) (fault ready : Bool) → (IsTrue fault ↔ Failed) → ready ≡ true → (Failed → ⊥) → not fault ≡ ready
still_ready Failed true ready told answers none = absurd (none (told.0 refl))
still_ready Failed false ready told answers none = sym answers

-- a fault is the same in another answer
pub other_answer : {T U : Type 0} (a b : MigrateFault) → ◌≡◌ {A = Result T MigrateFault} (Err a) (Err b)
    → ◌≡◌ {A = Result U MigrateFault} (Err a) (Err b)
other_answer a b is = let same : a ≡ b = cc in ap Err same

upgrade_disk : (cause : OpenFault) → cause ≡ opening.Unavailable DiskFailed → upgrade_fault cause ≡ fault.Unavailable DiskFailed
upgrade_disk cause is = ap upgrade_fault is

-- a fault of the disk is told as it is
pub told_disk : {T U : Type 0} (r : Result T OpenFault) (q : Result U MigrateFault) (cause : OpenFault) → r ≡ Err cause
    → q ≡ Err (upgrade_fault cause) → r ≡ Err (opening.Unavailable DiskFailed) → q ≡ Err (fault.Unavailable DiskFailed)
told_disk r q cause is told failed =
    let same : cause ≡ opening.Unavailable DiskFailed = let e = sym is ∙ failed in cc in
    told ∙ ap Err (upgrade_disk cause same)

module _ {D : Type 0} (g : disk.Ghosts D) where
  -- a ledger that answers is an older one
  pub older_open : (ledger : LedgerOfVersion D g) → IsMigratable ledger → IsTrue ledger.ready → ledger.version < 3
      → HasCleanDisk (state_of ledger) → IsOlder (older_schema ledger.version) (state_of ledger)
  older_open ledger is ready less clean = is.older less (clean, is.is_open ready clean)

  -- a ledger that answers is live where its disk was honest
  pub answers_live : (ledger : LedgerOfVersion D g) → IsMigratable ledger → IsTrue ledger.ready → HasCleanDisk (state_of ledger)
      → Live (state_of ledger)
  answers_live ledger is ready clean = (clean, is.is_open ready clean)

  -- after a call that changed nothing it is still migratable
  pub still_migratable : (old new : LedgerOfVersion D g) → new.version ≡ old.version → old.version < 3
      → IsMigratable old → IsTrue old.ready → (HasCleanDisk (state_of new) → HasCleanDisk (state_of old))
      → (Live (state_of new) → IsSame (state_of old) (state_of new))
      → (IsTrue new.ready → HasCleanDisk (state_of new) → IsTrue (state_of new).is_open) → IsMigratable new
  still_migratable old new same_version less was ready before same is_open = record {
    known = let known = was.known in (
      subst (λ n. 1 ≤ n) (sym same_version) known.0,
      subst (λ n. n ≤ 3) (sym same_version) known.1,
    );
    older = λ _ live. subst (λ n. IsOlder (older_schema n) (state_of new)) (sym same_version)
        (still_older (older_schema old.version) (state_of old) (state_of new)
        (older_open old was ready less (before live.0)) (same live) live.1);
    current = λ three. absurd (let now = subst (λ n. 3 ≤ n) same_version three in omega (arith, now, less));
    is_open = is_open;
  }

  -- and after one that brought it to a newer version
  pub raised_migratable : (new : LedgerOfVersion D g) (v : ℕ) (old : Database) → 1 ≤ v → v < new.version → new.version ≤ 3
      → (HasCleanDisk (state_of new) → IsRaised new.version new.due old (state_of new).now)
      → (HasCleanDisk (state_of new) → IsQuiet (state_of new))
      → (HasCleanDisk (state_of new) → IsTrue (state_of new).is_open) → IsMigratable new
  raised_migratable new v old known less most raised quiet is_open = record {
    known = (omega (arith, known, less), most);
    older = λ two live. raised_older v new.version new.due old (state_of new) known less two (raised live.0) (quiet live.0) live.1;
    current = λ three live. raised_resting new.version new.due old (state_of new) three (raised live.0) (quiet live.0);
    is_open = λ _ clean. is_open clean;
  }

  -- a migration that changes nothing leaves it so
  pub leaves_unmoved : {A : Type 0} (to : ℕ) (ledger : LedgerOfVersion D g) (answer : Result A MigrateFault)
      → IsMigratable ledger → answer ≢ Err (fault.Unavailable DiskFailed) → LeavesLedger to ledger ledger answer
  leaves_unmoved to ledger answer is no_disk = record {
    honest = λ clean. clean;
    lived = λ live. live;
    is_open = λ clean ready _. is.is_open ready clean;
    ready = λ _. refl;
    disk = λ told. absurd (no_disk told);
    finds = survives_itself (state_of ledger) _;
  }

  -- and so does one that raised it, or tried to, and tells a fault of the disk just where that did
  pub leaves_raised : {A : Type 0} {to : ℕ} {raised : Result DueSets MigrateFault} {answer : Result A MigrateFault}
      (old new : LedgerOfVersion D g) (failed : Bool) → IsMigratable old → IsTrue old.ready
      → RaisesOrTells (fault.Unavailable DiskFailed) to (state_of old) (state_of new) raised
      → (IsTrue failed ↔ (raised ≡ Err (fault.Unavailable DiskFailed))) → new.ready ≡ not failed
      → ((raised ≡ Err (fault.Unavailable DiskFailed)) ↔ (answer ≡ Err (fault.Unavailable DiskFailed)))
      → LeavesLedger to old new answer
  leaves_raised old new failed is answers raises tells now alike = record {
    honest = λ clean. omega (arith, raises.raises.survives.clean, clean);
    lived = λ live.
        let clean = live.0 in answers_live old is answers (omega (arith, raises.raises.survives.clean, clean));
    is_open = λ clean ready told. raises.is_open clean (λ is_disk. told (alike.0 is_disk));
    ready = λ told. now ∙ still_ready _ failed old.ready tells answers (λ is_disk. told (alike.0 is_disk));
    disk = λ told. now ∙ ap not (tells.1 (alike.1 told));
    finds = raises.raises.survives;
  }
