-- What the calls of an opening answer and leave: one word for each kind of call.
use Rattle.std.specs.Prelude.{◌≡◌, ◌≢◌, ◌≤◌, ℕ, ℤ, pos, [], ◌∷◌, List, Result, IfOk, IfErr, OnOk, IsTrue}
use Rattle.sqlite_disk.specs.declared.Disk as disk
use Rattle.sqlite_disk.specs.declared.Files.{Files}
use Rattle.sqlite_schema.specs.declared.schema.Schema.{Schema}
use Rattle.sqlite_trees.specs.Tree.{Trees}
use Rattle.sqlite_trees.specs.declared.store.Store.{Ghosts}
use Rattle.sqlite_wal.specs.Reads.{AreClean}
use Rattle.sqlite_wal.specs.Recovery.{Image}
use Rattle.sqlite.specs.Effect.{Database}
use Rattle.sqlite.specs.Files.{image_of}
use Rattle.sqlite.specs.Held.{Held, state}
use Rattle.sqlite.specs.State.{State, HasCleanDisk, Survives}
use Rattle.ledger_sql.specs.Creating.{IsEmptyLedger}
use Rattle.stored_ledgers.specs.DueSets.{DueSets}
use Rattle.stored_ledgers.specs.Looks.{Looks}
use Rattle.stored_ledgers.specs.Resting.{IsNewLedger, IsServing}
use Rattle.openings.specs.Damage.{IsNoDamage}
use Rattle.openings.specs.Found.{FindsNoSchema, IsOfLedger, LeavesFilled, LeavesUnopened}
use Rattle.openings.specs.Refused.{LeavesAsTold}
use Rattle.openings.specs.Told.{HindersMaking, IsToldBy, IsUnopenedFor}
use Rattle.openings.specs.declared.opening.OpenFault.{OpenFault}
use Rattle.openings.specs.declared.opening.OpenFault.TheVariants.{OldSchema}
use Rattle.openings.specs.declared.refused.Refused.{Refused}

-- a call that reads tables: where such are there the answer is so of them, and it only looks
pub record LeavesTablesRead {A E : Type 0} (Has : Schema → Type 0) (Answer : Trees → A → Type 0)
    (old new : State) (result : Result A E) : Type 0 where
  pub whole : HasCleanDisk new → Has old.now.schema → IfOk result (Answer old.now.trees)
  pub looks : Looks old new result

-- a call that examines a database: answered, this was found in it; a fault is told in its case; and
-- it only looks
pub record LeavesExamined {A E : Type 0} (Finds : A → Database → Type 0)
    (Tells : E → Database → Type 0) (old new : State) (result : Result A E) : Type 0 where
  pub finds : HasCleanDisk new → IfOk result (λ found. Finds found old.now)
  pub told : HasCleanDisk new → IfErr result (λ fault. Tells fault old.now)
  pub looks : Looks old new result

abbrev pub Examines : {S A E : Type 0} → (A → Database → Type 0) → (E → Database → Type 0)
    → Ghosts S → Held S → Held S → Result A E → Type 0
Examines Finds Tells store old new result =
    LeavesExamined Finds Tells (state store old) (state store new) result

-- these numbers are one version, which a ledger may have
pub record IsNamedBy (numbers : List ℤ) (version : ℕ) : Type 0 where
  pub named : numbers ≡ pos version ∷ []
  pub known : (1 ≤ version) × (version ≤ 3)

-- a fault that a look at the version alone may tell
pub record IsOfVersion (fault : OpenFault) : Type 0 where
  pub not_old : fault ≢ OldSchema
  pub undamaged : IsNoDamage fault

-- the making of a ledger: answered, a new one is there; a crash leaves what was there, or that
pub record MakesNew {A E : Type 0} (old new : State) (result : Result A E) : Type 0 where
  pub made : HasCleanDisk new → OnOk result (IsNewLedger new)
  pub survives : Survives old new IsEmptyLedger

module _ {D : Type 0} (g : disk.Ghosts D) where
  -- calls of both files are answered
  pub record AreUsable (files : Files D) : Type 0 where
    pub log : IsTrue (g.is_usable files.log)
    pub db : IsTrue (g.is_usable files.db)

  -- a database was opened on files: it is so of what they held, and they were honest, where its
  -- disk was
  pub record StandsOn (files : Files D) (Is : Image → State → Type 0) (s : State) : Type 0 where
    pub opened : HasCleanDisk s → Is (image_of g files) s
    pub honest : HasCleanDisk s → AreClean g files.log files.db

  -- a new ledger was made in files that held no table, and can be served with any sets
  pub record IsMadeIn (files : Files D) (s : State) : Type 0 where
    pub made : HasCleanDisk s → IsNewLedger s
    pub serves : (sets : DueSets) → IsServing sets s
    pub blank : HasCleanDisk s → FindsNoSchema (image_of g files)
    pub honest : HasCleanDisk s → AreClean g files.log files.db

  -- the database's own opening refuses the files, and tells no fault of a ledger
  pub record RefusesUnopened (files : Files D) (refused : OpenFault × Files D) : Type 0 where
    pub fault : ¬ IsOfLedger refused.0
    pub told : AreClean g refused.1.log refused.1.db → IsUnopenedFor g files refused.0 refused.1
    pub left : LeavesUnopened g files refused.1

  -- an opening refuses the files, in such a case of the database that is there or as its own does
  pub record RefusesBy (Refuses : OpenFault → Database → Type 0) (files : Files D)
      (refused : Refused × Files D) : Type 0 where
    pub told :
        AreClean g refused.1.log refused.1.db
        → IsToldBy Refuses g files refused.0.fault refused.1
    pub left : LeavesAsTold g files refused.0 refused.1

  -- a making refuses an open database: its tables hinder it, or something was unavailable
  pub record RefusesToFill (s : State) (refused : OpenFault × Files D) : Type 0 where
    pub told : HindersMaking refused.0 s.now.schema
    pub honest : AreClean g refused.1.log refused.1.db → HasCleanDisk s
    pub left : LeavesFilled g s refused.0 refused.1
