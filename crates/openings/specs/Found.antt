-- What an opening finds in two files, and what a crash leaves in them.
use Rattle.std.specs.Prelude.{◌≡◌, ◌⊎◌, None, IsTrue}
use Rattle.std.specs.List.{AllByRecursion}
use Rattle.sqlite_disk.specs.declared.Disk as disk
use Rattle.sqlite_disk.specs.declared.Files.{Files}
use Rattle.sqlite_trees.specs.Tree.{Trees}
use Rattle.sqlite_wal.specs.Files.{outcomes}
use Rattle.sqlite_wal.specs.Reads.{AreClean}
use Rattle.sqlite_wal.specs.Recovery.{Image}
use Rattle.sqlite.specs.Closing.{files_left}
use Rattle.sqlite.specs.Effect.{Database, IsDatabase}
use Rattle.sqlite.specs.Files.{HoldsDatabase, AreFoundIn, IsCleanLeft, LeavesFiles, image_of}
use Rattle.sqlite.specs.declared.file.Leftover.{Leftover}
use Rattle.sqlite.specs.Start.{FindsIn}
use Rattle.sqlite.specs.State.{State, HasCleanDisk, Opens, IsLive}
use Rattle.ledger_sql.specs.Creating.{IsEmptyLedger}
use Rattle.ledger_sql.specs.Rowids.{IsNumbered}
use Rattle.ledger_sql.specs.Schema.{no_schema}
use Rattle.records.specs.declared.unavailable.Unavailable.{Unavailable}
use Rattle.openings.specs.declared.opening.OpenFault.{OpenFault}
use Rattle.openings.specs.declared.opening.OpenFault.TheVariants as fault

-- while the database is open, a crash leaves what was committed last, and nothing else
pub record LeavesCommitted (s : State) : Type 0 where
  pub only : IsTrue s.is_open → (db : Trees) → s.may_leave db → db ≡ s.committed.trees
  pub stays : IsTrue s.is_open → s.may_leave s.committed.trees

-- in each table the rowids are whole numbers, and they rise
abbrev pub HasOrderedTables : Database → Type 0
HasOrderedTables db = AllByRecursion (λ t. IsNumbered (db.trees t.tree)) db.schema.tables

-- a database was opened on what the files held
pub record IsOpenAt (image : Image) (s : State) : Type 0 where
  pub opens : Opens s
  pub live : IsLive s
  pub ordered : HasOrderedTables s.now
  pub found : FindsIn image s
  pub unlimited : s.step_limit ≡ None
  pub settled : LeavesCommitted s

-- whatever a crash leaves of the files holds one of these databases, unless the disk has lied
abbrev pub Yields : {D : Type 0} → disk.Ghosts D → Files D → (Trees → Type 0) → Type 0
Yields g files X =
    AreClean g files.log files.db → (image : Image) → outcomes g files.log files.db image
    → ∥ ((db : Trees) × X db × HoldsDatabase image db) ∥₁

-- an opening finds these trees in what the files hold, and no other database is there
pub record AreOnlyThere (image : Image) (trees : Trees) : Type 0 where
  pub reads : AreFoundIn image trees
  pub holds : (other : Trees) → HoldsDatabase image other → trees ≡ other

-- so it is of the trees of a database of which this is so
pub record FindsOne (P : Database → Type 0) (image : Image) : Type 0 where
  pub db : Database
  pub sound : IsDatabase db
  pub there : AreOnlyThere image db.trees
  pub is : P db

-- what the files hold has no table, index or view
abbrev pub FindsNoSchema : Image → Type 0
FindsNoSchema = FindsOne (λ db. db.schema ≡ no_schema)

-- what an opening that failed left in the files
abbrev pub LeavesUnopened : {D : Type 0} → (g : disk.Ghosts D) → Files D → Files D → Type 0
LeavesUnopened {D} g files left =
    (rest : Leftover D g) × (files_left rest ≡ (left.log, left.db))
    × (IsCleanLeft rest → LeavesFiles files rest)

-- the files that are left hold what these held, and were honest only if these were
pub record FilesStay {D : Type 0} (g : disk.Ghosts D) (files left : Files D) : Type 0 where
  pub honest : AreClean g left.log left.db → AreClean g files.log files.db
  pub holds : Yields g left (AreOnlyThere (image_of g files))

-- what an opening that was refused leaves: what the database's own left, or what the files held
abbrev pub LeavesRefused : {D : Type 0} → (g : disk.Ghosts D) → Files D → Files D → Type 0
LeavesRefused g files left = LeavesUnopened g files left ⊎ FilesStay g files left

-- the fault speaks of the ledger that is there, or is not, and the database's own opening tells
-- none such
abbrev pub IsOfLedger : OpenFault → Type 0
IsOfLedger fault.InUse = ⊥
IsOfLedger fault.Unreadable = ⊥
IsOfLedger fault.NotALedger = Unit {0}
IsOfLedger fault.OldSchema = Unit {0}
IsOfLedger fault.NewerSchema = Unit {0}
IsOfLedger (fault.Damaged damage) = Unit {0}
IsOfLedger (fault.Unavailable why) = ⊥

-- the fault is that something is unavailable
abbrev pub IsUnavailable : OpenFault → Type 0
IsUnavailable told = (why : Unavailable) × (told ≡ fault.Unavailable why)

-- what the making of a ledger that was refused leaves: as an opening; or, where something was
-- unavailable, what the files held, or the whole of the new ledger in files that held no table
abbrev pub LeavesNew : {D : Type 0} → (g : disk.Ghosts D) → Files D → OpenFault → Files D → Type 0
LeavesNew g files told left =
    LeavesRefused g files left
    ⊎ (IsUnavailable told × Yields g left (λ db. AreOnlyThere (image_of g files) db
    ⊎ (FindsNoSchema (image_of g files) × IsEmptyLedger db)))

-- an open database without a table, on a disk that was honest so far
abbrev pub IsBlankHere : State → Type 0
IsBlankHere s = HasCleanDisk s × (s.now.schema ≡ no_schema)

-- what a making that was refused leaves of an open database: what a crash might have left of it;
-- or, where something was unavailable, that or the whole of the new ledger, if it had no table
abbrev pub LeavesFilled :
    {D : Type 0} → (g : disk.Ghosts D) → State → OpenFault → Files D → Type 0
LeavesFilled g s told left =
    Yields g left s.may_leave
    ⊎ (IsUnavailable told × Yields g left (λ db. s.may_leave db
    ⊎ ((s.now.schema ≡ no_schema) × IsEmptyLedger db)))
