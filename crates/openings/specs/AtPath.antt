-- Two files at a path, as they are opened.
use Rattle.std.specs.Prelude.{◌≡◌, Option, None, Some}
use Rattle.sqlite_disk.specs.declared.Disk as disk
use Rattle.sqlite_disk.specs.declared.Files.{Files}
use Rattle.sqlite_wal.specs.Reads.{AreClean}
use Rattle.sqlite_wal.specs.Recovery.{Image}
use Rattle.sqlite.specs.Files.{image_of}
use Rattle.openings.specs.Found.{IsOfLedger}
use Rattle.openings.specs.declared.opening.OpenFault.{OpenFault}

module _ {D : Type 0} (g : disk.Ghosts D) (image : Image) where
  -- the files hold this, and were honest so far
  pub record HoldHonestly (files : Files D) : Type 0 where
    pub holds : image_of g files ≡ image
    pub honest : AreClean g files.log files.db

  -- so it is of some such files
  abbrev pub OfSuchFiles : (Files D → Type 0) → Type 0
  OfSuchFiles P = (files : Files D) × HoldHonestly files × P files

  -- what is left of a path that was refused: nothing, for no reason that speaks of a ledger; or
  -- what the refusal of the files left of them
  abbrev pub LeavesPath :
      (Files D → OpenFault × Files D → Type 0) → OpenFault → Option (Files D) → Type 0
  LeavesPath Refuses fault None = ¬ IsOfLedger fault
  LeavesPath Refuses fault (Some left) = OfSuchFiles (λ files. Refuses files (fault, left))
