-- What follows of what is told of an opening that was refused.
use Rattle.std.proofs.Common.{◌≡◌, Bool, true, false, inl, inr, refl}
use Rattle.sqlite_disk.specs.declared.Disk as disk
use Rattle.sqlite_disk.specs.declared.Files.{Files}
use Rattle.openings.specs.Found.{FilesStay, IsOfLedger, LeavesRefused}
use Rattle.openings.specs.Refused.{LeavesAsTold}
use Rattle.openings.specs.declared.refused.Refused.{Refused}

module _ {D : Type 0} (g : disk.Ghosts D) (files : Files D) (refused : Refused) (left : Files D)
    (leaves : LeavesAsTold g files refused left) where
  by_word : (b : Bool) → refused.stands ≡ b → LeavesRefused g files left
  by_word true is = inr (leaves.stand is)
  by_word false is = inl (leaves.unopened is)

  -- what the database's own opening left, or what the files held
  pub leaves_refused : LeavesRefused g files left
  leaves_refused = by_word refused.stands refl

  -- behind a fault of the ledger that is there they hold what they held
  pub files_stay : IsOfLedger refused.fault → FilesStay g files left
  files_stay is = leaves.stand (leaves.of_ledger is)
