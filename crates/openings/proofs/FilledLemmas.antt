-- What a refused making leaves of the files that it was to be in.
use Rattle.std.proofs.Common.{◌≡◌, inl, inr, subst}
use Rattle.sqlite_disk.specs.declared.Disk as disk
use Rattle.sqlite_disk.specs.declared.Files.{Files}
use Rattle.sqlite_wal.specs.Reads.{AreClean}
use Rattle.sqlite.specs.Effect.{Database}
use Rattle.sqlite.specs.Files.{image_of}
use Rattle.sqlite.specs.State.{State, HasCleanDisk}
use Rattle.ledger_sql.specs.Schema.{no_schema}
use Rattle.openings.specs.Found.{FilesStay, IsOfLedger, IsOpenAt, IsUnavailable, LeavesFilled, LeavesNew}
use Rattle.openings.specs.Found.{Yields}
use Rattle.openings.specs.declared.opening.OpenFault.{OpenFault}
use Rattle.openings.proofs.FileLemmas.{yields_more}
use Rattle.openings.proofs.ThereLemmas.{finds_now, there_left}

-- a fault of the ledger is none of something unavailable
not_both : (told : OpenFault) → IsUnavailable told → IsOfLedger told → ⊥
not_both told why is = subst IsOfLedger why.1 is

module _ {D : Type 0} (g : disk.Ghosts D) (files left : Files D) (s : State) (told : OpenFault)
    (opened : HasCleanDisk s → IsOpenAt (image_of g files) s)
    (honest : HasCleanDisk s → AreClean g files.log files.db)
    (shut : AreClean g left.log left.db → HasCleanDisk s) where
  stays : Yields g left s.may_leave → FilesStay g files left
  stays yields = record {
    honest = λ clean. honest (shut clean);
    holds = yields_more g left s.may_leave _
        (λ clean db may. there_left (image_of g files) s (opened (shut clean)) db may) yields;
  }

  pub filled_leaves : LeavesFilled g s told left → LeavesNew g files told left
  filled_leaves (inl kept) = inl (inr (stays kept))
  filled_leaves (inr made) = inr (
    made.0,
    yields_more g left _ _ (λ clean db may.
        let at = opened (shut clean) in
        elim may [
          | inl before ↦ inl (there_left (image_of g files) s at db before)
          | inr new ↦
              inr (finds_now (image_of g files) s at (λ (d : Database). d.schema ≡ no_schema) new.0, new.1)
        ]) made.1,
  )

  pub filled_stays : LeavesFilled g s told left → IsOfLedger told → FilesStay g files left
  filled_stays (inl kept) is = stays kept
  filled_stays (inr made) is = absurd (not_both told made.0 is)
