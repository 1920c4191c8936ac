-- Why the database's own opening refuses two files.
use Rattle.std.proofs.Common.{◌≡◌, IsTrue, refl, inl, inr, ap, sym, subst}
use Rattle.records.specs.declared.unavailable.Unavailable.TheVariants.{Memory, Size, Disk}
use Rattle.sqlite_disk.specs.declared.Disk as disk
use Rattle.sqlite_disk.specs.declared.Files.{Files}
use Rattle.sqlite_disk.specs.declared.tally.Tally.{Tally}
use Rattle.sqlite_store.specs.Report.{named}
use Rattle.sqlite_trees.specs.declared.error.StoreError.{StoreError}
use Rattle.sqlite_trees.specs.declared.error.StoreError.TheVariants as stored
use Rattle.sqlite_wal.specs.Reads.{AreClean, tally_of_files}
use Rattle.sqlite_pool.proofs.StateLemmas.{clean_is}
use Rattle.sqlite.specs.Closing.{files_left}
use Rattle.sqlite.specs.Files.{FailsToOpenAs, FailsToOpenFiles, IsCleanLeft, tally_left}
use Rattle.sqlite.specs.State.{store_error}
use Rattle.sqlite.specs.declared.error.Error.{Error}
use Rattle.sqlite.specs.declared.file.Leftover.{Leftover}
use Rattle.sqlite.specs.declared.file.Leftover.TheVariants as left
use Rattle.openings.specs.Faults.{open_fault_in}
use Rattle.openings.specs.Told.{IsUnopenedFor, Holds_none, Failed_test, tally_in}
use Rattle.openings.specs.declared.opening.OpenFault.{OpenFault}

module _ {D : Type 0} (g : disk.Ghosts D) where
  -- what is left is clean if its files are
  clean_left : (rest : Leftover D g) (log db : D) → files_left rest ≡ (log, db) → AreClean g log db → IsCleanLeft rest
  clean_left (left.Files files) log db is clean = subst (λ (p : D × D). AreClean g p.0 p.1) (sym is) clean
  clean_left (left.Unopened files) log db is clean =
      subst IsTrue (sym (clean_is files.pool)) (subst (λ (p : D × D). AreClean g p.0 p.1) (sym is) clean)
  clean_left (left.Store it) log db is clean =
      subst IsTrue (sym (clean_is it.pool)) (subst (λ (p : D × D). AreClean g p.0 p.1) (sym is) clean)

  -- and its calls have met what those of its files have
  tally_is : (rest : Leftover D g) (log db : D) → files_left rest ≡ (log, db)
      → tally_left rest ≡ tally_of_files g (log, db)
  tally_is (left.Files files) log db is = ap (λ (p : D × D). tally_of_files g p) is
  tally_is (left.Unopened files) log db is = ap (λ (p : D × D). tally_of_files g p) is
  tally_is (left.Store it) log db is = ap (λ (p : D × D). tally_of_files g p) is

  module _ (files left : Files D) (rest : Leftover D g) (is : files_left rest ≡ (left.log, left.db)) where
    abbrev IsMet : Error → Type 0
    IsMet e = IsUnopenedFor g files (open_fault_in e) left

    -- the kind is named by what the calls of the two files have met
    abbrev IsNamedSo : StoreError → Type 0
    IsNamedSo kind = named (tally_in g files) (tally_in g left) ≡ kind

    of_kind : (kind : StoreError) → IsNamedSo kind → IsMet (store_error kind)
    of_kind stored.OutOfMemory so = inl (Memory, refl)
    of_kind stored.Io so = inl (Disk, refl)
    of_kind stored.Corrupt so = inr (refl, Failed_test so)
    of_kind stored.Full so = inl (Disk, refl)
    of_kind stored.Broken so = inl (Disk, refl)
    of_kind stored.Unstorable so = inl (Size, refl)

    of_cause : (kind : StoreError) (e : Error) → IsNamedSo kind → FailsToOpenAs kind files rest e → IsMet e
    of_cause kind e so (inl memory) = subst IsMet (sym memory) (inl (Memory, refl))
    of_cause kind e so (inr (inl refused)) = elim refused.0 [
      | inl none ↦ subst IsMet (sym none) (inr (refl, Holds_none refused.1))
      | inr corrupt ↦ subst IsMet (sym corrupt) (inr (refl, Holds_none refused.1))
    ]
    of_cause kind e so (inr (inr (inl met))) = subst IsMet (sym met.0) (of_kind kind so)
    of_cause kind e so (inr (inr (inr full))) = subst IsMet (sym full.0) (inl (Disk, refl))

    pub unopened_for : (e : Error) (told : OpenFault) → told ≡ open_fault_in e → AreClean g left.log left.db
        → (IsCleanLeft rest → FailsToOpenFiles files rest e) → IsUnopenedFor g files told left
    unopened_for e told means clean cause =
        subst (λ fault. IsUnopenedFor g files fault left) (sym means)
        (of_cause (named (tally_in g files) (tally_left rest)) e
        (ap (λ (now : Tally). named (tally_in g files) now) (sym (tally_is rest left.log left.db is)))
        (cause (clean_left rest left.log left.db is clean)))
