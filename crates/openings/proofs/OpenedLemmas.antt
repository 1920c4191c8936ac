-- What an opening has looked at.
use Rattle.std.proofs.Common.{◌≡◌, ℕ, ℤ, pos, ◌+◌, ◌<◌, All, IsTrue, List, [], ◌∷◌, map, take, length, get_or, Result, Ok, Err, IfOk, inl, inr, sym, ap, subst, ◌∙◌, arith}
use Rattle.std.specs.BTreeSet.{contains}
use Rattle.std.specs.List.Sorted.{IsPermutation}
use Rattle.std.proofs.lemmas.List.Elements.{All-more, All-weaker}
use Rattle.rows.specs.declared.status_cells.StatusCells.{StatusCells}
use Rattle.sqlite_value.specs.Order.{Row}
use Rattle.ledger_sql.specs.Values.{version_values}
use Rattle.stored_ledgers.specs.DueSets.{DueSet, due_cmp}
use Rattle.openings.proofs.HeldMachines.{only_one}
use Rattle.sqlite_disk.specs.declared.Disk as disk
use Rattle.sqlite_disk.specs.declared.Files.{Files}
use Rattle.sqlite_wal.specs.Reads.{AreClean}
use Rattle.sqlite_wal.specs.Recovery.{Image}
use Rattle.sqlite_store.specs.declared.store.FileStore.{FileStore}
use Rattle.sqlite.specs.Effect.{Database, IsDatabase}
use Rattle.sqlite.specs.Files.{AreFoundIn, file_state, image_of}
use Rattle.sqlite.specs.Held.{Held}
use Rattle.sqlite.specs.State.{State, HasCleanDisk, IsUnchanged}
use Rattle.ledger_sql.specs.Frames.{Follows}
use Rattle.openings.specs.Found.{FilesStay, HasOrderedTables, IsOpenAt, AreOnlyThere, Yields}
use Rattle.stored_ledgers.specs.DueSets.{DueSets}
use Rattle.openings.specs.Opened.{CanServeOrdered, CoversCells, WasOpenedOn}
use Rattle.stored_ledgers.specs.Resting.{IsResting, IsServing}
use Rattle.openings.proofs.FileLemmas.{yields_more}
use Rattle.openings.proofs.ThereLemmas.{there_left}

-- the next row's due time is kept beside those before it
pub covers_more : (old new : DueSet) (xs : List StatusCells) (i : ℕ) (cells : StatusCells)
    → ((q : ℕ × ℕ) → IsTrue (contains due_cmp old q) → IsTrue (contains due_cmp new q))
    → CoversCells new (get_or xs i cells) → All (CoversCells old) (take i xs) → i < length xs
    → All (CoversCells new) (take (i + 1) xs)
covers_more old new xs i cells grows kept before within =
    All-more (CoversCells new) xs i cells within
    (All-weaker (CoversCells old) (CoversCells new)
    (λ c covers row fits same due open_yet timed. grows (due, row.transfer) (covers row fits same due open_yet timed))
    (take i xs) before) kept

-- the one version that a file names
pub named_version : {E : Type 0} (r : Result ℕ E) (rows : List Row) (versions items : List ℤ)
    → IsPermutation rows (map version_values items) → versions ≡ items → IfOk r (λ version. versions ≡ pos version ∷ [])
    → IfOk r (λ version. rows ≡ version_values (pos version) ∷ [])
named_version (Ok version) rows versions items all same is =
    only_one rows (version_values (pos version))
    (subst (λ xs. IsPermutation rows (map version_values xs)) (sym same ∙ is) all)
named_version (Err fault) rows versions items all same is = is

module _ (image : Image) (old new : State) where
  -- a database that was opened and only read since
  pub opened_on : IsOpenAt image old → IsUnchanged old new → WasOpenedOn image new
  opened_on at kept =
      let same : new.now ≡ old.now = kept.0.now_is in
      let last : new.committed ≡ old.committed = kept.0.committed_is in record {
        is_open = kept.0.is_open;
        quiet = record {
          mode = kept.0.mode ∙ at.opens.autocommit;
          settled = same ∙ at.opens.clean ∙ sym last;
          unmarked = kept.2 ∙ at.opens.unmarked;
        };
        sound = subst IsDatabase (sym same) (at.live at.opens.is_open).0;
        ordered = subst HasOrderedTables (sym same) at.ordered;
        found = record {
          holds = λ db held. ap (λ (d : Database). d.trees) last ∙ at.found.holds db held;
          reads = subst (λ (d : Database). AreFoundIn image d.trees) (sym last) at.found.reads;
        };
      }

-- and what its files hold once it was refused
pub refused_stay : {D : Type 0} (g : disk.Ghosts D) (files left : Files D) (old new : State)
    → (HasCleanDisk old → IsOpenAt (image_of g files) old)
    → (HasCleanDisk old → AreClean g files.log files.db) → Follows old new
    → (AreClean g left.log left.db → HasCleanDisk new) → Yields g left new.may_leave → FilesStay g files left
refused_stay g files left old new opened honest follows shut yields =
    let before : AreClean g left.log left.db → HasCleanDisk old =
    λ clean. let last = shut clean in omega (arith, follows.survives.clean, last) in record {
      honest = λ clean. honest (before clean);
      holds = yields_more g left new.may_leave (AreOnlyThere (image_of g files)) (λ clean db may.
          elim (follows.survives.crash (shut clean) db may) [
            | inl left_before ↦
                there_left (image_of g files) old (opened (before clean)) db left_before
            | inr none ↦ absurd none
          ]) yields;
    }

-- what was opened and looked at serves
module _ {D : Type 0} (g : disk.Ghosts D) (image : Image) where
  serves_of : (sets : DueSets) (s : State) → WasOpenedOn image s → CanServeOrdered sets s.now → IsTrue s.is_open × IsResting sets s
  serves_of sets s opened can =
      let holds = can opened.sound opened.ordered in
      (opened.is_open, record { quiet = opened.quiet; ledgers = holds.0; covered = holds.1 })

  pub served : {E : Type 0} (r : Result (Held (FileStore D g) × DueSets) E)
      → IfOk r (λ it. HasCleanDisk (file_state it.0) → WasOpenedOn image (file_state it.0))
      → IfOk r (λ it. HasCleanDisk (file_state it.0) → CanServeOrdered it.1 (file_state it.0).now)
      → IfOk r (λ it. IsServing it.1 (file_state it.0))
  served (Ok it) opened can = λ clean. serves_of it.1 (file_state it.0) (opened clean) (can clean)
  served (Err e) opened can = tt
