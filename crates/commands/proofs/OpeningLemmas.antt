-- What a refused opening has found, where the program tells its fault.
use Rattle.std.proofs.Common.{◌≡◌, inl, inr, IfErr, MatchResult, Option, None, Some, Result, Ok, Err, refl, subst, sym}
use Rattle.std.proofs.Math.Logic.{∥∥₁_map₂}
use Rattle.std.specs.Result.{IsErrAnd}
use Rattle.sqlite_disk.specs.declared.Disk as disk
use Rattle.sqlite_disk.specs.declared.Files.{Files}
use Rattle.sqlite_wal.specs.Reads.{AreClean}
use Rattle.sqlite_wal.specs.Recovery.{Image}
use Rattle.sqlite.specs.Effect.{Database}
use Rattle.sqlite.specs.Files.{image_of}
use Rattle.openings.specs.AtPath.{LeavesPath}
use Rattle.openings.specs.Found.{FilesStay, FindsOne, IsOfLedger, AreOnlyThere, Yields}
use Rattle.openings.specs.Refused.{RefusesToMake}
use Rattle.openings.specs.Told.{HindersMaking, IsToldBy, IsToldOfMaking, Warrants}
use Rattle.openings.specs.declared.opening.OpenFault.{OpenFault}
use Rattle.openings.specs.declared.opening.OpenFault.TheVariants as opening
use Rattle.store.specs.Refused.{RefusesToOpen}
use Rattle.command_texts.specs.declared.fault.Fault.{Fault}
use Rattle.command_texts.specs.declared.fault.Fault.TheVariants as told
use Rattle.commands.specs.Openings.{HasFound, IsFoundFault, IsFoundSo}
use Rattle.commands.specs.Openings.{RefusesImage, RefusesSome, open_fault}

module _ (Finds : OpenFault → Type 0) where
  -- what was found where an opening told it was found where the program tells it
  pub found_so : (fault : OpenFault) → IsFoundFault Finds fault → IsFoundSo Finds (open_fault fault)
  found_so opening.InUse found = tt
  found_so opening.Unreadable found = tt
  found_so opening.NotALedger found = tt
  found_so opening.OldSchema found = found
  found_so opening.NewerSchema found = found
  found_so (opening.Damaged damage) found = (damage, found)
  found_so (opening.Unavailable why) found = tt

  -- it is found, if it is where a ledger is spoken of
  pub found_if : (fault : OpenFault) → (IsOfLedger fault → Finds fault) → IsFoundFault Finds fault
  found_if opening.InUse finds = tt
  found_if opening.Unreadable finds = tt
  found_if opening.NotALedger finds = tt
  found_if opening.OldSchema finds = finds tt
  found_if opening.NewerSchema finds = finds tt
  found_if (opening.Damaged damage) finds = finds tt
  found_if (opening.Unavailable why) finds = tt

module _ {D : Type 0} (g : disk.Ghosts D) where
  module _ (Warrants : OpenFault → Database → Type 0) where
    there :
        (files left : Files D) (fault : OpenFault) → IsOfLedger fault →
        IsToldBy Warrants g files fault left → FindsOne (Warrants fault) (image_of g files)
    there files left fault of (inl (inl missing)) = absurd (subst IsOfLedger missing.1 of)
    there files left fault of (inl (inr refused)) = absurd (subst IsOfLedger refused.0 of)
    there files left fault of (inr found) = found

    -- an opening that speaks of a ledger has found what it tells in the files
    pub found_in :
        (image : Image) (files left : Files D) (fault : OpenFault) → image_of g files ≡ image →
        (AreClean g left.log left.db → IsToldBy Warrants g files fault left) →
        (IsOfLedger fault → FilesStay g files left) → IsOfLedger fault →
        HasFound g Warrants image fault
    found_in image files left fault is tells stay of = record {
      left = left;
      is = λ clean. subst (FindsOne (Warrants fault)) is (there files left fault of (tells clean));
      stays = subst (λ (i : Image). Yields g left (AreOnlyThere i)) is (stay of).holds;
    }

    -- so it is of the fault that the program tells of it
    told_so :
        (image : Image) (fault : OpenFault) (told : Fault) → told ≡ open_fault fault →
        (IsOfLedger fault → HasFound g Warrants image fault) →
        IsFoundSo (HasFound g Warrants image) told
    told_so image fault told is found =
        subst (IsFoundSo (HasFound g Warrants image)) (sym is)
        (found_so (HasFound g Warrants image) fault (found_if (HasFound g Warrants image) fault found))

    -- and of the files at a path
    pub at_path :
        (Refuses : Files D → OpenFault × Files D → Type 0) (image : Image) (fault : OpenFault)
        (kept : Option (Files D)) (told : Fault) → told ≡ open_fault fault →
        ((files left : Files D) → Refuses files (fault, left) →
        (AreClean g left.log left.db → IsToldBy Warrants g files fault left)
        × (IsOfLedger fault → FilesStay g files left)) →
        LeavesPath g image Refuses fault kept → IsFoundSo (HasFound g Warrants image) told
    at_path Refuses image fault None told is tells none =
        told_so image fault told is (λ of. absurd (none of))
    at_path Refuses image fault (Some left) told is tells (files, held, refused) =
        let parts = tells files left refused in
        told_so image fault told is (found_in image files left fault held.holds parts.0 parts.1)

  -- so it is of a store's opening
  pub found_at :
      (image : Image) (fault : OpenFault) (kept : Option (Files D)) (told : Fault) →
      told ≡ open_fault fault → LeavesPath g image (RefusesToOpen g) fault kept →
      RefusesImage g image told
  found_at image fault kept told is =
      at_path Warrants (RefusesToOpen g) image fault kept told is
      (λ files left refuses. (refuses.told, refuses.stay))

  -- so has one of files that hold this
  pub found_own :
      (image : Image) (files left : Files D) (fault : OpenFault) → image_of g files ≡ image →
      RefusesToOpen g files (fault, left) → IsFoundFault (HasFound g Warrants image) fault
  found_own image files left fault is refuses =
      found_if (HasFound g Warrants image) fault (λ (of : IsOfLedger fault).
      found_in Warrants image files left fault is refuses.told refuses.stay of)

  -- what was found in what these files held was found in some
  pub found_some :
      (image : Image) (told : Fault) → RefusesImage g image told → RefusesSome g told
  found_some image told.InUse found = tt
  found_some image told.Unreadable found = tt
  found_some image told.NotALedger found = tt
  found_some image told.OldSchema found = (image, found)
  found_some image told.NewerSchema found = (image, found)
  found_some image told.Damaged found = (found.0, (image, found.1))
  found_some image told.Behind found = tt
  found_some image told.Unavailable found = tt
  found_some image other found = absurd found

  -- a making speaks of a ledger's version, or of its rows, only where the disk has lied
  module _ (image : Image) (files left : Files D) where
    lied :
        (fault : OpenFault) → IsOfLedger fault →
        ((db : Database) → HindersMaking fault db.schema → ⊥) →
        (AreClean g left.log left.db → IsToldOfMaking g files fault left) →
        (IsOfLedger fault → Yields g left (AreOnlyThere image)) → HasFound g Warrants image fault
    lied fault of none told stays = record {
      left = left;
      is = λ clean.
          let found = there (λ fault db. HindersMaking fault db.schema) files left fault of (told clean) in
          absurd (none found.db found.is);
      stays = stays of;
    }

    making_found :
        (fault : OpenFault) →
        (AreClean g left.log left.db → IsToldOfMaking g files fault left) →
        (IsOfLedger fault → Yields g left (AreOnlyThere image)) →
        RefusesImage g image (open_fault fault)
    making_found opening.InUse told stays = tt
    making_found opening.Unreadable told stays = tt
    making_found opening.NotALedger told stays = tt
    making_found opening.OldSchema told stays = lied opening.OldSchema tt (λ db none. none) told stays
    making_found opening.NewerSchema told stays = lied opening.NewerSchema tt (λ db none. none) told stays
    making_found (opening.Damaged damage) told stays =
        (damage, lied (opening.Damaged damage) tt (λ db none. none) told stays)
    making_found (opening.Unavailable why) told stays = tt

  -- files that hold what others did, which held what was there, hold that
  stays_through :
      ((file : D) → g.may_leave file (g.seen file)) → (image : Image) (files left : Files D) →
      Yields g files (AreOnlyThere image) → FilesStay g files left → Yields g left (AreOnlyThere image)
  stays_through stays image files left yields stay clean other outcome =
      ∥∥₁_map₂ (yields (stay.honest clean) (image_of g files) (stays files.log, stays files.db))
      (stay.holds clean other outcome)
      (λ first found. (
        found.0,
        subst (AreOnlyThere image) (sym (found.1.holds first.0 first.2)) first.1,
        found.2,
      ))

  pub making_found_at :
      (image : Image) (fault : OpenFault) (kept : Option (Files D)) (told : Fault) →
      told ≡ open_fault fault → LeavesPath g image (RefusesToMake g) fault kept →
      RefusesImage g image told
  making_found_at image fault None told is none =
      told_so Warrants image fault told is (λ of. absurd (none of))
  making_found_at image fault (Some left) told is (files, held, refuses) =
      subst (RefusesImage g image) (sym is) (making_found image files left fault refuses.told
      (λ of. subst (λ (i : Image). Yields g left (AreOnlyThere i)) held.holds (refuses.stay of).holds))

  -- a making in files that hold what was there tells so too, and leaves it
  pub making_found_in :
      ((file : D) → g.may_leave file (g.seen file)) → (image : Image) (files left : Files D)
      (fault : OpenFault) (told : Fault) → told ≡ open_fault fault →
      Yields g files (AreOnlyThere image) → RefusesToMake g files (fault, left) →
      RefusesImage g image told
  making_found_in stays image files left fault told is yields refused =
      subst (RefusesImage g image) (sym is)
      (making_found image files left fault refused.told
      (λ of. stays_through stays image files left yields (refused.stay of)))

-- what is so of a fault is so where it is handed on
pub err_so :
    {T : Type 0} (P : Fault → Type 0) (result : Result T Fault) (fault : Fault) →
    IsErrAnd result (λ f. f ≡ fault) → P fault → IfErr result P
err_so P (Ok value) fault same holds = tt
err_so P (Err f) fault same holds = subst P (sym same) holds

-- the same, where it is said too what holds of a value
pub err_told :
    {T : Type 0} (P : T → Type 0) (Q : Fault → Type 0) (result : Result T Fault) (fault : Fault) →
    IsErrAnd result (λ f. f ≡ fault) → Q fault → MatchResult result P Q
err_told P Q (Ok value) fault same holds = absurd same
err_told P Q (Err f) fault same holds = subst Q (sym same) holds
