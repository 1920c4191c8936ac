-- What an opening finds in files that a store gave back.
use Rattle.std.proofs.Common.{◌≡◌, sym, subst}
use Rattle.std.proofs.Math.Logic.{∥∥₁_elim, ∥∥₁_map}
use Rattle.sqlite_disk.specs.declared.Disk as disk
use Rattle.sqlite_disk.specs.declared.Files.{Files}
use Rattle.sqlite_trees.specs.Tree.{Trees}
use Rattle.sqlite_wal.specs.Files.{outcomes}
use Rattle.sqlite_wal.specs.Reads.{AreClean}
use Rattle.sqlite_wal.specs.Recovery.{Image}
use Rattle.sqlite.specs.Effect.{Database}
use Rattle.sqlite.specs.Files.{HoldsDatabase, AreFoundIn, image_of}
use Rattle.openings.specs.Damage.{Hold}
use Rattle.openings.specs.Found.{FilesStay, AreOnlyThere, Yields}
use Rattle.openings.specs.OpenTables.{open_state}
use Rattle.store.specs.Stores.{IsHonest, IsHonestAt, IsOpenedAt, KeepsFound}
use Rattle.store.specs.Stores.{FindsAt, GivesBack, GivesBackAt, left_in, may_find_at}
use Rattle.store.specs.declared.place.Place.{Place}
use Rattle.store.specs.declared.place.Place.TheVariants as at
use Rattle.store.specs.declared.store.Store.{Store}

module _ {D : Type 0} (g : disk.Ghosts D) (files : Files D) (clean : AreClean g files.log files.db) where
  -- what is found in an outcome of a crash of the files that a place gave back
  found_in : (place : Place D g) (image : Image) (trees : Trees) → GivesBackAt place files
      → outcomes g files.log files.db image → AreFoundIn image trees
      → ((other : Trees) → HoldsDatabase image other → trees ≡ other) → ∥ may_find_at place trees ∥₁
  found_in (at.Open tables) image trees yields may reads holds =
      ∥∥₁_map (yields clean image may)
      (λ held. subst (open_state tables).may_leave (sym (holds held.0 held.2)) held.1)
  found_in (at.Shut kept) image trees same may reads holds =
      ∣ subst (λ (kept : Files D). left_in g kept trees) same (image, may, reads, holds) ∣₁

module _ {D : Type 0} (g : disk.Ghosts D) (stays : (file : D) → g.may_leave file (g.seen file)) (files : Files D)
    (clean : AreClean g files.log files.db) where
  -- the files as they read now are an outcome of a crash
  found_of : (place : Place D g) (trees : Trees) → GivesBackAt place files → AreOnlyThere (image_of g files) trees
      → ∥ may_find_at place trees ∥₁
  found_of place trees back there =
      found_in g files clean place (image_of g files) trees back (stays files.log, stays files.db)
      there.reads there.holds

  -- what it finds is one of those that might have been found
  pub finds_again : (old new : Place D g) → GivesBackAt old files → IsOpenedAt (image_of g files) new
      → FindsAt (may_find_at old) new
  finds_again old (at.Open tables) back opened = (
    opened.0.is_open,
    subst (λ (db : Database). ∥ may_find_at old db.trees ∥₁) (sym opened.0.quiet.settled)
        (found_of old (open_state tables).committed.trees back
        (record { reads = opened.0.found.reads; holds = opened.0.found.holds })),
  )
  finds_again old (at.Shut left) back opened = absurd opened

  -- and what it finds damaged is too
  pub held_again : (old : Place D g) (P : Trees → Type 0) → GivesBackAt old files → Hold g files P
      → ∥ ((trees : Trees) × may_find_at old trees × P trees) ∥₁
  held_again old P back held =
      ∥∥₁_map (found_of old held.trees back (record { reads = held.reads; holds = held.holds }))
      (λ may. (held.trees, may, held.is))

  -- and what is found in files that hold what these held
  stayed : (old : Place D g) (left : Files D) → GivesBackAt old files → AreClean g left.log left.db
      → Yields g left (AreOnlyThere (image_of g files)) → (db : Trees) → left_in g left db → ∥ may_find_at old db ∥₁
  stayed old left back honest yields db here =
      ∥∥₁_elim (yields honest here.0 here.1) squash₁ (λ held.
      subst (λ (trees : Trees). ∥ may_find_at old trees ∥₁) (sym (here.3 held.0 held.2))
      (found_of old held.0 back held.1))

-- a store that has the files as they were given back
pub keeps_same : {D : Type 0} (g : disk.Ghosts D) (old new : Store D g) (files : Files D) → GivesBack old files
    → (AreClean g files.log files.db → IsHonest old) → new.place ≡ at.Shut files → KeepsFound old new
keeps_same g old new files back honest is = record {
  honest = λ now. honest (subst IsHonestAt is now);
  found = λ now db may.
      let here = subst (λ place. may_find_at place db) is may in
      found_in g files (subst IsHonestAt is now) old.place here.0 db back here.1 here.2 here.3;
}

-- a store that has files which hold what those held
pub keeps_left : {D : Type 0} (g : disk.Ghosts D) (stays : (file : D) → g.may_leave file (g.seen file))
    (old new : Store D g) (files left : Files D) → GivesBack old files
    → (AreClean g files.log files.db → IsHonest old) → new.place ≡ at.Shut left → FilesStay g files left
    → KeepsFound old new
keeps_left g stays old new files left back honest is stay = record {
  honest = λ now. honest (stay.honest (subst IsHonestAt is now));
  found = λ now db may.
      let clean = subst IsHonestAt is now in
      stayed g stays files (stay.honest clean) old.place left back clean stay.holds db
      (subst (λ place. may_find_at place db) is may);
}
