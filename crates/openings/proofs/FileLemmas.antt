-- What the two files of a store hold.
use Rattle.std.proofs.Common.{◌≡◌, IsTrue, sym, subst}
use Rattle.std.proofs.Math.Logic.{∥∥₁_map}
use Rattle.sqlite_disk.specs.declared.Disk as disk
use Rattle.sqlite_disk.specs.declared.Files.{Files}
use Rattle.sqlite_trees.specs.Tree.{Trees}
use Rattle.sqlite_trees.specs.View.{IsClean}
use Rattle.sqlite_trees.proofs.Doubt.{no_doubt}
use Rattle.sqlite_pool.proofs.StateLemmas.{may_leave_is, clean_is}
use Rattle.sqlite_store.specs.declared.store.FileStore.{FileStore}
use Rattle.sqlite_store.specs.FileStore.{view, recovers, files as store_files}
use Rattle.sqlite_wal.specs.Reads.{AreClean}
use Rattle.sqlite_wal.specs.Files.{outcomes}
use Rattle.sqlite.specs.Held.{AreDatabases}
use Rattle.sqlite.proofs.Theorems.{opens_again}
use Rattle.openings.specs.Found.{Yields}

module _ {D : Type 0} (g : disk.Ghosts D) (it : FileStore D g) (left : Files D)
    (same : (left.log, left.db) ≡ store_files it) where
  clean_log : AreClean g left.log left.db → AreClean g (store_files it).0 (store_files it).1
  clean_log clean = subst (λ (p : D × D). AreClean g p.0 p.1) same clean

  -- files that are honest were so while the store had them
  pub store_is_clean : AreClean g left.log left.db → IsClean (view it)
  store_is_clean clean =
      no_doubt (view it).is_clean (subst IsTrue (sym (clean_is it.pool)) (clean_log clean))

  -- each outcome of a crash holds a database that the store allows
  pub store_yields : (X : Trees → Type 0) → (IsClean (view it) → IsTrue (view it).is_numbered)
      → (IsClean (view it) → AreDatabases (recovers it)) → ((db : Trees) → recovers it db → X db)
      → Yields g left X
  store_yields X numbered sound within clean image may =
      let is_clean = store_is_clean clean in
      let left_may : outcomes g (store_files it).0 (store_files it).1 image =
      subst (λ (p : D × D). outcomes g p.0 p.1 image) same may in
      ∥∥₁_map (opens_again it (numbered is_clean) (sound is_clean) image
      (may_leave_is it.pool image (clean_log clean) left_may))
      (λ found. (found.0, within found.0 found.1, found.2))

-- files that yield some databases yield others too
pub yields_more : {D : Type 0} (g : disk.Ghosts D) (left : Files D) (X Y : Trees → Type 0)
    → (AreClean g left.log left.db → (db : Trees) → X db → Y db) → Yields g left X → Yields g left Y
yields_more g left X Y more yields clean image may =
    ∥∥₁_map (yields clean image may) (λ found. (found.0, more clean found.0 found.1, found.2))
