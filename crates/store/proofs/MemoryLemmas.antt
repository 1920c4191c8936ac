-- A disk that never lies keeps its store honest.
use Rattle.std.proofs.Common.{◌≡◌, Bool, true, ◌&&◌, IsTrue, sym, subst}
use Rattle.sqlite_disk.specs.declared.Disk as disk
use Rattle.sqlite_trees.proofs.Doubt.{no_doubt}
use Rattle.sqlite_pool.proofs.StateLemmas.{clean_is}
use Rattle.store.specs.Stores.{IsHonestAt}
use Rattle.store.specs.declared.place.Place.{Place}
use Rattle.store.specs.declared.place.Place.TheVariants as at

both : (one other : Bool) → one ≡ true → other ≡ true → IsTrue (one && other)
both one other is_one is_other = let e = is_one in let f = is_other in cc

pub place_is_honest :
    {D : Type 0} {g : disk.Ghosts D} → ((file : D) → g.is_clean file ≡ true) →
    (place : Place D g) → IsHonestAt place
place_is_honest always (at.Open tables) =
    no_doubt _ (subst IsTrue (sym (clean_is tables.store.pool)) (both _ _ (always _) (always _)))
place_is_honest always (at.Shut files) = both _ _ (always files.log) (always files.db)
