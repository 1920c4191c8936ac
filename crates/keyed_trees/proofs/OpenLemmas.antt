-- How an open store, a clean one and one that is not broken go together.
use Rattle.std.proofs.Common.{◌≡◌, Bool, true, false, IsTrue, refl, sym, ◌∙◌, true≢false}
use Rattle.sqlite_trees.specs.View.{View, IsClean}
use Rattle.sqlite_trees.proofs.Doubt.{no_doubt}

-- where a store that is not clean is shut, one that is open is clean
pub open_is_clean : (v : View) → (v.is_clean ≡ false → v.is_open ≡ false) → IsTrue v.is_open → IsClean v
open_is_clean v shut is_open = no_doubt v.is_clean (go v.is_clean refl)
  where
    go : (b : Bool) → v.is_clean ≡ b → v.is_clean ≡ true
    go true e = e
    go false e = absurd (true≢false (sym is_open ∙ shut e))

-- where a store that is shut is broken, one that is not broken is open
pub sound_is_open : (v : View) → (v.is_open ≡ false → IsTrue v.is_broken) → v.is_broken ≡ false → IsTrue v.is_open
sound_is_open v broken sound = go v.is_open refl
  where
    go : (b : Bool) → v.is_open ≡ b → v.is_open ≡ true
    go true e = e
    go false e = absurd (true≢false (sym (broken e) ∙ sound))
