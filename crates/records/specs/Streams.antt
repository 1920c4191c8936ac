-- What readers, writers and sinks do over several calls.
use Rattle.std.specs.Prelude.{◌≡◌, ◌||◌, ℕ, Bool, List, Option, Result, [], ◌∷◌, ◌++◌, is_err, OnOk, OnErr}
use Rattle.std.specs.Io.KnownBytes.{Appends}

-- known bytes grow by a beginning of bs
pub record AppendsFront (old new : Option (List ℕ)) (bs : List ℕ) : Type 0 where
  pub front : List ℕ
  pub rest : List ℕ
  pub whole : front ++ rest ≡ bs
  pub appended : Appends old new front

-- a text is put to a writer: all of it is appended, or a beginning where the writer fails; the call
-- fails where the writer does, and one that had failed stays so
pub record Puts {W A E : Type 0} (text : List ℕ) (written : W → Option (List ℕ)) (has_failed : W → Bool)
    (old new : W) (result : Result A E) : Type 0 where
  pub ok : OnOk result (Appends (written old) (written new) text)
  pub err : OnErr result (AppendsFront (written old) (written new) text)
  pub failed : has_failed new ≡ (is_err result || has_failed old)

-- a sink takes these rows, one after the other
abbrev pub TakesRows : {S Row : Type 0} → (S → Row → S → Type 0) → S → List Row → S → Type 0
TakesRows takes s [] t = s ≡ t
TakesRows {S} takes s (row ∷ rows) t = (m : S) × takes s row m × TakesRows takes m rows t
