-- What functions of commands answer: one word for each kind.
use Rattle.std.specs.Prelude.{◌≡◌, ◌||◌, ⊤, ℕ, Bool, List, Option, Result, is_err, IfErr, IfOk, OnOk}
use Rattle.std.specs.Io.KnownBytes.{Appends}
use Rattle.command_texts.specs.declared.fault.Fault.{Fault}
use Rattle.command_texts.specs.declared.fault.Fault.TheVariants.{Output, Unavailable}

-- a text is put to a writer: it stands behind what was written before, or the writer has failed; one
-- that had failed stays so
pub record PutsText {O : Type 0} (text : List ℕ) (written : O → Option (List ℕ))
    (has_failed : O → Bool) (old new : O) (result : Result ⊤ Fault) : Type 0 where
  pub ok : OnOk result (Appends (written old) (written new) text)
  pub fault : IfErr result (λ fault. fault ≡ Output)
  pub failed : has_failed new ≡ (is_err result || has_failed old)

-- something is told, of which this is so; or it is not to be had
pub record TellsIfAvailable {A : Type 0} (result : Result A Fault) (Is : A → Type 0) : Type 0 where
  pub told : IfOk result Is
  pub fault : IfErr result (λ fault. fault ≡ Unavailable)
