-- What is noted of a reply.
use Rattle.std.specs.Prelude.{◌≡◌, ◌<◌, ◌≤◌, ℕ, Bool, true, false, List, ◌∷◌}
use Rattle.file_sums.specs.declared.record.Record.{Record}
use Rattle.file_sums.specs.declared.record.Record.TheVariants.{Mark}
use Rattle.kept_sums.specs.declared.kept.KeptSums.{KeptSums}
use Rattle.reply_marks.specs.Replies.{TellsClock}

-- a clock becomes the newest mark, if it is later than the mark before; else all is as it was.
-- `is_new` says which
pub data IsMarkedAt {F : Type 0} (has : KeptSums F → List Record → Type 0) (clock : ℕ)
    (old new : KeptSums F) (is_new : Bool) : Type 0 where
  Later :
      old.sums.noted.mark < clock →
      ((records : List Record) → has old records → has new (Mark clock ∷ records)) →
      is_new ≡ true → IsMarkedAt has clock old new is_new
  No_later :
      clock ≤ old.sums.noted.mark → new ≡ old → is_new ≡ false → IsMarkedAt has clock old new is_new

-- so does the clock in a reply; of a reply that tells none nothing is noted
pub data IsMarked {F : Type 0} (has : KeptSums F → List Record → Type 0) (reply : List ℕ)
    (old new : KeptSums F) (is_new : Bool) : Type 0 where
  Told :
      (clock : ℕ) → TellsClock reply clock → IsMarkedAt has clock old new is_new →
      IsMarked has reply old new is_new
  Untold :
      ((clock : ℕ) → TellsClock reply clock → ⊥) → new ≡ old → is_new ≡ false →
      IsMarked has reply old new is_new
