-- Lines that are written whole, or a beginning of them.
use Rattle.std.specs.Prelude.{◌||◌, OnOk, OnErr, ⊤, is_err}
use Rattle.std.proofs.Common.{◌≡◌, ℕ, Bool, List, [], Option, Result, Ok, Err}
use Rattle.std.proofs.lemmas.List.{append-nil}
use Rattle.std.specs.Io.KnownBytes.{Appends}
use Rattle.records.specs.Streams.{AppendsFront}
use Rattle.command_texts.specs.Lines.{IsWritten}

-- what a writer has, whatever the writing answers
pub is_written :
    {E : Type 0} (old new : Option (List ℕ)) (before has_failed : Bool) (text : List ℕ)
    (written : Result ⊤ E) → has_failed ≡ (is_err written || before) →
    OnOk written (Appends old new text) → OnErr written (AppendsFront old new text) →
    IsWritten old new has_failed text
is_written old new before has_failed text (Ok done) failed whole front = record {
  front = record { front = text; rest = []; whole = append-nil text; appended = whole };
  whole = λ well. whole;
}
is_written old new before has_failed text (Err fault) failed whole front = record {
  front = front;
  whole = λ well. cc;
}
