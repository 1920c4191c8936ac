-- What a reader that fails has given is a beginning of a message.
use Rattle.std.proofs.Common.{◌≡◌, ap, sym, subst, ◌∙◌, ◌≤◌, ◌<◌, ◌+◌, ℕ, List, length, take, drop, Option, Some, None, Result, Ok, Err, arith}
use Rattle.std.specs.Prelude.{OnErr}
use Rattle.std.proofs.lemmas.List.{length-take-le, length-drop, take-take, drop-drop}
use Rattle.std.specs.Io.KnownBytes.{Keeps}
use Rattle.httparse.specs.Grammar.{RequestHead}
use Rattle.ledger_http.specs.Limits.{max_head, max_body}
use Rattle.ledger_http.specs.Head.{IsGoodHead}
use Rattle.ledger_http.specs.Message.{length_of_head, length_of_body}
use Rattle.ledger_http.specs.Progress.{HasNoEnd}
use Rattle.ledger_http.specs.Reading.{FallsShort}
use Rattle.ledger_http.specs.First.{IsBrokenOff}
use Rattle.ledger_http.proofs.MeaningLemmas.{length_of_head-take}
use Rattle.ledger_http.proofs.ReadingLemmas.{length_of_head-cut}
use Rattle.ledger_http.proofs.ProgressLemmas.{IsShort-head, IsShort-body}

-- what holds whatever is returned holds at an error
pub at_error : {T E : Type 0} (r : Result T E) (P : Type 0) → P → OnErr r P
at_error (Ok x) P p = tt
at_error (Err e) P p = p

-- known bytes that are kept
pub kept : (old new : Option (List ℕ)) (bytes : List ℕ) → old ≡ Some bytes → Keeps old new → new ≡ Some bytes
kept None new bytes known same = cc
kept (Some xs) None bytes known same = absurd same
kept (Some xs) (Some ys) bytes known same = let is : xs ≡ bytes = cc in ap (λ l. Some l) (same ∙ is)

-- before the head ends
pub broken_in_head : (head bytes : List ℕ) (n : ℕ) (left : Option (List ℕ)) → n < max_head → n ≤ length bytes
    → take n head ≡ take n bytes → HasNoEnd head n → left ≡ Some (drop n bytes) → IsBrokenOff bytes left
broken_in_head head bytes n left room within same none rest = record {
  size = n;
  within = within;
  short = IsShort-head (take n bytes)
      (length_of_head-cut head (take n bytes) n room (length-take-le n bytes within)
      (same ∙ sym (take-take n n bytes (omega arith))) none);
  rest = rest;
}

-- behind a good head
pub broken_in_body : (unread : List ℕ) (h : RequestHead) (n k : ℕ) (left : Option (List ℕ))
    → length_of_head unread ≡ Ok n → n ≤ length unread → IsGoodHead (take n unread) h
    → length_of_body h ≡ Ok k → k ≤ max_body → FallsShort (drop n unread) left k → IsBrokenOff unread left
broken_in_body unread h n k left ends within good body few short =
    let m = n + short.filled in
    let there : m ≤ length unread = omega (arith, within, short.there, length-drop n unread) in
    let size = length-take-le m unread there in
    record {
      size = m;
      within = there;
      short = IsShort-body (take m unread) n k
          (record {
            ends = length_of_head-take unread n m ends (omega arith);
            within = omega (arith, size);
            few = few;
            says = h;
            good = subst (λ head. IsGoodHead head h) (sym (take-take n m unread (omega arith))) good;
            allowed = body;
          })
          (omega (arith, size, short.few));
      rest = short.rest ∙ ap (λ xs. Some xs) (drop-drop short.filled n unread);
    }
