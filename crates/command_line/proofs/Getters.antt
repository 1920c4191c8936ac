-- What `clap`'s getters give of a command's rows.
use Rattle.std.proofs.Common.{◌≡◌, ◌∙◌, ◌<◌, ◌^◌, ℕ, Bool, true, false, List, Option, Some, None, ap, refl, sym, inl, inr, is_some, true≢false}
use Rattle.std.specs.Prelude.{IsSome, Ok, Err, Result, codes, option_map}
use Rattle.std.specs.Borrow.{Bor}
use Rattle.std.specs.Option.{option_map_or}
use Rattle.std.specs.Str.{bytes_eq}
use Rattle.std.specs.Str.Parse.{IsNumeral, ParsesUnsigned, without_leading_plus}
use Rattle.clap.specs.Matches.{ReadsOne, first_value, one_text}
use Rattle.clap.specs.Walk.{Row, Text, first_of, one_of, rows_of}
use Rattle.clap.specs.declared.parser.matches.Found.{Found}
use Rattle.clap.proofs.WalkLemmas.{first_value-rows, one_text-rows}
use Rattle.command_line.specs.Values.{HasFreeNumber, HasNumber, HasNumberBelow, HasSomeText, HasText, IsFlag, IsFreeNumber, has_flag, number_of}

some_from : (o : Option (Bor Text)) (x : Option Text) → option_map (λ s. s.now) o ≡ x → is_some x ≡ true → is_some o ≡ true
some_from (Some t) x e h = refl
some_from None x e h = absurd (true≢false (sym h ∙ sym (ap is_some e)))

-- `get_str` of an option that has a text
pub text_is_there : (f : Found) (name : Text) (o : Option (Bor Text)) → option_map (λ s. s.now) o ≡ first_value f name → HasSomeText (rows_of f) name → IsSome o
text_is_there f name o e h = some_from o (first_of name (rows_of f)) (e ∙ first_value-rows f name) h

pub text_is : (f : Found) (name : Text) (o : Option (Bor Text)) (t : Bor Text) → option_map (λ s. s.now) o ≡ first_value f name → o ≡ Some t → HasText (rows_of f) name t.now
text_is f name o t e is = sym (first_value-rows f name) ∙ sym e ∙ ap (option_map (λ (s : Bor Text). s.now)) is

-- `get_one` of an option that has a number
pub number_read : (E : Type 0) (G : List ℕ → Result ℕ E → Type 0) (k : ℕ) → ((u : List ℕ) (x : Result ℕ E) → G u x → ParsesUnsigned k 10 u x)
    → (text : Text) (r : Option ℕ) → ReadsOne G text r → IsNumeral 10 (without_leading_plus text) → number_of text < 2 ^ k → r ≡ Some (number_of text)
number_read E G k only text (Some v) h numeral below = ap (λ (n : ℕ). Some n) (only text (Ok v) h).1
number_read E G k only text None h numeral below = absurd (only text (Err h.0) h.1 (numeral, below))

pub number_at : (E : Type 0) (G : List ℕ → Result ℕ E → Type 0) (k : ℕ) → ((u : List ℕ) (x : Result ℕ E) → G u x → ParsesUnsigned k 10 u x)
    → (f : Found) (name : Text) (r : Option ℕ) → ((t : List ℕ) → one_text f name ≡ Some t → ReadsOne G t r)
    → (h : HasNumberBelow (rows_of f) name (2 ^ k)) → r ≡ Some (number_of h.text)
number_at E G k only f name r reads h =
    number_read E G k only h.text r (reads h.text (one_text-rows f name ∙ h.read)) h.numeral h.below

pub some_number : (r : Option ℕ) (n : ℕ) → r ≡ Some n → IsSome r
some_number r n e = rw e refl

pub number_is : (rows : List Row) (name : Text) (bound : ℕ) (h : HasNumberBelow rows name bound) (r : Option ℕ) (n : ℕ) → r ≡ Some (number_of h.text) → r ≡ Some n
    → HasNumber rows name n
number_is rows name bound h r n is e = ap (option_map number_of) h.read ∙ sym is ∙ e

-- `get_one` of an option that may be left out
pub free_number_is : (E : Type 0) (G : List ℕ → Result ℕ E → Type 0) → ((u : List ℕ) (x : Result ℕ E) → G u x → ParsesUnsigned 64 10 u x)
    → (f : Found) (name : Text) (r : Option ℕ) → (one_text f name ≡ None → r ≡ None) → ((t : List ℕ) → one_text f name ≡ Some t → ReadsOne G t r)
    → IsFreeNumber (rows_of f) name → HasFreeNumber (rows_of f) name r
free_number_is E G only f name r none reads h = elim h [
  | inl absent ↦ none (one_text-rows f name ∙ absent) ∙ sym (ap (option_map number_of) absent)
  | inr n ↦ number_at E G 64 only f name r reads n ∙ sym (ap (option_map number_of) n.read)
]

-- `get_flag`
pub flag_is : (f : Found) (name : Text) (b : Bool) → (one_text f name ≡ None → b ≡ false) → (one_text f name ≡ Some (codes "true") → b ≡ true)
    → (one_text f name ≡ Some (codes "false") → b ≡ false) → IsFlag (rows_of f) name → b ≡ has_flag (rows_of f) name
flag_is f name b none set unset h = elim h [
  | inl absent ↦ none (one_text-rows f name ∙ absent) ∙ sym (at None absent)
  | inr word ↦ elim word [
    | inl t ↦ set (one_text-rows f name ∙ t) ∙ sym (at (Some (codes "true")) t)
    | inr t ↦ unset (one_text-rows f name ∙ t) ∙ sym (at (Some (codes "false")) t)
  ]
]
  where
    at : (o : Option Text) → one_of name (rows_of f) ≡ o → has_flag (rows_of f) name ≡ option_map_or (λ text. bytes_eq text (codes "true")) o false
    at o e = ap (λ (x : Option Text). option_map_or (λ text. bytes_eq text (codes "true")) x false) e
