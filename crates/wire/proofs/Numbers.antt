-- The number that a text means.
use Rattle.std.proofs.Common.{◌≡◌, ◌≢◌, ℕ, ◌<◌, ◌^◌, Bool, true, false, ltb, List, Option, Some}
use Rattle.std.proofs.Common.{None, refl, sym, ap, ◌∙◌, arith}
use Rattle.std.specs.Prelude.{bytes_eq, option_and_then, if◌then◌else◌}
use Rattle.std.specs.Str.Parse.{digits_value}
use Rattle.std.proofs.lemmas.Bool.Decides.{nat_tests, Decides-ltb}
use Rattle.std.proofs.lemmas.Fmt.{decimal_is_IsNumeral_wide}
use Rattle.std.proofs.lemmas.Option.{option_and_then_some, cond_some}
use Rattle.std.proofs.lemmas.Slice.Eq.{bytes_eq-Decides}
use Rattle.amount.specs.Decimal.{decimal_of}
use Rattle.wire.specs.Fields.{below, canonical_number, number_below}

canonical_number-decimal_of : (n : ℕ) → n < 2 ^ 128 → canonical_number (decimal_of n) ≡ Some n
unfolding canonical_number
canonical_number-decimal_of n small =
    let text = decimal_of n in
    let value : digits_value 10 text ≡ n = (decimal_is_IsNumeral_wide n (omega arith)).1 in
    let same : bytes_eq (decimal_of (digits_value 10 text)) text ≡ true =
    (bytes_eq-Decides _ text).1 (ap decimal_of value) in
    rw (same, value)

decimal_of-canonical_number : (text : List ℕ) (n : ℕ) → canonical_number text ≡ Some n
    → text ≡ decimal_of n
unfolding canonical_number
decimal_of-canonical_number text n read =
    let parts = cond_some _ (digits_value 10 text) n read in
    sym ((bytes_eq-Decides _ text).0 parts.0) ∙ ap decimal_of parts.1

pub number_below_is : (bound n : ℕ) (text : List ℕ) → n < bound → n < 2 ^ 128
    → text ≡ decimal_of n → number_below bound text ≡ Some n
number_below_is bound n text within small is =
    ap (option_and_then (below bound))
    (ap canonical_number is ∙ canonical_number-decimal_of n small) ∙ grind (arith, nat_tests)

pub decimal_of-number_below : (bound n : ℕ) (text : List ℕ) → number_below bound text ≡ Some n
    → text ≡ decimal_of n
decimal_of-number_below bound n text read =
    option_and_then_some (below bound) (canonical_number text) n read
    (λ m written kept.
    decimal_of-canonical_number text m written ∙ ap decimal_of ((cond_some _ m n kept).1))

none_kept : (bound : ℕ) (read : Option ℕ) → ((n : ℕ) → n < bound → read ≢ Some n)
    → option_and_then (below bound) read ≡ None
none_kept bound None other = refl
none_kept bound (Some n) other = dropped (ltb n bound) refl
  where
    dropped : (test : Bool) → ltb n bound ≡ test → (if test then Some n else None) ≡ None
    dropped true e = absurd (other n ((Decides-ltb n bound).0 e) refl)
    dropped false e = refl

pub number_below_none : (bound : ℕ) (text : List ℕ) → ((n : ℕ) → n < bound → text ≢ decimal_of n)
    → number_below bound text ≡ None
number_below_none bound text other =
    none_kept bound (canonical_number text)
    (λ n within read. other n within (decimal_of-canonical_number text n read))
