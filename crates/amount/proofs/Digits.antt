-- The decimal text of an amount as `write_decimal` lays it out, from its last digit to its first.
use Rattle.std.proofs.Common.{◌≡◌, ℕ, ◌+◌, ◌-◌, ◌/◌, ◌%◌, ◌^◌, ◌<◌, ◌≤◌, List, [], ◌∷◌, ◌++◌, length, take, drop, take_all, append_assoc, append-nil, length-append, length-drop, sym, ap, ◌∙◌, arith}
use Rattle.std.specs.Fmt.{decimal}
use Rattle.std.specs.List.{copy_within}
use Rattle.std.proofs.Math.ListN.{set, length-set, drop_of_length-le}
use Rattle.std.proofs.lemmas.Fmt.{decimal_digit, decimal_step_wide, decimal_is_IsNumeral_wide, length-decimal-le_wide}
use Rattle.std.proofs.lemmas.List.{drop-set}
use Rattle.std.proofs.lemmas.List.Edits.{take-paste}

-- the digits of `whole` stand behind `place`, except for those of `rest`
pub record IsWrittenBehind (place : ℕ) (digits : List ℕ) (rest whole : ℕ) : Type 0 where
  pub inside : place < 39
  pub smaller : rest ≤ whole
  pub text : decimal rest ++ drop (place + 1) digits ≡ decimal whole

pub none_written : (n whole : ℕ) (digits : List ℕ) → n ≡ whole → length digits ≡ 39 → IsWrittenBehind 38 digits n whole
none_written n whole digits is size = record {
  inside = omega arith;
  smaller = omega arith;
  text = ap (λ x. decimal n ++ x) (drop_of_length-le digits {i = 39} (omega arith)) ∙ append-nil (decimal n) ∙ ap decimal is;
}

-- a number of two digits or more does not stand at the first place
pub has_room : (place rest whole : ℕ) (digits : List ℕ) → IsWrittenBehind place digits rest whole → whole < 2 ^ 128 → length digits ≡ 39 → 10 ≤ rest → 1 ≤ place
has_room place rest whole digits w small size more =
    let fits : rest < 10 ^ 64 = omega (arith, w.smaller) in
    let some : 0 < length (decimal (rest / 10)) = (decimal_is_IsNumeral_wide (rest / 10) (omega arith)).0.0 in
    omega (
      arith,
      length-decimal-le_wide 39 whole (omega arith) (omega arith) (omega arith),
      ap length w.text,
      length-append (decimal rest) (drop (place + 1) digits),
      length-drop (place + 1) digits,
      ap length (decimal_step_wide rest more fits),
      length-append (decimal (rest / 10)) ((48 + rest % 10) ∷ []),
    )

behind_digit : (place : ℕ) (digits : List ℕ) (c : ℕ) (front : List ℕ) → place < length digits → front ++ drop place (set digits place c) ≡ (front ++ (c ∷ [])) ++ drop (place + 1) digits
behind_digit place digits c front inside = ap (λ x. front ++ x) (drop-set digits place c inside) ∙ sym (append_assoc front (c ∷ []) (drop (place + 1) digits))

pub next_digit : (place rest whole : ℕ) (digits : List ℕ) → IsWrittenBehind place digits rest whole → whole < 2 ^ 128 → length digits ≡ 39 → 10 ≤ rest → IsWrittenBehind (place - 1) (set digits place (48 + rest % 10)) (rest / 10) whole
next_digit place rest whole digits w small size more =
    let c : ℕ = 48 + rest % 10 in
    let room = has_room place rest whole digits w small size more in
    record {
      inside = omega (arith, w.inside);
      smaller = omega (arith, w.smaller);
      text =
          ap (λ i. decimal (rest / 10) ++ drop i (set digits place c)) (omega arith)
          ∙ behind_digit place digits c (decimal (rest / 10)) (omega (arith, w.inside))
          ∙ ap (λ x. x ++ drop (place + 1) digits) (sym (decimal_step_wide rest more (omega (arith, w.smaller)))) ∙ w.text;
    }

-- after the first digit, and once all are moved to the front
pub all_digits : (place rest whole : ℕ) (digits : List ℕ) (moved : List ℕ) → IsWrittenBehind place digits rest whole → length digits ≡ 39 → rest < 10 → (let line = set digits place (48 + rest) in moved ≡ copy_within line place (length line) 0) → take (39 - place) moved ≡ decimal whole
all_digits place rest whole digits moved w size few is =
    let line : List ℕ = set digits place (48 + rest) in
    let written : List ℕ = drop place line in
    let lined : length line ≡ 39 = length-set digits place (48 + rest) ∙ size in
    let many : length written ≡ 39 - place = length-drop place line ∙ ap (λ x. x - place) lined in
    ap (λ n. take n moved) (omega arith) ∙ ap (take (0 + (length line - place))) is
    ∙ take-paste line 0 written (length line - place) (omega arith) (omega arith)
    ∙ take_all (length line - place) written (omega arith)
    ∙ behind_digit place digits (48 + rest) [] (omega (arith, w.inside))
    ∙ ap (λ x. x ++ drop (place + 1) digits) (sym (decimal_digit rest few)) ∙ w.text
