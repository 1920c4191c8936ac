use Rattle.std.proofs.Common.{◌≡◌, ℕ, ◌+◌, ◌*◌, ◌%◌, true, inl, inr, List, [], ◌∷◌, length, Option, Some, None, unwrap_or, Result, Ok, Err, is_some, refl, sym, ap, ◌∙◌, arith}
use Rattle.std.specs.Prelude.{IsOk}
use Rattle.std.specs.List.{list_all}
use Rattle.std.specs.Result.{result_ok}
use Rattle.std.proofs.lemmas.Bool.{and_parts, cases_Bool, eqb-true}
use Rattle.std.proofs.lemmas.List.Sums.{list_all-from_AllPass}
use Rattle.hex.specs.Hex.{decode_pairs, decode_sized, digit_or_error, hex_digit_value, is_hex_digit, pair_value, value_at}
use Rattle.hex.specs.declared.error.FromHexError.{FromHexError}
use Rattle.hex.proofs.HexLemmas.{IsOk-decode_sized}
use Rattle.hex.proofs.Pairs.{cons_byte, decode_pairs-ok_pair, decode_sized-pairs}
use Rattle.tenants.specs.KeyText.{bytes_of_digits, is_key_text, key_of, value_of_digit}

-- a digit has its value
digit-Some : (value : Option ℕ) → is_some value ≡ true → value ≡ Some (unwrap_or value 0)
digit-Some (Some v) h = refl
digit-Some None h = cc h

-- two digits name a byte
pair_value-digits : (high low i : ℕ) → is_hex_digit high ≡ true → is_hex_digit low ≡ true
    → pair_value high low i ≡ Ok (16 * value_of_digit high + value_of_digit low)
pair_value-digits high low i greater lesser =
    let h : value_at high i ≡ Ok (value_of_digit high) =
    ap (digit_or_error high i) (digit-Some (hex_digit_value high) greater) in
    let l : value_at low (i + 1) ≡ Ok (value_of_digit low) =
    ap (digit_or_error low (i + 1)) (digit-Some (hex_digit_value low) lesser) in
    let byte : value_of_digit high * 16 + value_of_digit low ≡ 16 * value_of_digit high + value_of_digit low = omega arith in
    rw (h, l, byte) refl

-- an even number of digits decodes to the bytes that they name
decode_pairs-digits : (i : ℕ) (text : List ℕ) → length text % 2 ≡ 0 → list_all is_hex_digit text ≡ true
    → decode_pairs i text ≡ Ok (bytes_of_digits text)
unfolding decode_pairs bytes_of_digits
decode_pairs-digits i [] even digits = refl
decode_pairs-digits i (digit ∷ []) even digits = absurd (omega arith)
decode_pairs-digits i (high ∷ low ∷ rest) even digits =
    let first = and_parts (is_hex_digit high) (list_all is_hex_digit (low ∷ rest)) digits in
    let second = and_parts (is_hex_digit low) (list_all is_hex_digit rest) first.1 in
    decode_pairs-ok_pair i high low _ rest (pair_value-digits high low i first.0 second.0)
    ∙ ap (cons_byte (16 * value_of_digit high + value_of_digit low)) (decode_pairs-digits (i + 2) rest (omega arith) second.1)

-- what does not decode gives no value
result_ok-None : (r : Result (List ℕ) FromHexError) → (IsOk r → ⊥) → result_ok r ≡ None
result_ok-None (Ok bytes) h = absurd (h refl)
result_ok-None (Err e) h = refl

-- what decodes into room for 32 bytes is a key's text
is_key_text-decode_sized : (text : List ℕ) → IsOk (decode_sized text 32) → is_key_text text ≡ true
is_key_text-decode_sized text h =
    let digits = (IsOk-decode_sized text 32).0 h in
    let len : length text ≡ 64 = digits.0 in
    let all : list_all is_hex_digit text ≡ true = list_all-from_AllPass is_hex_digit text digits.1 in
    rw (len, all) refl

-- a text decodes into room for 32 bytes as the key that it names
pub result_ok-decode_sized : (text : List ℕ) → result_ok (decode_sized text 32) ≡ key_of text
unfolding key_of
result_ok-decode_sized text =
    elim (cases_Bool (is_key_text text)) [
      | inl good ↦
          let parts = and_parts _ _ good in
          let len : length text ≡ 64 = eqb-true (length text) 64 parts.0 in
          let bytes : decode_sized text 32 ≡ Ok (bytes_of_digits text) =
          decode_sized-pairs text 32 (omega arith) (omega arith) ∙ decode_pairs-digits 0 text (omega arith) parts.1 in
          rw (bytes, good) refl
      | inr bad ↦
          let none = result_ok-None (decode_sized text 32) (λ ok. cc (sym bad ∙ is_key_text-decode_sized text ok)) in
          rw (none, bad) refl
    ]
