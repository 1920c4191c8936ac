-- A text that the port reads as a number from 0 on is one, with its minus taken off.
use Rattle.std.proofs.Common.{◌≡◌, ◌==◌, ◌^◌, ℕ, Bool, true, false, List, [], ◌∷◌, drop, Some, None, ap, refl, subst, cond, arith}
use Rattle.std.proofs.lemmas.Bool.{ne_eqb}
use Rattle.std.proofs.lemmas.Str.Parse.{digit_from_value}
use Rattle.std.specs.Prelude.{unwrap_or}
use Rattle.std.specs.Str.Parse.{IsNumeral, starts_with_minus, without_leading_plus}
use Rattle.std.proofs.lemmas.Int.{ints}
use Rattle.clap.specs.Lexer.{without_minus}
use Rattle.clap.specs.Values.{Accepts}
use Rattle.clap.specs.Walk.{Row, Text, one_of}
use Rattle.command_line.specs.Ledgerd.{ports}
use Rattle.command_line.specs.Values.{HasNumberBelow}

without_minus-cond : (t : List ℕ) → without_minus t ≡ cond (starts_with_minus t) (drop 1 t) t
without_minus-cond [] = refl
without_minus-cond (x ∷ xs) = go (x == 45)
  where
    go : (b : Bool) → unwrap_or (cond b (Some xs) None) (x ∷ xs) ≡ cond b xs (x ∷ xs)
    go true = refl
    go false = refl

no_plus : (ds : List ℕ) → IsNumeral 10 ds → without_leading_plus ds ≡ ds
no_plus [] h = refl
no_plus (d ∷ ds) h =
    let plus : (d == 43) ≡ false = ne_eqb _ _ (λ e. omega (arith, digit_from_value d h.1.0)) in
    ap (λ (b : Bool). drop (cond b 1 0) (d ∷ ds)) plus

-- a text that `i64` reads as a number from 0 on, with its minus taken off
pub signed_number : (rows : List Row) (name text : Text) → one_of name rows ≡ Some (without_minus text) → Accepts false ports text → HasNumberBelow rows name (2 ^ 16)
signed_number rows name text read ok = go (starts_with_minus text) refl
  where
    go : (b : Bool) → starts_with_minus text ≡ b → HasNumberBelow rows name (2 ^ 16)
    go true minus =
        let is : without_minus text ≡ drop 1 text = rw (without_minus-cond text, minus) refl in
        let numeral : IsNumeral 10 (drop 1 text) = rw minus at ok.0 in
        let low = rw minus at ok.2 in
        let same = no_plus (drop 1 text) numeral in
        record {
          text = drop 1 text;
          read = subst (λ (t : Text). one_of name rows ≡ Some t) is read;
          numeral = rw same numeral;
          below = rw same (omega (arith, ints));
        }
    go false minus =
        let is : without_minus text ≡ text = rw (without_minus-cond text, minus) refl in
        let high = rw minus at ok.3 in
        record {
          text = text;
          read = subst (λ (t : Text). one_of name rows ≡ Some t) is read;
          numeral = rw minus at ok.0;
          below = omega (arith, ints);
        }
