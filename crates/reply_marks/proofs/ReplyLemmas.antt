-- The clock in a reply, in parts.
use Rattle.std.proofs.Common.{◌≡◌, ◌<◌, ◌^◌, ◌∙◌, ℕ, zero, suc, List, [], ◌∷◌, ◌++◌, drop, slice_index, Option, None, Some, MatchOption, refl, sym, ap, subst, arith}
use Rattle.std.specs.Prelude.{codes}
use Rattle.std.specs.Str.Parse.{AllDigits}
use Rattle.std.proofs.lemmas.Fmt.{decimal_injective, decimal_is_IsNumeral}
use Rattle.std.proofs.lemmas.Str.Parse.{digit_from_value}
use Rattle.amount.specs.Decimal.{decimal_of}
use Rattle.reply_marks.specs.Replies.{Lacks, IsSplit, TellsClock}

-- a byte is there
pub is_there : (byte : ℕ) (front rest : List ℕ) → Lacks byte (front ++ byte ∷ rest) → ⊥
is_there byte [] rest lacks = lacks 0 (omega arith) refl
is_there byte (x ∷ front) rest lacks = is_there byte front rest (λ i below. lacks (suc i) (omega (arith, below)))

-- the first such byte has one place
pub same_split : (byte : ℕ) (a b c d : List ℕ) → Lacks byte a → Lacks byte c
    → a ++ byte ∷ b ≡ c ++ byte ∷ d → (a ≡ c) × (b ≡ d)
same_split byte [] b [] d first also e = (refl, ap (λ (l : List ℕ). drop 1 l) e)
same_split byte [] b (y ∷ c) d first also e =
    absurd (also 0 (omega arith) (sym (ap (λ (l : List ℕ). slice_index l 0) e)))
same_split byte (x ∷ a) b [] d first also e =
    absurd (first 0 (omega arith) (ap (λ (l : List ℕ). slice_index l 0) e))
same_split byte (x ∷ a) b (y ∷ c) d first also e =
    let same : x ≡ y = ap (λ (l : List ℕ). slice_index l 0) e in
    let rest = same_split byte a b c d (λ i below. first (suc i) (omega (arith, below)))
    (λ i below. also (suc i) (omega (arith, below))) (ap (λ (l : List ℕ). drop 1 l) e) in
    ((λ i. same i ∷ rest.0 i), rest.1)

-- no digit is a quotation mark
digits_plain : (digits : List ℕ) → AllDigits 10 digits → Lacks 34 digits
digits_plain [] all i below = absurd (omega (arith, below))
digits_plain (d ∷ digits) all zero below = λ e. omega (arith, digit_from_value d all.0, e)
digits_plain (d ∷ digits) all (suc i) below = digits_plain digits all.1 i (omega (arith, below))

pub decimal_plain : (n : ℕ) → n < 2 ^ 64 → Lacks 34 (decimal_of n)
decimal_plain n fits = digits_plain (decimal_of n) (decimal_is_IsNumeral n fits).0.1

-- what stands behind the brace
abbrev pub front : List ℕ
front = codes "\"clock\":\""

-- a reply tells one clock
pub one_clock : (reply : List ℕ) (a b : ℕ) → TellsClock reply a → TellsClock reply b → a ≡ b
one_clock reply a b first other =
    let texts = ap (λ (l : List ℕ). drop 9 l)
    (same_split 123 first.head (front ++ (decimal_of a ++ 34 ∷ first.rest)) other.head (front ++ (decimal_of b ++ 34 ∷ other.rest))
    first.plain other.plain (sym first.split ∙ other.split)).1 in
    decimal_injective a b first.fits other.fits
    (same_split 34 (decimal_of a) first.rest (decimal_of b) other.rest (decimal_plain a first.fits) (decimal_plain b other.fits) texts).0

-- a reply that has no brace tells none
pub has_brace : (reply : List ℕ) → Lacks 123 reply → (clock : ℕ) → TellsClock reply clock → ⊥
has_brace reply lacks clock tells =
    is_there 123 tells.head (front ++ (decimal_of clock ++ 34 ∷ tells.rest)) (subst (λ (l : List ℕ). Lacks 123 l) tells.split lacks)

module _ (reply head body : List ℕ) (split : IsSplit 123 reply head body) where
  pub body_of : (clock : ℕ) (tells : TellsClock reply clock)
      → body ≡ front ++ (decimal_of clock ++ 34 ∷ tells.rest)
  body_of clock tells =
      (same_split 123 head body tells.head (front ++ (decimal_of clock ++ 34 ∷ tells.rest)) split.first tells.plain
      (sym split.split ∙ tells.split)).1

  module _ (text : List ℕ) (is : body ≡ front ++ text) where
    text_of : (clock : ℕ) (tells : TellsClock reply clock) → text ≡ decimal_of clock ++ 34 ∷ tells.rest
    text_of clock tells = ap (λ (l : List ℕ). drop 9 l) (sym is ∙ body_of clock tells)

    -- one whose text has no quotation mark tells none
    pub has_quote : Lacks 34 text → (clock : ℕ) → TellsClock reply clock → ⊥
    has_quote lacks clock tells =
        is_there 34 (decimal_of clock) tells.rest (subst (λ (l : List ℕ). Lacks 34 l) (text_of clock tells) lacks)

    module _ (digits rest : List ℕ) (cut : IsSplit 34 text digits rest) where
      digits_of : (clock : ℕ) → TellsClock reply clock → digits ≡ decimal_of clock
      digits_of clock tells =
          (same_split 34 digits rest (decimal_of clock) tells.rest cut.first (decimal_plain clock tells.fits)
          (sym cut.split ∙ text_of clock tells)).0

      -- it tells the number that the digits are, if they are one
      pub told_by : (result : Option ℕ)
          → MatchOption result ((n : ℕ) → n < 2 ^ 64 → digits ≡ decimal_of n → ⊥)
          (λ n. (n < 2 ^ 64) × (digits ≡ decimal_of n))
          → MatchOption result ((clock : ℕ) → TellsClock reply clock → ⊥) (TellsClock reply)
      told_by None none = λ clock tells. none clock tells.fits (digits_of clock tells)
      told_by (Some n) found = record {
        head = head;
        rest = rest;
        plain = split.first;
        fits = found.0;
        split = split.split ∙ ap (λ (l : List ℕ). head ++ 123 ∷ l)
            (is ∙ ap (λ (l : List ℕ). front ++ l) (cut.split ∙ ap (λ (l : List ℕ). l ++ 34 ∷ rest) found.1));
      }
