-- The decimal text of an amount is the one text of digits with no idle zero that reads as the amount.
use Rattle.std.proofs.Common.{◌≡◌, ◌≢◌, ℕ, ◌+◌, ◌*◌, ◌/◌, ◌%◌, ◌^◌, ◌<◌, ◌≤◌, List, [], ◌∷◌, ◌++◌, inl, inr, Option, None, Some, Result, Ok, Err, IfSome, IfNone, subst, length, get_or, append_assoc, append-nil, length-append, sym, ap, ◌∙◌, arith}
use Rattle.std.specs.Char.{digit_value}
use Rattle.std.specs.Fmt.{decimal}
use Rattle.amount.specs.Decimal.{HasIdleFront}
use Rattle.std.specs.Result.{result_ok}
use Rattle.std.proofs.Math.Logic.{⊎_elim}
use Rattle.std.specs.Str.Parse.{ParsesUnsigned, AllDigits, digits_value_after, digits_value}
use Rattle.std.proofs.lemmas.Fmt.{decimal_digit, decimal_step_wide, decimal_by_steps_wide, parse-decimal_wide}
use Rattle.std.proofs.lemmas.Bool.{cases_lt, cases_eq}
use Rattle.std.proofs.Math.ListN.{get_or-append}
use Rattle.std.proofs.lemmas.Str.{digit_value_digit}
use Rattle.std.proofs.lemmas.Str.Parse.{digit_from_value, parse_plain, numerals_by_value, tells_digits}

le_value_after : (n : ℕ) (ds : List ℕ) → n ≤ digits_value_after 10 n ds
le_value_after n [] = omega arith
le_value_after n (c ∷ cs) = omega (arith, le_value_after (n * 10 + digit_value c) cs)

decimal_value_after : (n : ℕ) (ds : List ℕ) → 0 < n → AllDigits 10 ds → digits_value_after 10 n ds < 2 ^ 128 → decimal (digits_value_after 10 n ds) ≡ decimal n ++ ds
decimal_value_after n [] some d small = sym (append-nil (decimal n))
decimal_value_after n (c ∷ cs) some d small =
    let m : ℕ = n * 10 + digit_value c in
    let k = digit_value_digit c (digit_from_value c d.0) in
    let front : m / 10 ≡ n = omega (arith, d.0) in
    let end : 48 + m % 10 ≡ c = omega (arith, d.0) in
    decimal_value_after m cs (omega arith) d.1 small
    ∙ ap (λ x. x ++ cs) (decimal_step_wide m (omega arith) (omega (arith, le_value_after m cs)) ∙ (λ i. decimal (front i) ++ (end i ∷ [])))
    ∙ append_assoc (decimal n) (c ∷ []) cs

-- digits with no zero in front of another digit are the decimal text of the number that they write
pub decimal-digits_value_wide : (ds : List ℕ) → AllDigits 10 ds → 0 < length ds → (get_or ds 0 0 ≡ 48 → length ds ≡ 1) → digits_value 10 ds < 2 ^ 128 → decimal (digits_value 10 ds) ≡ ds
decimal-digits_value_wide [] d some lead small = absurd (omega arith)
decimal-digits_value_wide (c ∷ []) d some lead small =
    let k = digit_value_digit c (digit_from_value c d.0) in
    decimal_digit (0 * 10 + digit_value c) (omega (arith, d.0)) ∙ ap (λ x. x ∷ []) (omega arith)
decimal-digits_value_wide (c ∷ e ∷ cs) d some lead small =
    let k = digit_value_digit c (digit_from_value c d.0) in
    let no : c ≢ 48 = λ z. omega (arith, lead z) in
    let is : 48 + (0 * 10 + digit_value c) ≡ c = omega arith in
    decimal_value_after (0 * 10 + digit_value c) (e ∷ cs) (omega arith) d.1 small
    ∙ ap (λ x. x ++ (e ∷ cs)) (decimal_digit (0 * 10 + digit_value c) (omega (arith, d.0)) ∙ ap (λ x. x ∷ []) is)

first_digit : (n : ℕ) → n < 10 ^ 64 → (0 < length (decimal n)) × (0 < n → 48 < get_or (decimal n) 0 0)
first_digit = decimal_by_steps_wide
    (λ m ds. (0 < length ds) × (0 < m → 48 < get_or ds 0 0))
    (λ m l. (omega arith, λ a. omega arith))
    (λ m ds l h.
    let end : List ℕ = (48 + m % 10) ∷ [] in
    (omega (arith, length-append ds end), λ a. omega (arith, get_or-append ds end 0 0 h.0, h.1 (omega arith))))

-- no amount's decimal text has an idle front
pub no_idle_front : (n : ℕ) → n < 2 ^ 128 → ¬ (HasIdleFront (decimal n))
no_idle_front n small front =
    ⊎_elim
    (λ zero. let e = decimal_digit n (omega arith) in ⊎_elim
    (λ plus. omega (arith, ap (λ x. get_or x 0 0) e))
    (λ more. omega (arith, ap length e, more.1))
    front)
    (λ some. let first = (first_digit n (omega arith)).1 (omega arith) in ⊎_elim (λ plus. omega arith) (λ more. omega (arith, more.0)) front)
    (cases_eq n 0)

-- what `parse` reads of a text with no idle front is written by that text
pub text_from_read : {E : Type 0} (text : List ℕ) (r : Result ℕ E) (o : Option ℕ) → ParsesUnsigned 128 10 text r → ¬ (HasIdleFront text) → o ≡ result_ok r → IfSome o (λ n. text ≡ decimal n)
text_from_read {E} text r o h plain is = subst (λ x. IfSome x (λ n. text ≡ decimal n)) (sym is) (parsed r h)
  where
    one : 0 < length text → get_or text 0 0 ≡ 48 → length text ≡ 1
    one some lead = ⊎_elim (λ more. absurd (plain (inr (lead, more)))) (λ few. omega arith) (cases_lt 1 (length text))

    parsed : (r : Result ℕ E) → ParsesUnsigned 128 10 text r → IfSome (result_ok r) (λ n. text ≡ decimal n)
    parsed (Ok n) h =
        let read = parse_plain (numerals_by_value _ tells_digits) {E = E} 128 text (Ok n) h (λ plus. plain (inl plus)) in
        sym (ap decimal read.1 ∙ decimal-digits_value_wide text read.0.0 read.0.1 (one read.0.1) read.0.2)
    parsed (Err e) h = tt

-- `parse` reads an amount's text
pub read_from_text : {E : Type 0} (text : List ℕ) (r : Result ℕ E) (o : Option ℕ) → ParsesUnsigned 128 10 text r → o ≡ result_ok r → (n : ℕ) → n < 2 ^ 128 → text ≡ decimal n → o ≡ Some n
read_from_text text r o h is n small written = is ∙ ap result_ok (parse-decimal_wide 128 n text r small (omega arith) written h)

-- what is not read is no amount's text
pub unread : (text : List ℕ) (o : Option ℕ) → ((n : ℕ) → n < 2 ^ 128 → text ≡ decimal n → o ≡ Some n) → IfNone o ((n : ℕ) → n < 2 ^ 128 → text ≢ decimal n)
unread text None h = λ n small written. let no : None ≡ Some n = h n small written in cc
unread text (Some m) h = tt
