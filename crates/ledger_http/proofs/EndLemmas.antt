-- Where a head ends, told by the beginnings of the bytes.
use Rattle.std.proofs.Common.{◌≡◌, ◌≢◌, refl, ap, sym, ◌∙◌, ⊎_elim, if◌then◌else◌, ◌≤◌, ◌<◌, ◌+◌, ◌-◌, zero, suc, Bool, true, false, ℕ, List, [], ◌∷◌, length, take, drop, Option, Some, None, option_map, ok_or, Ok, Err, min, nat_eq, nat_lt, arith}
use Rattle.std.proofs.lemmas.Bool.{cases_lt}
use Rattle.std.proofs.lemmas.List.{length-take-le, drop-take, length-drop, length-take, take_min}
use Rattle.std.specs.List.{starts_with, ends_with}
use Rattle.std.specs.Cmp.Lexicographic.{pointwise, unequal}
use Rattle.ledger_http.specs.declared.refusal.Refusal.TheVariants.{Truncated, HeadTooLarge}
use Rattle.ledger_http.specs.Limits.{max_head}
use Rattle.ledger_http.specs.Message.{blank_line, end_of_head, length_of_head}

-- a text that is too short does not begin with a blank line
pub short_start : (bytes : List ℕ) → length bytes < 4 → starts_with nat_eq bytes blank_line ≡ false
short_start bytes few =
    let other : length blank_line ≢ length (take 4 bytes) = λ e. absurd (omega (arith, e, length-take 4 bytes)) in
    unequal nat_eq blank_line (take 4 bytes) other

-- and does not end with one
short_end : (bytes : List ℕ) → length bytes < 4 → ends_with nat_eq bytes blank_line ≡ false
short_end bytes few =
    let other : length blank_line ≢ length (drop (length bytes - 4) bytes) =
    λ e. absurd (omega (arith, e, length-drop (length bytes - 4) bytes)) in
    unequal nat_eq blank_line (drop (length bytes - 4) bytes) other

-- a beginning ends with a blank line where one begins in front of it
ends-starts : (bytes : List ℕ) (n : ℕ) → n + 4 ≤ length bytes
    → ends_with nat_eq (take (n + 4) bytes) blank_line ≡ starts_with nat_eq (drop n bytes) blank_line
ends-starts bytes n fits =
    let size : length (take (n + 4) bytes) - 4 ≡ n = omega (arith, length-take-le (n + 4) bytes fits) in
    ap (λ k. pointwise nat_eq blank_line (drop k (take (n + 4) bytes))) size
    ∙ ap (pointwise nat_eq blank_line) (drop-take n 4 bytes)

-- one byte more in front
one_more : (bytes : List ℕ) (b : Bool) (end : Option ℕ) → b ≡ false
    → (if b then Some 4 else end) ≡ end
one_more bytes b end is_no = ap (λ v. if v then Some 4 else end) is_no

-- the first blank line ends the head
first_start : (bytes : List ℕ) (n : ℕ) → starts_with nat_eq (drop n bytes) blank_line ≡ true
    → ((i : ℕ) → i < n → starts_with nat_eq (drop i bytes) blank_line ≡ false)
    → end_of_head bytes ≡ Some (n + 4)
first_start [] zero here before = cc
first_start [] (suc n) here before = cc
first_start (b ∷ bytes) zero here before = ap (λ v. if v then Some 4 else option_map suc (end_of_head bytes)) here
first_start (b ∷ bytes) (suc n) here before =
    one_more bytes _ _ (before 0 (omega arith))
    ∙ ap (option_map suc) (first_start bytes n here (λ i below. before (suc i) (omega arith)))
    ∙ ap (λ k. Some k) (omega arith)

-- with no blank line there is no end
no_start : (bytes : List ℕ) → ((i : ℕ) → starts_with nat_eq (drop i bytes) blank_line ≡ false)
    → end_of_head bytes ≡ None
no_start [] none = refl
no_start (b ∷ bytes) none =
    one_more bytes _ _ (none 0) ∙ ap (option_map suc) (no_start bytes (λ i. none (suc i)))

-- the shortest beginning that ends with a blank line is the head
pub end_of_head-first : (bytes : List ℕ) (n : ℕ) → n ≤ length bytes
    → ends_with nat_eq (take n bytes) blank_line ≡ true
    → ((j : ℕ) → j < n → ends_with nat_eq (take j bytes) blank_line ≡ false)
    → end_of_head bytes ≡ Some n
end_of_head-first bytes n fits here before =
    let size = length-take-le n bytes fits in
    ⊎_elim
    (λ (few : n < 4). let refused = short_end (take n bytes) (omega arith) in cc)
    (λ (enough : 4 ≤ n).
    let k : n - 4 + 4 ≡ n = omega arith in
    first_start bytes (n - 4)
    (sym (ends-starts bytes (n - 4) (omega arith))
    ∙ ap (λ m. ends_with nat_eq (take m bytes) blank_line) k ∙ here)
    (λ i below. sym (ends-starts bytes i (omega arith)) ∙ before (i + 4) (omega arith))
    ∙ ap (λ m. Some m) k)
    (cases_lt n 4)

-- with no such beginning there is none
pub end_of_head-none : (bytes : List ℕ)
    → ((j : ℕ) → j ≤ length bytes → ends_with nat_eq (take j bytes) blank_line ≡ false)
    → end_of_head bytes ≡ None
end_of_head-none bytes none =
    no_start bytes (λ i. ⊎_elim
    (λ (few : length bytes < i + 4). short_start (drop i bytes) (omega (arith, length-drop i bytes)))
    (λ (enough : i + 4 ≤ length bytes). sym (ends-starts bytes i enough) ∙ none (i + 4) enough)
    (cases_lt (length bytes) (i + 4)))

-- the bytes in which a head has to end
front_is : (bytes : List ℕ) (m : ℕ) → m ≡ min max_head (length bytes) → take m bytes ≡ take max_head bytes
front_is bytes m e = ap (λ k. take k bytes) e ∙ take_min max_head bytes

pub length_of_head-ended : (bytes : List ℕ) (n m : ℕ) → m ≡ min max_head (length bytes)
    → Some n ≡ end_of_head (take m bytes) → Ok n ≡ length_of_head bytes
length_of_head-ended bytes n m e ends =
    ap (λ end. ok_or end (if nat_lt (length bytes) max_head then Truncated else HeadTooLarge))
    (ends ∙ ap end_of_head (front_is bytes m e))

-- no end so far
pub length_of_head-open : (bytes : List ℕ) (m : ℕ) → m ≡ min max_head (length bytes)
    → None ≡ end_of_head (take m bytes)
    → Err (if nat_lt (length bytes) max_head then Truncated else HeadTooLarge) ≡ length_of_head bytes
length_of_head-open bytes m e ends =
    ap (λ end. ok_or end (if nat_lt (length bytes) max_head then Truncated else HeadTooLarge))
    (ends ∙ ap end_of_head (front_is bytes m e))
