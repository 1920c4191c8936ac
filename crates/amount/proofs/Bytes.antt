-- A number's lowest bytes, the greatest first: the number that they write, and their order.
use Rattle.std.proofs.Common.{◌≡◌, ℕ, zero-add, zero, suc, ◌+◌, ◌*◌, ◌/◌, ◌%◌, ◌^◌, ◌<◌, List, [], ◌∷◌, length, get_or, ◌⊎◌, inl, inr, Less, Equal, Greater, refl, sym, ap, ◌∙◌, arith}
use Rattle.std.specs.Int.{byte_at, bytes_high_first, from_be_bytes, to_be_bytes, w128}
use Rattle.std.specs.Int.Digits.{number_from_digits_after, number_from_digits, AllBelowBase}
use Rattle.std.specs.Ordering.{nat_cmp, ordering_then}
use Rattle.std.specs.Cmp.{nat_cmp_is}
use Rattle.std.specs.Cmp.Lexicographic.{slice_cmp}
use Rattle.std.proofs.lemmas.Bool.{cases_order}
use Rattle.std.proofs.lemmas.Int.Digits.{number_after_lt}
use Rattle.std.proofs.lemmas.Nat.{div-mul-add, mod-mul-add, mul-add-lt, mod_below}
use Rattle.std.proofs.Math.Nat.{pow-suc, mul-le-mul_right, div-add-mod, one-le-pow}
use Rattle.std.proofs.Math.Logic.{⊎_elim}

pub byte_at_is : (i n : ℕ) → byte_at i n ≡ n / 256 ^ i % 256
byte_at_is zero n = omega arith
byte_at_is (suc i) n = refl

one_more : (n d p t : ℕ) → (n * 256 + d) * p + t ≡ n * (p * 256) + (d * p + t)
one_more n d p t = grind arith

-- a number is its first digits, and then its last ones
number_after_is : (n : ℕ) (ds : List ℕ) → number_from_digits_after 256 n ds ≡ n * 256 ^ length ds + number_from_digits 256 ds
number_after_is n [] = omega arith
number_after_is n (d ∷ ds) =
    let p : ℕ = 256 ^ length ds in
    let t : ℕ = number_from_digits 256 ds in
    number_after_is (n * 256 + d) ds ∙ one_more n d p t
    ∙ (λ i. n * sym (pow-suc 256 (length ds)) i + sym (number_after_is (0 + d) ds ∙ ap (λ x. x * p + t) (zero-add d)) i)

-- bytes are those of the number that they write, whatever stands before them
pub bytes_high_first-number_after : (n : ℕ) (ds : List ℕ) → AllBelowBase 256 ds → bytes_high_first (length ds) (number_from_digits_after 256 n ds) ≡ ds
bytes_high_first-number_after n [] h = refl
bytes_high_first-number_after n (d ∷ ds) h =
    let k : ℕ = length ds in
    let rest : number_from_digits 256 ds < 256 ^ k = omega (arith, number_after_lt 256 0 ds h.1) in
    let first : byte_at k (number_from_digits_after 256 (n * 256 + d) ds) ≡ d =
    byte_at_is k _ ∙ ap (λ x. x / 256 ^ k % 256) (number_after_is (n * 256 + d) ds)
    ∙ ap (λ x. x % 256) (div-mul-add (n * 256 + d) (256 ^ k) (number_from_digits 256 ds) rest) ∙ mod-mul-add n 256 d h.0 in
    λ i. first i ∷ bytes_high_first-number_after (n * 256 + d) ds h.1 i

-- numbers of two digits come in the order of their first digits, and then of their second
nat_cmp-mul-add : (a b r s p : ℕ) → r < p → s < p → nat_cmp (a * p + r) (b * p + s) ≡ ordering_then (nat_cmp a b) (nat_cmp r s)
nat_cmp-mul-add a b r s p below under =
    ⊎_elim
    (λ same. sym (rw (← nat_cmp_is a b Equal same) (second same (cases_order r s))))
    (⊎_elim
    (λ less. sym (nat_cmp_is (a * p + r) (b * p + s) Less (omega (arith, mul-le-mul_right p less))) ∙ sym (rw (← nat_cmp_is a b Less less) refl))
    (λ more. sym (nat_cmp_is (a * p + r) (b * p + s) Greater (omega (arith, mul-le-mul_right p more))) ∙ sym (rw (← nat_cmp_is a b Greater more) refl)))
    (cases_order a b)
  where
    second : a ≡ b → (r ≡ s) ⊎ ((r < s) ⊎ (s < r)) → nat_cmp r s ≡ nat_cmp (a * p + r) (b * p + s)
    second same (inl e) = sym (nat_cmp_is r s Equal e) ∙ nat_cmp_is (a * p + r) (b * p + s) Equal (omega (arith, ap (λ x. x * p) same))
    second same (inr (inl l)) = sym (nat_cmp_is r s Less l) ∙ nat_cmp_is (a * p + r) (b * p + s) Less (omega (arith, ap (λ x. x * p) same))
    second same (inr (inr l)) = sym (nat_cmp_is r s Greater l) ∙ nat_cmp_is (a * p + r) (b * p + s) Greater (omega (arith, ap (λ x. x * p) same))

spread : (p h b r : ℕ) → p * (256 * h + b) + r ≡ h * (256 * p) + (b * p + r)
spread p h b r = grind arith

-- a number's last k + 1 bytes are the first of them, and then its last k
mod-pow-suc : (k n : ℕ) → n % 256 ^ suc k ≡ byte_at k n * 256 ^ k + n % 256 ^ k
mod-pow-suc k n =
    let p : ℕ = 256 ^ k in
    let some : 0 < p = one-le-pow k 256 (omega arith) in
    let high : ℕ = n / p / 256 in
    let first : byte_at k n ≡ n / p % 256 = byte_at_is k n in
    let low : n % p < p = mod_below n p some in
    let size : 256 ^ suc k ≡ 256 * p = omega (arith, pow-suc 256 k) in
    let fits : byte_at k n * p + n % p < 256 * p = omega (arith, mul-add-lt (byte_at k n) p (n % p) 256 (omega arith) low) in
    let whole : n ≡ high * (256 * p) + (byte_at k n * p + n % p) =
    sym (div-add-mod n p) ∙ ap (λ x. p * x + n % p) (sym (div-add-mod (n / p) 256) ∙ ap (λ x. 256 * high + x) (sym first)) ∙ spread p high (byte_at k n) (n % p) in
    ap (λ x. n % x) size ∙ ap (λ x. x % (256 * p)) whole ∙ mod-mul-add high (256 * p) (byte_at k n * p + n % p) fits

-- the order of the last k bytes is the order of the numbers that they write
pub slice_cmp-bytes_high_first : (k m n : ℕ) → slice_cmp nat_cmp (bytes_high_first k m) (bytes_high_first k n) ≡ nat_cmp (m % 256 ^ k) (n % 256 ^ k)
slice_cmp-bytes_high_first zero m n = nat_cmp_is (m % 1) (n % 1) Equal (omega arith)
slice_cmp-bytes_high_first (suc k) m n =
    let some : 0 < 256 ^ k = one-le-pow k 256 (omega arith) in
    ap (λ o. ordering_then (nat_cmp (byte_at k m) (byte_at k n)) o) (slice_cmp-bytes_high_first k m n)
    ∙ sym (nat_cmp-mul-add (byte_at k m) (byte_at k n) (m % 256 ^ k) (n % 256 ^ k) (256 ^ k) (mod_below m (256 ^ k) some) (mod_below n (256 ^ k) some))
    ∙ (λ i. nat_cmp (sym (mod-pow-suc k m) i) (sym (mod-pow-suc k n) i))

-- sixteen bytes write the same number to both definitions
pub from_be_bytes-number_from_digits : (bs : List ℕ) → length bs ≡ 16 → from_be_bytes w128 bs ≡ number_from_digits 256 bs
from_be_bytes-number_from_digits (a ∷ b ∷ c ∷ d ∷ e ∷ f ∷ g ∷ h ∷ i ∷ j ∷ k ∷ l ∷ m ∷ n ∷ o ∷ p ∷ []) size = omega arith
from_be_bytes-number_from_digits _ size = absurd (omega arith)

bytes_below : (bs : List ℕ) → ((i : ℕ) → get_or bs i 0 < 256) → AllBelowBase 256 bs
bytes_below [] h = tt
bytes_below (b ∷ bs) h = (h 0, bytes_below bs (λ i. h (suc i)))

-- the sixteen bytes of the number that sixteen bytes write are those bytes
pub be_bytes_16 : (bs : List ℕ) (n : ℕ) → length bs ≡ 16 → ((i : ℕ) → get_or bs i 0 < 256) → n ≡ from_be_bytes w128 bs → to_be_bytes w128 n ≡ bs
be_bytes_16 bs n size small is =
    ap (bytes_high_first 16) (is ∙ from_be_bytes-number_from_digits bs size)
    ∙ ap (λ k. bytes_high_first k (number_from_digits 256 bs)) (sym size) ∙ bytes_high_first-number_after 0 bs (bytes_below bs small)
