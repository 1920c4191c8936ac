-- Columns come in the order of their amounts, and so no two amounts share one.
use Rattle.std.proofs.Common.{◌≡◌, ℕ, ◌%◌, ◌^◌, ◌<◌, length, Equal, refl, sym, ap, ◌∙◌, arith}
use Rattle.std.specs.Ordering.{nat_cmp}
use Rattle.std.specs.Cmp.{nat_cmp_is}
use Rattle.std.specs.Cmp.Lexicographic.{slice_cmp}
use Rattle.std.proofs.lemmas.Cmp.{ranked}
use Rattle.amount.specs.Column.{column_of}
use Rattle.amount.proofs.Bytes.{slice_cmp-bytes_high_first}

pub length-column_of : (n : ℕ) → length (column_of n) ≡ 16
unfolding column_of
length-column_of n = refl

mod-below : (n : ℕ) → n < 2 ^ 128 → n % 256 ^ 16 ≡ n
mod-below n h = omega arith

pub slice_cmp-column_of : (a b : ℕ) → a < 2 ^ 128 → b < 2 ^ 128 → slice_cmp nat_cmp (column_of a) (column_of b) ≡ nat_cmp a b
unfolding column_of
slice_cmp-column_of a b p q = slice_cmp-bytes_high_first 16 a b ∙ (λ i. nat_cmp (mod-below a p i) (mod-below b q i))

pub column_of-injective : (a b : ℕ) → a < 2 ^ 128 → b < 2 ^ 128 → column_of a ≡ column_of b → a ≡ b
column_of-injective a b p q e =
    let same : nat_cmp a b ≡ Equal =
    sym (slice_cmp-column_of a b p q) ∙ ap (λ x. slice_cmp nat_cmp x (column_of b)) e
    ∙ slice_cmp-column_of b b q q ∙ sym (nat_cmp_is b b Equal refl) in
    ranked a b Equal (sym same)
