-- What a head is, in parts.
use Rattle.std.proofs.Common.{◌≡◌, ◌<◌, ◌^◌, ◌∙◌, ℕ, List, ◌++◌, length, take, drop, sym, ap, subst, arith}
use Rattle.std.specs.Prelude.{codes}
use Rattle.std.specs.Int.{w32, w64, to_le_bytes}
use Rattle.sqlite_disk.specs.Digest.{digest}
use Rattle.file_sums.specs.Bytes.{head_of, head_seal}
use Rattle.file_sums.specs.Sums.{HasHead}
use Rattle.file_sums.proofs.Numbers.{same_four, same_eight}

-- the name, and the version
abbrev pub name : List ℕ
name = codes "LDGRSUMS" ++ to_le_bytes w32 1

-- bytes that were read in parts
pub record AreParts (bytes : List ℕ) (page_size key seal : ℕ) (rest : List ℕ) : Type 0 where
  pub second : List ℕ
  pub third : List ℕ
  pub fourth : List ℕ
  pub at_0 : bytes ≡ name ++ second
  pub at_12 : second ≡ to_le_bytes w32 page_size ++ third
  pub at_16 : third ≡ to_le_bytes w64 key ++ fourth
  pub at_24 : fourth ≡ to_le_bytes w64 seal ++ rest

module _ (bytes : List ℕ) (page_size key seal : ℕ) (rest : List ℕ) (parts : AreParts bytes page_size key seal rest) where
  -- they are a head before its seal, the seal, and the rest
  pub joined : bytes ≡ head_of page_size key ++ (to_le_bytes w64 seal ++ rest)
  joined =
      parts.at_0 ∙ ap (λ (l : List ℕ). name ++ l) (parts.at_12 ∙ ap (λ (l : List ℕ). to_le_bytes w32 page_size ++ l)
      (parts.at_16 ∙ ap (λ (l : List ℕ). to_le_bytes w64 key ++ l) parts.at_24))

  -- the first 24 are the head before its seal
  pub front : take 24 bytes ≡ head_of page_size key
  front = ap (λ (l : List ℕ). take 24 l) joined

  pub long : 24 < length bytes
  long = omega (arith, ap length joined)

  -- a head that is there has the right seal
  pub right_seal : page_size < 2 ^ 32 → key < 2 ^ 64 → seal < 2 ^ 64 → digest key (head_of page_size key) < 2 ^ 64
      → HasHead bytes → seal ≡ digest key (head_of page_size key)
  right_seal size_fits key_fits seal_fits sum_fits has =
      let same : head_of page_size key ++ (to_le_bytes w64 seal ++ rest)
      ≡ head_of has.page_size has.key ++ to_le_bytes w64 (head_seal has.page_size has.key) ++ has.rest = sym joined ∙ has.split in
      let behind : to_le_bytes w32 page_size ++ (to_le_bytes w64 key ++ (to_le_bytes w64 seal ++ rest))
      ≡ to_le_bytes w32 has.page_size ++ (to_le_bytes w64 has.key ++ (to_le_bytes w64 (head_seal has.page_size has.key) ++ has.rest)) =
      ap (λ (l : List ℕ). drop 12 l) same in
      let of_size = same_four page_size has.page_size (to_le_bytes w64 key ++ (to_le_bytes w64 seal ++ rest))
      (to_le_bytes w64 has.key ++ (to_le_bytes w64 (head_seal has.page_size has.key) ++ has.rest)) size_fits has.size_fits behind in
      let of_key = same_eight key has.key (to_le_bytes w64 seal ++ rest)
      (to_le_bytes w64 (head_seal has.page_size has.key) ++ has.rest) key_fits has.key_fits of_size.1 in
      let sums : digest key (head_of page_size key) ≡ head_seal has.page_size has.key =
      (λ i. digest (of_key.0 i) (head_of (of_size.0 i) (of_key.0 i))) in
      let fits : head_seal has.page_size has.key < 2 ^ 64 = subst (λ (n : ℕ). n < 2 ^ 64) sums sum_fits in
      (same_eight seal (head_seal has.page_size has.key) rest has.rest seal_fits fits of_key.1).0 ∙ sym sums
