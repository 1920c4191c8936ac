-- Numbers as bytes, with more behind them.
use Rattle.std.proofs.Common.{◌≡◌, ◌<◌, ◌^◌, ◌∙◌, ℕ, zero, suc, List, [], ◌∷◌, ◌++◌, length, get_or, take, drop, sym, ap, subst, arith, take-append-drop}
use Rattle.std.specs.Int.{w32, w64, to_le_bytes, from_le_bytes}
use Rattle.std.proofs.lemmas.Nat.{le_bytes_4, le_bytes_8, from_le_bytes-to_le_bytes_4, from_le_bytes-to_le_bytes_8}

-- of bytes the first are bytes
pub small_front : (n : ℕ) (bytes : List ℕ) → ((i : ℕ) → get_or bytes i 0 < 256)
    → (i : ℕ) → get_or (take n bytes) i 0 < 256
small_front zero bytes small i = omega arith
small_front (suc n) [] small i = omega arith
small_front (suc n) (b ∷ bytes) small zero = small 0
small_front (suc n) (b ∷ bytes) small (suc i) = small_front n bytes (λ j. small (suc j)) i

-- what is made of the first bytes is a number, and the rest stands behind it
pub four_and_rest : (bytes first rest : List ℕ) (n : ℕ) → length first ≡ 4
    → ((i : ℕ) → get_or bytes i 0 < 256) → n ≡ from_le_bytes w32 first
    → first ≡ take 4 bytes → rest ≡ drop 4 bytes → bytes ≡ to_le_bytes w32 n ++ rest
four_and_rest bytes first rest n four small is front back =
    let front_small = subst (λ (l : List ℕ). (i : ℕ) → get_or l i 0 < 256) (sym front) (small_front 4 bytes small) in
    let number : to_le_bytes w32 n ≡ take 4 bytes = le_bytes_4 first n four front_small is ∙ front in
    let both : to_le_bytes w32 n ++ rest ≡ take 4 bytes ++ drop 4 bytes = (λ i. number i ++ back i) in
    sym (both ∙ take-append-drop 4 bytes)

pub eight_and_rest : (bytes first rest : List ℕ) (n : ℕ) → length first ≡ 8
    → ((i : ℕ) → get_or bytes i 0 < 256) → n ≡ from_le_bytes w64 first
    → first ≡ take 8 bytes → rest ≡ drop 8 bytes → bytes ≡ to_le_bytes w64 n ++ rest
eight_and_rest bytes first rest n eight small is front back =
    let front_small = subst (λ (l : List ℕ). (i : ℕ) → get_or l i 0 < 256) (sym front) (small_front 8 bytes small) in
    let number : to_le_bytes w64 n ≡ take 8 bytes = le_bytes_8 first n eight front_small is ∙ front in
    let both : to_le_bytes w64 n ++ rest ≡ take 8 bytes ++ drop 8 bytes = (λ i. number i ++ back i) in
    sym (both ∙ take-append-drop 8 bytes)

-- one beginning of bytes is one number, and the same stands behind it
pub same_four : (m n : ℕ) (xs ys : List ℕ) → m < 2 ^ 32 → n < 2 ^ 32
    → to_le_bytes w32 m ++ xs ≡ to_le_bytes w32 n ++ ys → (m ≡ n) × (xs ≡ ys)
same_four m n xs ys fits also e =
    let front : to_le_bytes w32 m ≡ to_le_bytes w32 n = ap (λ (l : List ℕ). take 4 l) e in (
      sym (from_le_bytes-to_le_bytes_4 m fits) ∙ ap (λ (l : List ℕ). from_le_bytes w32 l) front
          ∙ from_le_bytes-to_le_bytes_4 n also,
      ap (λ (l : List ℕ). drop 4 l) e,
    )

pub same_eight : (m n : ℕ) (xs ys : List ℕ) → m < 2 ^ 64 → n < 2 ^ 64
    → to_le_bytes w64 m ++ xs ≡ to_le_bytes w64 n ++ ys → (m ≡ n) × (xs ≡ ys)
same_eight m n xs ys fits also e =
    let front : to_le_bytes w64 m ≡ to_le_bytes w64 n = ap (λ (l : List ℕ). take 8 l) e in (
      sym (from_le_bytes-to_le_bytes_8 m fits) ∙ ap (λ (l : List ℕ). from_le_bytes w64 l) front
          ∙ from_le_bytes-to_le_bytes_8 n also,
      ap (λ (l : List ℕ). drop 8 l) e,
    )
