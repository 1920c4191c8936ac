-- The clock in a reply to a batch.
use Rattle.std.specs.Prelude.{◌≡◌, ◌≢◌, ◌<◌, ◌^◌, ℕ, List, ◌∷◌, ◌++◌, length, slice_index, codes}
use Rattle.amount.specs.Decimal.{decimal_of}

-- the byte is not among these
abbrev pub Lacks : ℕ → List ℕ → Type 0
Lacks byte bytes = (i : ℕ) → i < length bytes → slice_index bytes i ≢ byte

-- what stands before the first such byte, and behind it
pub record IsSplit (byte : ℕ) (bytes front rest : List ℕ) : Type 0 where
  pub first : Lacks byte front
  pub split : bytes ≡ front ++ byte ∷ rest

-- the body begins with the clock, and no brace stands before the body
pub record TellsClock (reply : List ℕ) (clock : ℕ) : Type 0 where
  pub head : List ℕ
  pub rest : List ℕ
  pub plain : Lacks 123 head
  pub fits : clock < 2 ^ 64
  pub split : reply ≡ head ++ 123 ∷ (codes "\"clock\":\"" ++ (decimal_of clock ++ 34 ∷ rest))
