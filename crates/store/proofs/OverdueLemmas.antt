-- What is told where no tenant is.
use Rattle.std.proofs.Common.{◌≡◌, ◌⊎◌, inl, inr, ℤ, Option, None, Result, Ok, Err}
use Rattle.std.specs.Prelude.{IfOk}

-- of a number that is missing, more may be known
pub told_so : {F E P : Type 0} (A : Type 0) (W : ℤ → P → Type 0) (M N : ℤ → Type 0)
    → ((n : ℤ) → M n → N n) → (result : Result (Option F) E)
    → IfOk result (λ found. found ≡ None
    → A ⊎ ((number : ℤ) × (piece : P) × W number piece × M number))
    → IfOk result (λ found. found ≡ None
    → A ⊎ ((number : ℤ) × (piece : P) × W number piece × N number))
told_so A W M N leads (Ok found) told = λ none. elim (told none) [
  | inl passed ↦ inl passed
  | inr some ↦ inr (some.0, some.1, some.2, leads some.0 some.3)
]
told_so A W M N leads (Err why) told = tt
