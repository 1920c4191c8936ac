use Rattle.std.specs.Prelude.{◌≡◌, ℕ, ◌-◌, ◌≤◌, List, ◌++◌, length, take, replicate}
use Rattle.std.proofs.Common.{ap, sym, ◌∙◌, length-take-le}
use Rattle.tenants.specs.NameText.{IsTenantName}

-- the first `len` of the bytes are a name, and zeros follow up to 64
pub record IsPaddedName (bytes : List ℕ) (len : ℕ) : Type 0 where
  pub name : IsTenantName (take len bytes)
  pub within : len ≤ length bytes
  pub zeros : bytes ≡ take len bytes ++ replicate (64 - len) 0

-- the name alone gives back the bytes that hold it
pub padded-take : (bytes : List ℕ) (len : ℕ) → IsPaddedName bytes len
    → take len bytes ++ replicate (64 - length (take len bytes)) 0 ≡ bytes
padded-take bytes len h =
    ap (λ n. take len bytes ++ replicate (64 - n) 0) (length-take-le len bytes h.within)
    ∙ sym h.zeros
