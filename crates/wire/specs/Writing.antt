-- What a writer of JSON has taken.
use Rattle.std.specs.Prelude.{◌≡◌, ◌∷◌, ◌++◌, [], ℕ, ⊤, List, OnOk, Result}
use Rattle.json.specs.Token.{Token, key}
use Rattle.json.specs.Tree.{json_tokens}
use Rattle.json.specs.Written.{Written}
use Rattle.serde_json.specs.Data.{Data}
use Rattle.serde_json.specs.Written.{outline}

-- it has these tokens behind those before, and what stood before all of them is the same
pub record AddsTokens {E : Type 0} (tokens : List Token) (old new : Written) (result : Result ⊤ E)
    : Type 0 where
  pub ok : OnOk result (new.tokens ≡ old.tokens ++ tokens)
  pub before : new.before ≡ old.before

-- the same of the tokens of a value
abbrev pub AddsData : {E : Type 0} → Data → Written → Written → Result ⊤ E → Type 0
AddsData d old new result = AddsTokens (json_tokens (outline d)) old new result

-- the tokens of members
abbrev pub member_tokens : List (List ℕ × Data) → List Token
member_tokens [] = []
member_tokens (m ∷ ms) = key m.0 ∷ (json_tokens (outline m.1) ++ member_tokens ms)
