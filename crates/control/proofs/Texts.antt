-- The text that a writer holds once it has taken the tokens of a value.
use Rattle.std.proofs.Common.{◌≡◌, ℕ, List, [], ◌++◌, ap, ◌∙◌}
use Rattle.json.specs.Token.{Token}
use Rattle.json.specs.Tree.{json_tokens}
use Rattle.json.specs.Print.{print}
use Rattle.serde_json.specs.Data.{Data}
use Rattle.serde_json.specs.Written.{compact_text, outline}
use Rattle.serde_json.proofs.Texts.{print-outline}

pub text_from_tokens : (d : Data) (text before : List ℕ) (ts : List Token)
    → text ≡ before ++ print ts → before ≡ [] → ts ≡ json_tokens (outline d)
    → text ≡ compact_text d
text_from_tokens d text before ts written empty tokens =
    written ∙ ap (λ b. b ++ print ts) empty ∙ ap print tokens ∙ print-outline d
