-- The text that a writer holds once it has taken the tokens of a value, and those of an object.
use Rattle.std.proofs.Common.{◌≡◌, ℕ, List, [], ◌∷◌, ◌++◌, append_assoc, refl, sym, ap, ◌∙◌}
use Rattle.std.proofs.Common.{Result, subst}
use Rattle.std.specs.Prelude.{⊤}
use Rattle.json.specs.Token.{Token, begin_object, end_object, key}
use Rattle.json.specs.Tree.{json_tokens, members_tokens}
use Rattle.json.specs.Print.{print}
use Rattle.json.specs.Written.{Written}
use Rattle.serde_json.specs.Data.{Data}
use Rattle.serde_json.specs.Written.{compact_text, members_outline, outline}
use Rattle.serde_json.proofs.Texts.{print-outline}
use Rattle.wire.specs.Reply.{members_with, object_with}
use Rattle.wire.specs.Writing.{AddsData, member_tokens}

pub compact_text_from_tokens : (d : Data) (text before : List ℕ) (ts : List Token)
    → text ≡ before ++ print ts → before ≡ [] → ts ≡ json_tokens (outline d)
    → text ≡ compact_text d
compact_text_from_tokens d text before ts written empty tokens =
    written ∙ ap (λ b. b ++ print ts) empty ∙ ap print tokens ∙ print-outline d

-- the tokens of members and the closing brace are those of an object behind its opening one
member_tokens-end : (ms : List (List ℕ × Data))
    → member_tokens ms ++ (end_object ∷ []) ≡ members_tokens (members_outline (members_with ms))
member_tokens-end [] = refl
member_tokens-end (m ∷ ms) =
    ap (λ ts. key m.0 ∷ ts)
    (append_assoc (json_tokens (outline m.1)) (member_tokens ms) (end_object ∷ [])
    ∙ ap (λ ts. json_tokens (outline m.1) ++ ts) (member_tokens-end ms))

-- a writer that takes an opening brace, members and a closing brace takes their object
pub object_taken : (ms : List (List ℕ × Data)) (start begun written : List Token)
    → begun ≡ start ++ (begin_object ∷ []) → written ≡ begun ++ member_tokens ms
    → written ++ (end_object ∷ []) ≡ start ++ json_tokens (outline (object_with ms))
object_taken ms start begun written opened took =
    rw (took, opened, sym (member_tokens-end ms)) (simp append_assoc)

-- what takes an object of members takes that of the same members
pub same_object : {E : Type 0} (written members : List (List ℕ × Data)) (old new : Written)
    (result : Result ⊤ E)
    → written ≡ members → AddsData (object_with written) old new result
    → AddsData (object_with members) old new result
same_object written members old new result same adds =
    subst (λ ms. AddsData (object_with ms) old new result) same adds

-- the text of an object of members is that of the same members
pub same_text : (written members : List (List ℕ × Data)) (text : List ℕ)
    → written ≡ members → text ≡ compact_text (object_with written)
    → text ≡ compact_text (object_with members)
same_text written members text same is = is ∙ ap (λ ms. compact_text (object_with ms)) same

-- the tokens of members before a list, of the list and of those behind it
pub member_tokens-between : (front behind : List (List ℕ × Data)) (name : List ℕ) (d : Data)
    → (member_tokens front ++ (key name ∷ json_tokens (outline d))) ++ member_tokens behind
    ≡ member_tokens (front ++ ((name, d) ∷ behind))
member_tokens-between [] behind name d = refl
member_tokens-between (m ∷ front) behind name d =
    ap (λ ts. key m.0 ∷ ts) (rw (sym (member_tokens-between front behind name d)) (simp append_assoc))
