-- Lines behind lines.
use Rattle.std.proofs.Common.{◌≡◌, ◌∙◌, ℕ, List, ◌∷◌, ◌++◌, Global, Option, Some, None, String, ap, append_assoc, refl, string_bytes, sym}
use Rattle.std.specs.Prelude.{option_and_then, option_map}
use Rattle.std.specs.Io.KnownBytes.{Appends}
use Rattle.serde_json.specs.View.{members_view, view}
use Rattle.serde_json.specs.declared.value.Value.{Value}
use Rattle.control.specs.Counting.{line_in, lines_in}
use Rattle.control.specs.declared.counting.CountForm.{CountForm}

-- what follows behind one line more
pub line_behind : (lines line : List ℕ) (rest : Option (List ℕ))
    → option_map (λ more. lines ++ more) (option_map (λ more. line ++ more) rest)
    ≡ option_map (λ more. (lines ++ line) ++ more) rest
line_behind lines line None = refl
line_behind lines line (Some more) = simp append_assoc

-- the same of the line of the next member
pub counted_more :
    (form : CountForm) (all : Option (List ℕ)) (lines line : List ℕ) (name : String Global)
    (value : Value) (before rest : List (String Global × Value)) →
    before ≡ (name, value) ∷ rest → line_in form (string_bytes name) (view value) ≡ Some line →
    option_map (λ more. lines ++ more) (lines_in form (members_view before)) ≡ all →
    option_map (λ more. (lines ++ line) ++ more) (lines_in form (members_view rest)) ≡ all
counted_more form all lines line name value before rest is here kept =
    let left = lines_in form (members_view rest) in
    let next : lines_in form (members_view before) ≡ option_map (λ more. line ++ more) left =
    ap (λ es. lines_in form (members_view es)) is
    ∙ ap (option_and_then (λ (l : List ℕ). option_map (λ more. l ++ more) left)) here in
    sym (line_behind lines line left) ∙ ap (option_map (λ more. lines ++ more)) (sym next) ∙ kept

-- two texts, one behind the other
pub appends_both :
    (old mid new : Option (List ℕ)) (front rest : List ℕ) →
    Appends old mid front → Appends mid new rest → Appends old new (front ++ rest)
appends_both None mid new front rest one other = tt
appends_both (Some xs) None new front rest one other = absurd one
appends_both (Some xs) (Some ys) None front rest one other = absurd other
appends_both (Some xs) (Some ys) (Some zs) front rest one other =
    other ∙ ap (λ t. t ++ rest) one ∙ append_assoc xs front rest
