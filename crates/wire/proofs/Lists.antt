-- The list that a body means, whose items are known.
use Rattle.std.proofs.Common.{◌≡◌, ℕ, suc, ◌<◌, ◌≤◌, true, false, List, [], ◌∷◌, length, Option}
use Rattle.std.proofs.Common.{Some, None, option_map, Ok, Err, Global, refl, sym, ap, ◌∙◌, arith}
use Rattle.std.specs.Prelude.{◌&&◌, is_some, option_and_then, ok_or}
use Rattle.std.specs.List.{list_all}
use Rattle.std.proofs.lemmas.Bool.Decides.{nat_tests}
use Rattle.serde_json.specs.Data.{Data}
use Rattle.serde_json.specs.Find.{as_array}
use Rattle.json.specs.declared.value.Value.{Value}
use Rattle.ledger_http.specs.declared.refusal.Refusal.TheVariants.{BadField, TooManyEvents}
use Rattle.wire.specs.Body.{json_of, each_of, at_most, and_then, list_in}
use Rattle.wire.specs.Trees.{tree_data, items_data}

-- each item means something exactly where the items do

is_some-both : {E : Type 0} (first : Option E) (rest : Option (List E))
    → (is_some first && is_some rest)
    ≡ is_some (option_and_then (λ e. option_map (λ es. e ∷ es) rest) first)
is_some-both None rest = refl
is_some-both (Some e) None = refl
is_some-both (Some e) (Some es) = refl

pub list_all-is_some : {E : Type 0} (meant_by : Data → Option E) (vs : List (Value Global))
    → list_all (λ v. is_some (meant_by (tree_data v))) vs ≡ is_some (each_of meant_by (items_data vs))
list_all-is_some meant_by [] = refl
list_all-is_some meant_by (v ∷ vs) =
    ap (λ rest. is_some (meant_by (tree_data v)) && rest) (list_all-is_some meant_by vs)
    ∙ is_some-both (meant_by (tree_data v)) (each_of meant_by (items_data vs))

-- as many are meant as there are items

length-both : {E : Type 0} (n : ℕ) (first : Option E) (rest : Option (List E)) (es : List E)
    → ((more : List E) → rest ≡ Some more → length more ≡ n)
    → option_and_then (λ e. option_map (λ more. e ∷ more) rest) first ≡ Some es → length es ≡ suc n
length-both n None rest es later is = cc
length-both n (Some e) None es later is = cc
length-both n (Some e) (Some more) es later is =
    let whole : e ∷ more ≡ es = cc in sym (ap length whole) ∙ ap suc (later more refl)

pub length-each_of : {E : Type 0} (meant_by : Data → Option E) (vs : List (Value Global)) (es : List E)
    → each_of meant_by (items_data vs) ≡ Some es → length es ≡ length vs
length-each_of meant_by [] es is = let none : [] ≡ es = cc in sym (ap length none)
length-each_of meant_by (v ∷ vs) es is =
    length-both (length vs) (meant_by (tree_data v)) (each_of meant_by (items_data vs)) es
    (length-each_of meant_by vs) is

-- the body is JSON, and its value is the list of these items
pub record HasItems (body : List ℕ) (vs : List (Value Global)) : Type 0 where
  pub value : Data
  pub is : json_of body ≡ Some value
  pub list : as_array value ≡ Some (items_data vs)

pub has_items : (body : List ℕ) (d : Data) (vs : List (Value Global))
    → json_of body ≡ Some d → as_array d ≡ Some (items_data vs) → HasItems body vs
has_items body d vs is list = record { value = d; is = is; list = list }

pub list_in_items : {E : Type 0} (meant_by : Data → Option E) (body : List ℕ) (vs : List (Value Global))
    → HasItems body vs
    → list_in meant_by body
    ≡ and_then (ok_or (each_of meant_by (items_data vs)) BadField) (at_most 1000)
unfolding list_in
list_in_items meant_by body vs has = rw (has.is, has.list)

pub list_in_few : {E : Type 0} (meant_by : Data → Option E) (body : List ℕ) (vs : List (Value Global))
    (es : List E)
    → HasItems body vs → length vs ≤ 1000
    → each_of meant_by (items_data vs) ≡ Some es → list_in meant_by body ≡ Ok es
list_in_few meant_by body vs es has few is =
    let short : length es ≤ 1000 = omega (arith, length-each_of meant_by vs es is) in
    list_in_items meant_by body vs has ∙ rw is (kept short)
  where
    kept : length es ≤ 1000 → at_most 1000 es ≡ Ok es
    kept short = grind (arith, nat_tests)

too_many : {E : Type 0} (items : Option (List E))
    → ((es : List E) → items ≡ Some es → 1000 < length es) → is_some items ≡ true
    → and_then (ok_or items BadField) (at_most 1000) ≡ Err TooManyEvents
too_many None many good = cc
too_many (Some es) many good =
    let more : 1000 < length es = many es refl in grind (arith, nat_tests)

pub list_in_many : {E : Type 0} (meant_by : Data → Option E) (body : List ℕ) (vs : List (Value Global))
    → HasItems body vs → 1000 < length vs
    → is_some (each_of meant_by (items_data vs)) ≡ true → list_in meant_by body ≡ Err TooManyEvents
list_in_many meant_by body vs has many good =
    list_in_items meant_by body vs has
    ∙ too_many (each_of meant_by (items_data vs))
    (λ es is. omega (arith, length-each_of meant_by vs es is)) good

bad : {E : Type 0} (items : Option (List E)) → is_some items ≡ false
    → and_then (ok_or items BadField) (at_most 1000) ≡ Err BadField
bad None none = refl
bad (Some es) none = cc

pub list_in_bad : {E : Type 0} (meant_by : Data → Option E) (body : List ℕ) (vs : List (Value Global))
    → HasItems body vs
    → is_some (each_of meant_by (items_data vs)) ≡ false → list_in meant_by body ≡ Err BadField
list_in_bad meant_by body vs has none =
    list_in_items meant_by body vs has ∙ bad (each_of meant_by (items_data vs)) none
