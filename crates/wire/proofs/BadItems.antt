-- What the first bad item of a list tells of the body.
use Rattle.std.proofs.Common.{◌≡◌, ℕ, suc, ◌+◌, ◌<◌, ◌≤◌, true, false, List, ◌∷◌, length, Option}
use Rattle.std.proofs.Common.{Some, None, option_map, Global, refl, ap}
use Rattle.std.specs.Prelude.{Bool, nat_lt, is_some, option_and_then, if◌then◌else◌}
use Rattle.serde_json.specs.Data.{Data, Items, no_items, item}
use Rattle.serde_json.specs.Find.{as_array}
use Rattle.json.specs.declared.value.Value.{Value}
use Rattle.ledger_http.specs.declared.refusal.Refusal.TheVariants.{BodyNotJson, BadField}
use Rattle.ledger_http.specs.declared.refusal.Refusal.TheVariants.{TooManyEvents}
use Rattle.wire.specs.Body.{json_of, each_of, list_in, object_in}
use Rattle.wire.specs.declared.misfit.Misfit.{Misfit}
use Rattle.wire.specs.declared.wanted.Wanted.TheVariants.{Json, List as AList, Few}
use Rattle.wire.specs.Faults.{fault_for, list_fault, of_body, refused}
use Rattle.wire.specs.Misfits.{Expected, IsMisfitAt, first_bad, told_by}
use Rattle.wire.specs.Trees.{items_data}
use Rattle.wire.proofs.Trees.{items_len-items_data}
use Rattle.wire.proofs.Lists.{HasItems, list_in_few, list_in_many, list_in_bad}

-- where no item is bad, all mean something

none_both : {E : Type 0} (first : Option E) (rest : Option ℕ) (place : ℕ) (all : Option (List E))
    → (rest ≡ None → is_some all ≡ true)
    → (if is_some first then rest else Some place) ≡ None
    → is_some (option_and_then (λ e. option_map (λ es. e ∷ es) all) first) ≡ true
none_both None rest place all later is = cc
none_both (Some e) rest place None later is = later is
none_both (Some e) rest place (Some es) later is = refl

all_good : {E : Type 0} (meant_by : Data → Option E) (place : ℕ) (ds : Items)
    → first_bad meant_by place ds ≡ None → is_some (each_of meant_by ds) ≡ true
all_good meant_by place no_items none = refl
all_good meant_by place (item d ds) none =
    none_both (meant_by d) (first_bad meant_by (suc place) ds) place (each_of meant_by ds)
    (all_good meant_by (suc place) ds) none

-- where one is, they do not

some_both : {E : Type 0} (first : Option E) (rest : Option ℕ) (place : ℕ) (all : Option (List E))
    (n : ℕ)
    → ((k : ℕ) → rest ≡ Some k → is_some all ≡ false)
    → (if is_some first then rest else Some place) ≡ Some n
    → is_some (option_and_then (λ e. option_map (λ es. e ∷ es) all) first) ≡ false
some_both None rest place all n later is = refl
some_both (Some e) rest place None n later is = refl
some_both (Some e) rest place (Some es) n later is = later n is

one_bad : {E : Type 0} (meant_by : Data → Option E) (place : ℕ) (ds : Items) (n : ℕ)
    → first_bad meant_by place ds ≡ Some n → is_some (each_of meant_by ds) ≡ false
one_bad meant_by place no_items n is = cc
one_bad meant_by place (item d ds) n is =
    some_both (meant_by d) (first_bad meant_by (suc place) ds) place (each_of meant_by ds) n
    (one_bad meant_by (suc place) ds) is

-- the same of the body

pub not_json : {E : Type 0} (meant_by : Data → Option E) (body : List ℕ)
    → json_of body ≡ None → refused (list_in meant_by body) ≡ Some BodyNotJson
unfolding list_in
not_json meant_by body none = rw none

pub not_list : {E : Type 0} (meant_by : Data → Option E) (body : List ℕ) (d : Data)
    → json_of body ≡ Some d → as_array d ≡ None
    → refused (list_in meant_by body) ≡ Some BadField
unfolding list_in
not_list meant_by body d is none = rw (is, none)

pub few_good : {E : Type 0} (meant_by : Data → Option E) (body : List ℕ) (vs : List (Value Global))
    → HasItems body vs → length vs ≤ 1000
    → first_bad meant_by 0 (items_data vs) ≡ None → refused (list_in meant_by body) ≡ None
few_good {E} meant_by body vs has few none =
    go (each_of meant_by (items_data vs)) refl (all_good meant_by 0 (items_data vs) none)
  where
    go : (all : Option (List E)) → each_of meant_by (items_data vs) ≡ all → is_some all ≡ true
        → refused (list_in meant_by body) ≡ None
    go None is some = cc
    go (Some es) is some = ap refused (list_in_few meant_by body vs es has few is)

pub many_good : {E : Type 0} (meant_by : Data → Option E) (body : List ℕ) (vs : List (Value Global))
    → HasItems body vs → 1000 < length vs
    → first_bad meant_by 0 (items_data vs) ≡ None
    → refused (list_in meant_by body) ≡ Some TooManyEvents
many_good meant_by body vs has many none =
    ap refused (list_in_many meant_by body vs has many (all_good meant_by 0 (items_data vs) none))

pub bad_item : {E : Type 0} (meant_by : Data → Option E) (body : List ℕ) (vs : List (Value Global)) (n : ℕ)
    → HasItems body vs → first_bad meant_by 0 (items_data vs) ≡ Some n
    → refused (list_in meant_by body) ≡ Some BadField
bad_item meant_by body vs n has is =
    ap refused (list_in_bad meant_by body vs has (one_bad meant_by 0 (items_data vs) n is))

-- and the fault of it

pub fault_json : {E : Type 0} (meant_by : Data → Option E) (expected : Expected) (body : List ℕ)
    → json_of body ≡ None → list_fault meant_by expected body ≡ Some (of_body Json)
fault_json meant_by expected body none = rw none refl

pub fault_list : {E : Type 0} (meant_by : Data → Option E) (expected : Expected) (body : List ℕ)
    (d : Data) → json_of body ≡ Some d → as_array d ≡ None
    → list_fault meant_by expected body ≡ Some (of_body AList)
fault_list meant_by expected body d is none = rw (is, none) refl

pub fault_item : {E : Type 0} (meant_by : Data → Option E) (expected : Expected) (body : List ℕ)
    (vs : List (Value Global)) (place : ℕ) (misfit : Misfit)
    → HasItems body vs → first_bad meant_by 0 (items_data vs) ≡ Some place
    → IsMisfitAt expected (items_data vs) place misfit
    → list_fault meant_by expected body ≡ Some (fault_for (Some (place + 1)) (told_by misfit))
fault_item meant_by expected body vs place misfit has is (d, at, why) =
    rw (has.is, has.list, is, at, why) refl

pub bad_object : {E : Type 0} (meant_by : Data → Option E) (body : List ℕ) (d : Data)
    → json_of body ≡ Some d → meant_by d ≡ None
    → refused (object_in meant_by body) ≡ Some BadField
bad_object meant_by body d is none = rw (is, none) refl

pub fault_number : {E : Type 0} (meant_by : Data → Option E) (expected : Expected) (body : List ℕ)
    (vs : List (Value Global)) (many : Bool) → HasItems body vs → first_bad meant_by 0 (items_data vs) ≡ None
    → nat_lt 1000 (length vs) ≡ many
    → list_fault meant_by expected body ≡ (if many then Some (of_body Few) else None)
fault_number meant_by expected body vs many has none are =
    rw (has.is, has.list, none, items_len-items_data, are) refl
