-- Where a body is refused, and for want of what.
use Rattle.std.specs.Prelude.{◌≡◌, ℕ, suc, ◌^◌, Bool, true, false, not, List, []}
use Rattle.std.specs.Prelude.{Option, Some, None, is_some, is_none, option_map}
use Rattle.std.specs.Prelude.{if◌then◌else◌}
use Rattle.std.specs.List.{find}
use Rattle.std.specs.Option.{option_map_or}
use Rattle.serde_json.specs.Data.{Data, Items, no_items, item}
use Rattle.serde_json.specs.Find.{get, get_item, as_object}
use Rattle.ledger_http.specs.declared.refusal.Refusal.{Refusal}
use Rattle.ledger_http.specs.declared.refusal.Refusal.TheVariants.{BodyNotJson, BadField}
use Rattle.ledger_http.specs.declared.refusal.Refusal.TheVariants.{TooManyEvents}
use Rattle.wire.specs.declared.misfit.Misfit.{Misfit}
use Rattle.wire.specs.declared.wanted.Wanted.{Wanted}
use Rattle.wire.specs.declared.wanted.Wanted.TheVariants.{Json, List as AList, Few, Object}
use Rattle.wire.specs.declared.wanted.Wanted.TheVariants.{KnownName, Digits128, Digits64, WholeBelow}
use Rattle.wire.specs.declared.wanted.Wanted.TheVariants.{Limit}
use Rattle.wire.specs.Body.{id_of}
use Rattle.wire.specs.Fields.{KnownFields, known_names, wide, whole, names_of}
use Rattle.wire.specs.Fields.{is_among, has_only}
use Rattle.wire.specs.KnownObjects.{limit_of}

-- the refusal of a body that has not what is wanted
abbrev pub refusal_of : Wanted → Refusal
refusal_of Json = BodyNotJson
refusal_of AList = BadField
refusal_of Few = TooManyEvents
refusal_of Object = BadField
refusal_of KnownName = BadField
refusal_of Digits128 = BadField
refusal_of Digits64 = BadField
refusal_of (WholeBelow bound) = BadField
refusal_of Limit = BadField

-- what is asked for: an object that may have these fields, or an id
pub data Expected : Type 0 where
  an_object : KnownFields → Expected
  an_id : Expected

-- the names of a value's fields
abbrev pub field_names : Data → List (List ℕ)
field_names d = option_map_or names_of (as_object d) []

-- the first of them that is none of those known
abbrev pub first_stranger : List (List ℕ) → Data → Option (List ℕ)
first_stranger known d = find (λ name. not (is_among known name)) (field_names d)

-- whether a number is wanted, and the field has it not
abbrev pub lacks_number : Wanted → Option Data → Bool
lacks_number Digits128 field = is_none (wide (2 ^ 128) field)
lacks_number Digits64 field = is_none (wide (2 ^ 64) field)
lacks_number (WholeBelow bound) field = is_none (whole bound field)
lacks_number Limit field = is_none (limit_of field)
lacks_number other field = false

-- why a value is not what is asked for: in which field, unless it is the value itself, and what is
-- wanted there
pub record Reason : Type 0 where
  pub field : Option (List ℕ)
  pub wanted : Wanted

-- a field of this name, and the value itself
abbrev pub at_field : List ℕ → Wanted → Reason
at_field name wanted = record { field = Some name; wanted = wanted }

abbrev pub at_value : Wanted → Reason
at_value wanted = record { field = None; wanted = wanted }

-- the first of the fields, in the order of their table, that has not the number wanted in it
abbrev pub bad_number : KnownFields → Data → Option Reason
bad_number fields d =
    option_map (λ f. at_field f.0 f.1) (find (λ f. lacks_number f.1 (get f.0 d)) fields)

-- a value has a field that nobody knows, or is no object
abbrev pub no_known_object : List (List ℕ) → Data → Reason
no_known_object known d =
    option_map_or (λ name. at_field name KnownName) (first_stranger known d) (at_value Object)

-- why a value is not what is asked for, if it is not
abbrev pub reason_of : Expected → Data → Option Reason
reason_of (an_object fields) d =
    if has_only (known_names fields) d
    then bad_number fields d
    else Some (no_known_object (known_names fields) d)
reason_of an_id d = if is_none (id_of d) then Some (at_value Digits128) else None

-- the field that a misfit names, if any, and its whole reason
abbrev pub field_of : Misfit → Option (List ℕ)
field_of misfit = option_map (λ name. name.now) misfit.field

abbrev pub told_by : Misfit → Reason
told_by misfit = record { field = field_of misfit; wanted = misfit.wanted }

-- a value is not what is asked for, and this tells why
abbrev pub IsMisfit : Expected → Data → Misfit → Type 0
IsMisfit expected d misfit = reason_of expected d ≡ Some (told_by misfit)

-- the item at this place is none, and this tells why
abbrev pub IsMisfitAt : Expected → Items → ℕ → Misfit → Type 0
IsMisfitAt expected items place misfit =
    (d : Data) × (get_item place items ≡ Some d) × IsMisfit expected d misfit

-- this tells the field of this name, which has not this number
abbrev pub IsBadField : List ℕ → Wanted → Data → Misfit → Type 0
IsBadField name wanted d misfit =
    (field_of misfit ≡ Some name) × (misfit.wanted ≡ wanted)
    × (lacks_number wanted (get name d) ≡ true)

-- this tells the first of the fields that has not the number wanted in it
abbrev pub IsBadNumber : KnownFields → Data → Misfit → Type 0
IsBadNumber fields d misfit = bad_number fields d ≡ Some (told_by misfit)

-- the first item that means nothing, where they are counted from this number on
abbrev pub first_bad : {E : Type 0} → (Data → Option E) → ℕ → Items → Option ℕ
first_bad meant_by place no_items = None
first_bad meant_by place (item d ds) =
    if is_some (meant_by d) then first_bad meant_by (suc place) ds else Some place
