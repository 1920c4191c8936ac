-- The fields of an object in a body: numbers, each with its form and its width.
use Rattle.std.specs.Prelude.{ℕ, Bool, false, nat_lt, List, [], ◌∷◌, bytes_eq, Option, Some, None}
use Rattle.std.specs.Prelude.{map, option_map, option_and_then, if◌then◌else◌}
use Rattle.std.specs.List.{find, list_any, list_all}
use Rattle.std.specs.Str.Parse.{digits_value}
use Rattle.amount.specs.Decimal.{decimal_of}
use Rattle.serde_json.specs.Data.{Data, null, boolean, number, string, array, object, Members}
use Rattle.serde_json.specs.Data.{no_members, member}
use Rattle.serde_json.specs.Find.{as_str, as_number, as_u64}
use Rattle.wire.specs.declared.wanted.Wanted.{Wanted}

-- the number, where it is below the bound
abbrev pub below : ℕ → ℕ → Option ℕ
below bound n = if nat_lt n bound then Some n else None

-- the number whose canonical decimal the text is
unfoldable pub canonical_number : List ℕ → Option ℕ
canonical_number text =
    if bytes_eq (decimal_of (digits_value 10 text)) text
    then Some (digits_value 10 text)
    else None

-- that number, where it is below the bound
abbrev pub number_below : ℕ → List ℕ → Option ℕ
number_below bound text = option_and_then (below bound) (canonical_number text)

-- a number of 64 or 128 bits is a string of canonical decimal, and 0 where it is missing
abbrev pub wide : ℕ → Option Data → Option ℕ
wide bound None = Some 0
wide bound (Some d) = option_and_then (number_below bound) (as_str d)

-- a smaller number is a JSON whole number, and 0 where it is missing
abbrev pub whole : ℕ → Option Data → Option ℕ
whole bound None = Some 0
whole bound (Some d) = option_and_then (below bound) (option_and_then as_u64 (as_number d))

-- the names of an object's fields
abbrev pub names_of : Members → List (List ℕ)
names_of no_members = []
names_of (member name d ms) = name ∷ names_of ms

-- the fields that an object may have, by name, with the number that is wanted in each
abbrev pub KnownFields : Type 0
KnownFields = List (List ℕ × Wanted)

-- their names
abbrev pub known_names : KnownFields → List (List ℕ)
known_names fields = map (λ f. f.0) fields

-- the number that is wanted in the field of a name, if it is one of them
abbrev pub wanted_in : KnownFields → List ℕ → Option Wanted
wanted_in fields name = option_map (λ f. f.1) (find (λ f. bytes_eq name f.0) fields)

-- whether a name is one of those known
abbrev pub is_among : List (List ℕ) → List ℕ → Bool
is_among known name = list_any (bytes_eq name) known

-- an object, whose fields are all known
abbrev pub has_only : List (List ℕ) → Data → Bool
has_only known null = false
has_only known (boolean b) = false
has_only known (number n) = false
has_only known (string s) = false
has_only known (array ds) = false
has_only known (object ms) = list_all (is_among known) (names_of ms)

-- what is made of an object that has only known fields
abbrev pub object_of : {E : Type 0} → List (List ℕ) → (Data → Option E) → Data → Option E
object_of known from_fields d = if has_only known d then from_fields d else None

-- what a field gives, and then what follows from it
abbrev pub given : {A B : Type 0} → Option A → (A → Option B) → Option B
given field follows = option_and_then follows field
