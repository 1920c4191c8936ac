-- The members of an object in a body.
use Rattle.std.specs.Prelude.{ℕ, suc, List, Option, option_map, option_and_then}
use Rattle.serde_json.specs.Data.{Data, Members, no_members, member}
use Rattle.serde_json.specs.Find.{as_object, as_str, get}

-- how many members there are
abbrev pub count : Members → ℕ
count no_members = 0
count (member name d ms) = suc (count ms)

-- how many members an object has
abbrev pub members_in : Data → Option ℕ
members_in d = option_map count (as_object d)

-- the text of a member
abbrev pub text_at : List ℕ → Data → Option (List ℕ)
text_at name d = option_and_then as_str (get name d)
