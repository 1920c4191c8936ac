-- The value that a tree of JSON stands for, and when all its numbers can be read.
use Rattle.std.specs.Prelude.{ℕ, List, Bool, true, Option, None, Some, is_some}
use Rattle.std.specs.Cmp.Lexicographic.{slice_cmp}
use Rattle.std.specs.Ordering.{nat_cmp, match_ordering}
use Rattle.std.specs.Option.{option_map_or}
use Rattle.json.specs.Token.{Token}
use Rattle.json.specs.Token as token
use Rattle.json.specs.Json as tree
use Rattle.json.specs.Value.{value_view}
use Rattle.json.specs.Value as json
use Rattle.json.specs.declared.value.Value.{Value}
use Rattle.std.specs.Borrow.{Bor}
use Rattle.serde_json.specs.Data.{Data, null, boolean, number, string, array, object, Items, no_items}
use Rattle.serde_json.specs.Data.{item, Members, no_members, put}
use Rattle.serde_json.specs.Read.{number_of}

-- as `read` of serde_json has it; a number that it refuses stands here for null
abbrev mutual
  pub data_of : tree.Json → Data
  data_of tree.null = null
  data_of (tree.boolean b) = boolean b
  data_of (tree.number s) = option_map_or number (number_of s) null
  data_of (tree.string s) = string s
  data_of (tree.array js) = array (items_of js)
  data_of (tree.object ms) = object (members_of ms no_members)

  pub items_of : tree.Items → Items
  items_of tree.no_items = no_items
  items_of (tree.item j js) = item (data_of j) (items_of js)

  -- the members go in one after another, so the last value of a key stays
  pub members_of : tree.Members → Members → Members
  members_of tree.no_members found = found
  members_of (tree.member k j ms) found = members_of ms (put k (data_of j) found)

-- the value that a tree stands for in the code, and those of its items and members
abbrev pub tree_data : {A : Type 0} → Value A → Data
tree_data v = data_of (value_view v)

abbrev pub items_data : {A : Type 0} → List (Value A) → Items
items_data vs = items_of (json.items_view vs)

abbrev pub members_data : {A : Type 0} → List (Bor (List ℕ) × Value A) → Members
members_data ms = members_of (json.members_view ms) no_members

-- whether a token is no number beyond all floats
abbrev pub fits : Token → Bool
fits token.begin_object = true
fits token.end_object = true
fits token.begin_array = true
fits token.end_array = true
fits (token.key s) = true
fits (token.string s) = true
fits (token.number s) = is_some (number_of s)
fits (token.boolean b) = true
fits token.null = true
fits token.bad = true

-- the first of two names in the order of their bytes, where there are two
abbrev pub least : Option (List ℕ) → List ℕ → List ℕ
least None name = name
least (Some other) name = match_ordering (slice_cmp nat_cmp name other) name other other
