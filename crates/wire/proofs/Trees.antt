-- The value that a tree stands for, as serde_json reads it.
use Rattle.std.proofs.Common.{◌≡◌, ℕ, zero, suc, Bool, true, false, List, [], ◌∷◌, length, Option, Some}
use Rattle.std.proofs.Common.{None, option_map, option_and_then, refl, sym, ap, ap₂, ◌∙◌, cond, bytes_eq, subst, true≢false}
use Rattle.std.proofs.Common.{◌<◌, get_or, Vec, Bor, arith}
use Rattle.std.specs.Float.{binary64, float_is_finite}
use Rattle.std.specs.Prelude.{◌&&◌, ◌^◌, nat_lt, nat_le, is_some, if◌then◌else◌, ⊤}
use Rattle.std.specs.List.{list_all}
use Rattle.std.specs.Option.{option_map_or}
use Rattle.std.proofs.lemmas.Slice.Eq.{bytes_eq-Decides}
use Rattle.json.specs.Token.{Token}
use Rattle.json.specs.Json as tree
use Rattle.json.specs.Json.{Parse, parse_map, after_end_array, read_key, items_step, members_step, items, members, value_with, value, if_last}
use Rattle.json.specs.Find as find
use Rattle.json.specs.Lex.{tokens}
use Rattle.json.specs.declared.value.Value.{Value, Array, Object}
use Rattle.json.proofs.Trees.{view-Array, view-Object}
use Rattle.serde_json.specs.Data.{Num, negative, float, Data, null, boolean, number, string, array, object, Items, no_items}
use Rattle.serde_json.specs.Data.{item, Members, no_members, put}
use Rattle.serde_json.specs.Events.{items_len}
use Rattle.serde_json.specs.Find.{as_number, as_str, as_u64, get, get_item, get_member}
use Rattle.fast_float.specs.Text.{Parts, digits_of, nearest, with_sign}
use Rattle.serde_json.specs.Read.{float_of, is_integer, number_from, number_of, of_json, read}
use Rattle.serde_json.specs.Read as serde
use Rattle.serde_json.proofs.Views.{get_member-put, get_member-put_other}
use Rattle.wire.specs.Trees.{data_of, items_of, members_of, fits, tree_data, items_data, members_data}

-- whether each number of a tree can be read

abbrev mutual
  pub whole_fits : tree.Json → Bool
  whole_fits tree.null = true
  whole_fits (tree.boolean b) = true
  whole_fits (tree.number s) = is_some (number_of s)
  whole_fits (tree.string s) = true
  whole_fits (tree.array js) = items_fit js
  whole_fits (tree.object ms) = members_fit ms

  pub items_fit : tree.Items → Bool
  items_fit tree.no_items = true
  items_fit (tree.item j js) = whole_fits j && items_fit js

  pub members_fit : tree.Members → Bool
  members_fit tree.no_members = true
  members_fit (tree.member k j ms) = whole_fits j && members_fit ms

-- then serde_json reads the value that the tree stands for, and else none

number_read : (n : Option Num)
    → option_map number n ≡ cond (is_some n) (Some (option_map_or number n null)) None
number_read None = refl
number_read (Some n) = refl

array_read : (test : Bool) (ds : Items)
    → option_map array (cond test (Some ds) None) ≡ cond test (Some (array ds)) None
array_read true ds = refl
array_read false ds = refl

object_read : (test : Bool) (ms : Members)
    → option_map object (cond test (Some ms) None) ≡ cond test (Some (object ms)) None
object_read true ms = refl
object_read false ms = refl

item_read : (first rest : Bool) (d : Data) (ds : Items)
    → option_and_then (λ e. option_map (item e) (cond rest (Some ds) None)) (cond first (Some d) None)
    ≡ cond (first && rest) (Some (item d ds)) None
item_read true true d ds = refl
item_read true false d ds = refl
item_read false rest d ds = refl

member_read : (first rest : Bool) (d : Data) (after : Data → Option Members) (ms : Members)
    → after d ≡ cond rest (Some ms) None
    → option_and_then after (cond first (Some d) None) ≡ cond (first && rest) (Some ms) None
member_read true rest d after ms e = e
member_read false rest d after ms e = refl

mutual
  pub of_json-fits : (j : tree.Json) → of_json j ≡ cond (whole_fits j) (Some (data_of j)) None
  of_json-fits tree.null = refl
  of_json-fits (tree.boolean b) = refl
  of_json-fits (tree.number s) = number_read (number_of s)
  of_json-fits (tree.string s) = refl
  of_json-fits (tree.array js) = ap (option_map array) (of_items-fit js) ∙ array_read (items_fit js) (items_of js)
  of_json-fits (tree.object ms) =
      ap (option_map object) (of_members-fit ms no_members) ∙ object_read (members_fit ms) (members_of ms no_members)

  of_items-fit : (js : tree.Items) → serde.of_items js ≡ cond (items_fit js) (Some (items_of js)) None
  of_items-fit tree.no_items = refl
  of_items-fit (tree.item j js) =
      ap₂ (λ all first. option_and_then (λ d. option_map (item d) all) first) (of_items-fit js) (of_json-fits j)
      ∙ item_read (whole_fits j) (items_fit js) (data_of j) (items_of js)

  of_members-fit : (ms : tree.Members) (found : Members)
      → serde.of_members ms found ≡ cond (members_fit ms) (Some (members_of ms found)) None
  of_members-fit tree.no_members found = refl
  of_members-fit (tree.member k j ms) found =
      ap (option_and_then (λ d. serde.of_members ms (put k d found))) (of_json-fits j)
      ∙ member_read (whole_fits j) (members_fit ms) (data_of j) (λ d. serde.of_members ms (put k d found)) _
      (of_members-fit ms (put k (data_of j) found))

-- the tokens of a value fit exactly where its numbers do

abbrev Tells : {A : Type 0} → (A → Bool) → List Token → Option (A × List Token) → Type 0
Tells good ts None = ⊤
Tells good ts (Some p) = list_all fits ts ≡ (good p.0 && list_all fits p.1)

abbrev Follows : {A : Type 0} → (A → Bool) → Parse A → Type 0
Follows good p = (ts : List Token) → Tells good ts (p ts)

mapped : {A B : Type 0} (f : A → Bool) (g : B → Bool) (made : A → B) → ((a : A) → f a ≡ g (made a))
    → (ts : List Token) (o : Option (A × List Token)) → Tells f ts o → Tells g ts (parse_map made o)
mapped f g made same ts None h = tt
mapped f g made same ts (Some p) h = h ∙ ap (λ b. b && list_all fits p.1) (same p.0)

and-assoc : (a b c : Bool) → (a && (b && c)) ≡ ((a && b) && c)
and-assoc true b c = refl
and-assoc false b c = refl

both : {B : Type 0} (g : B → Bool) (made : tree.Json → B → B)
    → ((j : tree.Json) (b : B) → (whole_fits j && g b) ≡ g (made j b)) → (ts : List Token) (q : tree.Json × List Token)
    → list_all fits ts ≡ (whole_fits q.0 && list_all fits q.1)
    → (o : Option (B × List Token)) → Tells g q.1 o → Tells g ts (parse_map (made q.0) o)
both g made same ts q h None later = tt
both g made same ts q h (Some p) later =
    h ∙ ap (λ b. whole_fits q.0 && b) later ∙ and-assoc (whole_fits q.0) (g p.0) (list_all fits p.1)
    ∙ ap (λ b. b && list_all fits p.1) (same q.0 p.0)

and_more : {B : Type 0} (g : B → Bool) (made : tree.Json → B → B)
    → ((j : tree.Json) (b : B) → (whole_fits j && g b) ≡ g (made j b)) → (more : Parse B) → Follows g more
    → (ts : List Token) (o : Option (tree.Json × List Token)) → Tells whole_fits ts o
    → Tells g ts (option_and_then (λ q. parse_map (made q.0) (more q.1)) o)
and_more g made same more follows ts None h = tt
and_more g made same more follows ts (Some q) h = both g made same ts q h (more q.1) (follows q.1)

abbrev Closes : List Token → Option (List Token) → Type 0
Closes ts None = ⊤
Closes ts (Some r) = list_all fits ts ≡ list_all fits r

closing : (ts : List Token) → Closes ts (after_end_array ts)
closing [] = tt
closing (Token.begin_object ∷ ts) = tt
closing (Token.end_object ∷ ts) = tt
closing (Token.begin_array ∷ ts) = tt
closing (Token.end_array ∷ ts) = refl
closing (Token.key s ∷ ts) = tt
closing (Token.string s ∷ ts) = tt
closing (Token.number s ∷ ts) = tt
closing (Token.boolean v ∷ ts) = tt
closing (Token.null ∷ ts) = tt
closing (Token.bad ∷ ts) = tt

naming : Follows (λ (k : Option (List ℕ)). true) read_key
naming [] = tt
naming (Token.begin_object ∷ ts) = tt
naming (Token.end_object ∷ ts) = refl
naming (Token.begin_array ∷ ts) = tt
naming (Token.end_array ∷ ts) = tt
naming (Token.key s ∷ ts) = refl
naming (Token.string s ∷ ts) = tt
naming (Token.number s ∷ ts) = tt
naming (Token.boolean v ∷ ts) = tt
naming (Token.null ∷ ts) = tt
naming (Token.bad ∷ ts) = tt

module _ (p : Parse tree.Json) (follows : Follows whole_fits p) where
  item_turn : (more : Parse tree.Items) → Follows items_fit more → (ts : List Token) (o : Option (List Token)) → Closes ts o
      → Tells items_fit ts (items_step p more ts o)
  item_turn more again ts (Some r) q = q
  item_turn more again ts None q = and_more items_fit tree.item (λ j b. refl) more again ts (p ts) (follows ts)

  items_follow : (n : ℕ) → Follows items_fit (items p n)
  unfolding items
  items_follow zero ts = tt
  items_follow (suc n) ts = item_turn (items p n) (items_follow n) ts (after_end_array ts) (closing ts)

  named : (ts s : List Token) (q : list_all fits ts ≡ list_all fits s) (g : tree.Members → Bool) (o : Option (tree.Members × List Token))
      → Tells g s o → Tells g ts o
  named ts s q g None h = tt
  named ts s q g (Some m) h = q ∙ h

  member_turn : (more : Parse tree.Members) → Follows members_fit more → (ts : List Token) (o : Option (Option (List ℕ) × List Token))
      → Tells (λ (k : Option (List ℕ)). true) ts o
      → Tells members_fit ts (option_and_then (λ q. members_step p more q.0 q.1) o)
  member_turn more again ts None h = tt
  member_turn more again ts (Some (None, s)) h = h
  member_turn more again ts (Some (Some k, s)) h =
      named ts s h members_fit _ (and_more members_fit (tree.member k) (λ j b. refl) more again s (p s) (follows s))

  members_follow : (n : ℕ) → Follows members_fit (members p n)
  unfolding members
  members_follow zero ts = tt
  members_follow (suc n) ts = member_turn (members p n) (members_follow n) ts (read_key ts) (naming ts)

value_with_follows : (a : Parse tree.Items) (o : Parse tree.Members) → Follows items_fit a → Follows members_fit o
    → Follows whole_fits (value_with a o)
value_with_follows a o p q [] = tt
value_with_follows a o p q (Token.begin_object ∷ ts) = mapped members_fit whole_fits tree.object (λ m. refl) ts _ (q ts)
value_with_follows a o p q (Token.end_object ∷ ts) = tt
value_with_follows a o p q (Token.begin_array ∷ ts) = mapped items_fit whole_fits tree.array (λ m. refl) ts _ (p ts)
value_with_follows a o p q (Token.end_array ∷ ts) = tt
value_with_follows a o p q (Token.key s ∷ ts) = tt
value_with_follows a o p q (Token.string s ∷ ts) = refl
value_with_follows a o p q (Token.number s ∷ ts) = refl
value_with_follows a o p q (Token.boolean v ∷ ts) = refl
value_with_follows a o p q (Token.null ∷ ts) = refl
value_with_follows a o p q (Token.bad ∷ ts) = tt

value_follows : (depth : ℕ) → Follows whole_fits (value depth)
unfolding value
value_follows zero = value_with_follows (λ ts. None) (λ ts. None) (λ ts. tt) (λ ts. tt)
value_follows (suc d) =
    value_with_follows (λ ts. items (value d) (length ts) ts) (λ ts. members (value d) (length ts) ts)
    (λ ts. items_follow (value d) (value_follows d) (length ts) ts) (λ ts. members_follow (value d) (value_follows d) (length ts) ts)

-- the value of a text

abbrev whole : Option (tree.Json × List Token) → Option Data
whole o = option_and_then of_json (option_and_then (λ p. if_last p.0 p.1) o)

and-true : (b : Bool) → (b && true) ≡ b
and-true true = refl
and-true false = refl

is_whole : (j : tree.Json) (test : Bool) → whole_fits j ≡ test → of_json j ≡ cond test (Some (data_of j)) None
is_whole j test e = of_json-fits j ∙ ap (λ b. cond b (Some (data_of j)) None) e

-- where a reader stands at the end of the value, behind its first token, or at no value

module _ (text : List ℕ) (start : List Token) (first : start ≡ tokens text) where
  pub read_good : (j : tree.Json) (rest : List Token) → value 127 start ≡ Some (j, rest) → rest ≡ []
      → list_all fits (tokens text) ≡ true → read text ≡ Some (data_of j)
  read_good j rest is over good =
      let all : value 127 (tokens text) ≡ Some (j, []) =
      ap (value 127) (sym first) ∙ is ∙ ap (λ r. Some (j, r)) over in
      let told : list_all fits (tokens text) ≡ (whole_fits j && true) =
      subst (Tells whole_fits (tokens text)) all (value_follows 127 (tokens text)) in
      ap whole all ∙ is_whole j true (sym (and-true (whole_fits j)) ∙ sym told ∙ good)

  pub read_more : (j : tree.Json) (rest : List Token) (t : Token) (ts : List Token)
      → value 127 start ≡ Some (j, rest) → rest ≡ t ∷ ts → read text ≡ None
  read_more j rest t ts is more =
      ap whole (ap (value 127) (sym first) ∙ is ∙ ap (λ r. Some (j, r)) more)

  pub read_none : value 127 start ≡ None → read text ≡ None
  read_none is = ap whole (ap (value 127) (sym first) ∙ is)

not_all : (text : List ℕ) (o : Option (tree.Json × List Token)) → Tells whole_fits (tokens text) o
    → list_all fits (tokens text) ≡ false → whole o ≡ None
not_all text None h bad = refl
not_all text (Some (j, [])) h bad = is_whole j false (sym (and-true (whole_fits j)) ∙ sym h ∙ bad)
not_all text (Some (j, t ∷ ts)) h bad = refl

pub read_bad : (text : List ℕ) → list_all fits (tokens text) ≡ false → read text ≡ None
read_bad text bad = not_all text (value 127 (tokens text)) (value_follows 127 (tokens text)) bad

-- what is found in a tree

later : (k l : List ℕ) (d : Data) (found : Members) (j : Option tree.Json)
    → option_map data_of j ≡ None → bytes_eq l k ≡ false → get_member k (put l d found) ≡ get_member k found
later k l d found j none other =
    get_member-put_other k l d found
    (λ same. true≢false (sym ((bytes_eq-Decides l k).1 (sym same)) ∙ other))

abbrev or_else : Option Data → Option Data → Option Data
or_else None earlier = earlier
or_else (Some d) earlier = Some d

last_of : (k l : List ℕ) (j : tree.Json) (found : Members) (test : Bool) (rest : Option tree.Json)
    → bytes_eq l k ≡ test
    → or_else (option_map data_of rest) (get_member k (put l (data_of j) found))
    ≡ or_else (option_map data_of (find.later_or rest (cond test (Some j) None))) (get_member k found)
last_of k l j found test (Some other) e = refl
last_of k l j found true None e =
    let same : l ≡ k = (bytes_eq-Decides l k).0 e in
    ap (λ name. get_member name (put l (data_of j) found)) (sym same) ∙ get_member-put l (data_of j) found
last_of k l j found false None e = later k l (data_of j) found None refl e

member_of : (k : List ℕ) (ms : tree.Members) (found : Members)
    → get_member k (members_of ms found) ≡ or_else (option_map data_of (find.get_member k ms)) (get_member k found)
member_of k tree.no_members found = refl
member_of k (tree.member l j ms) found =
    member_of k ms (put l (data_of j) found)
    ∙ last_of k l j found (bytes_eq l k) (find.get_member k ms) refl

nothing_else : (o : Option Data) → or_else o None ≡ o
nothing_else None = refl
nothing_else (Some d) = refl

no_member : (k s : List ℕ) (n : Option Num) → get k (option_map_or number n null) ≡ None
no_member k s None = refl
no_member k s (Some n) = refl

pub get-data_of : (k : List ℕ) (j : tree.Json) → option_map data_of (find.get k j) ≡ get k (data_of j)
get-data_of k tree.null = refl
get-data_of k (tree.boolean b) = refl
get-data_of k (tree.number s) = sym (no_member k s (number_of s))
get-data_of k (tree.string s) = refl
get-data_of k (tree.array js) = refl
get-data_of k (tree.object ms) = sym (member_of k ms no_members ∙ nothing_else (option_map data_of (find.get_member k ms)))

no_text : (n : Option Num) → as_str (option_map_or number n null) ≡ None
no_text None = refl
no_text (Some n) = refl

pub as_str-data_of : (j : tree.Json) → find.as_str j ≡ as_str (data_of j)
as_str-data_of tree.null = refl
as_str-data_of (tree.boolean b) = refl
as_str-data_of (tree.number s) = sym (no_text (number_of s))
as_str-data_of (tree.string s) = refl
as_str-data_of (tree.array js) = refl
as_str-data_of (tree.object ms) = refl

number_is : (n : Option Num) → n ≡ as_number (option_map_or number n null)
number_is None = refl
number_is (Some n) = refl

pub as_number-data_of : (j : tree.Json) → option_and_then number_of (find.as_number j) ≡ as_number (data_of j)
as_number-data_of tree.null = refl
as_number-data_of (tree.boolean b) = refl
as_number-data_of (tree.number s) = number_is (number_of s)
as_number-data_of (tree.string s) = refl
as_number-data_of (tree.array js) = refl
as_number-data_of (tree.object ms) = refl

-- the items of a list, by their places

pub items_len-items_data : {A : Type 0} → (vs : List (Value A)) → items_len (items_data vs) ≡ length vs
items_len-items_data [] = refl
items_len-items_data (v ∷ vs) = ap suc (items_len-items_data vs)

pub get_item_within : {A : Type 0} → (vs : List (Value A)) (i : ℕ) (v : Value A) → i < length vs
    → Some (tree_data (get_or vs i v)) ≡ get_item i (items_data vs)
get_item_within [] i v h = absurd (omega arith)
get_item_within (w ∷ vs) zero v h = refl
get_item_within (w ∷ vs) (suc i) v h = get_item_within vs i v (omega arith)

pub array-data : {A : Type 0} → (v : Vec (Value A) A) → tree_data (Array v) ≡ array (items_data v.items)
array-data v = ap data_of (view-Array v)

pub object-data : {A : Type 0} → (v : Vec (Bor (List ℕ) × Value A) A) → tree_data (Object v) ≡ object (members_data v.items)
object-data v = ap data_of (view-Object v)

pub mapped_twice : {B C D : Type 0} (f : B → C) (g : C → D) (b : Option B)
    → option_map (λ x. g (f x)) b ≡ option_map g (option_map f b)
mapped_twice f g None = refl
mapped_twice f g (Some b) = refl

-- no number with a sign is a whole one

none_of_both : {A B : Type 0} (f : A → Option B) (test : Bool) (x y : Option A)
    → option_and_then f x ≡ None → option_and_then f y ≡ None → option_and_then f (cond test x y) ≡ None
none_of_both f true x y e h = e
none_of_both f false x y e h = h

pub no_whole : (p : Parts) → option_and_then as_u64 (number_from true p) ≡ None
no_whole p =
    let x = nearest binary64 true p in
    none_of_both as_u64 (is_integer p && nat_lt 0 (digits_of p) && nat_le (digits_of p) (2 ^ 63))
    (Some (negative (with_sign true (digits_of p)))) (float_of true p) refl
    (none_of_both as_u64 (float_is_finite x) (Some (float x)) None refl refl)
