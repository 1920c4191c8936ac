-- What the rows of a parse hold after one use of an argument that `clap` takes.
use Rattle.std.proofs.Common.{◌≡◌, ◌∙◌, ◌++◌, ◌==◌, ◌<◌, ℕ, Bool, true, false, List, [], ◌∷◌, length, map, Option, Some, None, ap, refl, sym, subst, cond, true≢false, arith, eqb-true, ltb-true, lt-ltb}
use Rattle.std.specs.Prelude.{find, unwrap_or, nat_lt}
use Rattle.std.specs.List.{list_all}
use Rattle.std.proofs.lemmas.Bool.{and_parts}
use Rattle.clap.specs.declared.error.kind.ErrorKind.TheVariants.{InvalidValue}
use Rattle.std.specs.Str.{bytes_eq}
use Rattle.clap.specs.Facts.{parser_of_value, unwrap_or_range}
use Rattle.clap.specs.Kinds.{Kinds, or_else, range_kinds, value_kinds}
use Rattle.clap.specs.Faults.{action_fault, repeat_fault, use_fault, values_fault}
use Rattle.clap.specs.Walk.{Row, Rule, Text, action_of, arg_by_id, at_row, more_values, most_values, reading_by, stronger, used, used_as, values_or_missing, with_values, without}
use Rattle.clap.specs.declared.builder.action.ArgAction.{ArgAction}
use Rattle.clap.specs.declared.builder.action.ArgAction.TheVariants.{Set, SetTrue, Help, Version}
use Rattle.clap.specs.declared.parser.matches.ValueSource.{ValueSource}
use Rattle.clap.specs.declared.parser.matches.ValueSource.TheVariants.{CommandLine}

-- each element of a list
abbrev pub Each : {X : Type 0} → (X → Type 0) → List X → Type 0
Each P [] = Unit {0}
Each P (x ∷ xs) = P x × Each P xs

pub each_append : {X : Type 0} (P : X → Type 0) (xs ys : List X) → Each P xs → Each P ys → Each P (xs ++ ys)
each_append P [] ys h k = k
each_append P (x ∷ xs) ys h k = (h.0, each_append P xs ys h.1 k)

-- what is found holds what each element holds
pub each_found : {X : Type 0} (P : X → Type 0) (test : X → Bool) (xs : List X) (x : X) → Each P xs → find test xs ≡ Some x → P x
each_found P test [] x h e = cc
each_found {X} P test (y ∷ ys) x h e = go (test y) refl (each_found P test ys x h.1)
  where
    go : (b : Bool) → test y ≡ b → (find test ys ≡ Some x → P x) → P x
    go true t later =
        let same : Some y ≡ Some x = rw t at e in
        subst P (ap (λ (o : Option X). unwrap_or o y) same) h.0
    go false t later = later (rw t at e)

pub both_none : (a b : Kinds) → or_else a b ≡ [] → (a ≡ []) × (b ≡ [])
both_none [] b e = (refl, e)
both_none (k ∷ ks) b e = cc

-- the row's first value passes the argument's parser, and is read as the parser says
pub record FirstPasses (a : Rule) (r : Row) : Type 0 where
  pub first : Text
  pub rest : List Text
  pub values : r.values ≡ first ∷ rest
  pub accepted : value_kinds a.ignore_case (parser_of_value a.parser) first ≡ []
  pub reading : r.reading ≡ reading_by a

-- the row does, of the argument that its id names
abbrev pub Passes : List Rule → Row → Type 0
Passes c r = (a : Rule) → arg_by_id c r.id ≡ Some a → FirstPasses a r

abbrev pub AllPass : List Rule → List Row → Type 0
AllPass c = Each (Passes c)

-- a use of the argument that is taken sets its row
abbrev pub Sets : Rule → Type 0
Sets a = (again : Bool) (values : List Text) (rows : List Row) → use_fault again a values rows ≡ []
    → (v : Text) × (vs : List Text)
    × (used a values rows ≡ with_values a.id (reading_by a) CommandLine (v ∷ vs) (without a.id rows))
    × (value_kinds a.ignore_case (parser_of_value a.parser) v ≡ [])

-- the argument is the one of its id, and its uses set its row
pub record IsOwn (c : List Rule) (a : Rule) : Type 0 where
  pub own : arg_by_id c a.id ≡ Some a
  pub sets : Sets a

row_passes : (P : Row → Type 0) (id : Text) (change : Row → List Row) (missing rs : List Row)
    → ((r : Row) → P r → Each P (change r)) → Each P missing → Each P rs → Each P (at_row id change missing rs)
row_passes P id change missing [] changed new h = new
row_passes P id change missing (r ∷ rs) changed new h = go (bytes_eq r.id id) (row_passes P id change missing rs changed new h.1)
  where
    go : (b : Bool) → Each P (at_row id change missing rs) → Each P (cond b (change r ++ rs) (r ∷ at_row id change missing rs))
    go true later = each_append P (change r) rs (changed r h.0) h.1
    go false later = (h.0, later)

without_passes : (P : Row → Type 0) (id : Text) (rs : List Row) → Each P rs → Each P (without id rs)
without_passes P id rs h = row_passes P id (λ _. []) [] rs (λ r k. tt) tt h

pub with_values_passes : (c : List Rule) (a : Rule) (source : ValueSource) (v : Text) (vs : List Text) (rs : List Row) → arg_by_id c a.id ≡ Some a
    → value_kinds a.ignore_case (parser_of_value a.parser) v ≡ [] → AllPass c rs
    → AllPass c (with_values a.id (reading_by a) source (v ∷ vs) rs)
with_values_passes c a source v vs rs own ok h =
    row_passes (Passes c) a.id (more_values source (v ∷ vs)) (row ∷ []) rs (λ r p. (λ b e. longer b r (p b e), tt)) (here, tt) h
  where
    longer : (b : Rule) (r : Row) → FirstPasses b r → FirstPasses b (record r { values = r.values ++ v ∷ vs; source = Some (stronger r.source source) })
    longer b r p = record {
      first = p.first;
      rest = p.rest ++ v ∷ vs;
      values = ap (λ (l : List Text). l ++ v ∷ vs) p.values;
      accepted = p.accepted;
      reading = p.reading;
    }

    row : Row
    row = record { id = a.id; values = v ∷ vs; count = None; source = Some source; reading = reading_by a }

    here : (b : Rule) → arg_by_id c a.id ≡ Some b → FirstPasses b row
    here b e =
        let same : Some a ≡ Some b = sym own ∙ e in
        let is : a ≡ b = ap (λ (o : Option Rule). unwrap_or o a) same in
        subst (λ (x : Rule). FirstPasses x row) is (record { first = v; rest = vs; values = refl; accepted = ok; reading = refl })

pub used_passes : (c : List Rule) (a : Rule) (again : Bool) (values : List Text) (rs : List Row) → IsOwn c a → use_fault again a values rs ≡ []
    → AllPass c rs → AllPass c (used a values rs)
used_passes c a again values rs is e h =
    let set = is.sets again values rs e in
    subst (AllPass c) (sym set.2) (with_values_passes c a CommandLine set.0 set.1 (without a.id rs) is.own set.3 (without_passes (Passes c) a.id rs h))

pub first_ok : (a : Rule) (v : Text) (vs : List Text) → values_fault a (v ∷ vs) ≡ [] → value_kinds a.ignore_case (parser_of_value a.parser) v ≡ []
first_ok a v vs e = (both_none _ (values_fault a vs) e).0

-- no value is too few
no_value : (least most : ℕ) → 0 < least → range_kinds least most 0 ≡ [] → ⊥
no_value least most some e =
    let below : nat_lt 0 least ≡ true = lt-ltb 0 least some in
    let refused : InvalidValue ∷ [] ≡ [] = rw below at e in
    true≢false (sym (ap (λ (l : Kinds). length l == 0) refused))

set_parts : (again : Bool) (a : Rule) (v : Text) (vs : List Text) (rows : List Row) → or_else (repeat_fault again a.id rows) (values_fault a (v ∷ vs)) ≡ []
    → value_kinds a.ignore_case (parser_of_value a.parser) v ≡ []
set_parts again a v vs rows e = first_ok a v vs (both_none (repeat_fault again a.id rows) _ e).1

-- an option that takes at least one value
pub option_sets : (a : Rule) → action_of a ≡ Set → 0 < (unwrap_or_range a.range).start_inclusive → Sets a
option_sets a is some again [] rows e =
    absurd (no_value _ (most_values a) some (both_none _ (action_fault (action_of a) again a (values_or_missing a []) rows) e).0)
option_sets a is some again (v ∷ vs) rows e =
    let act : action_fault (action_of a) again a (v ∷ vs) rows ≡ [] = (both_none (range_kinds (unwrap_or_range a.range).start_inclusive (most_values a) (length (v ∷ vs))) _ e).1 in (
      v,
      vs,
      ap (λ (x : ArgAction). used_as x a.id (reading_by a) (v ∷ vs) rows) is,
      set_parts again a v vs rows (subst (λ (x : ArgAction). action_fault x again a (v ∷ vs) rows ≡ []) is act),
    )

flag_set : (a : Rule) (again : Bool) (given : List Text) (v : Text) (vs : List Text) (rows : List Row) → action_of a ≡ SetTrue → values_or_missing a given ≡ v ∷ vs
    → use_fault again a given rows ≡ []
    → (used a given rows ≡ with_values a.id (reading_by a) CommandLine (v ∷ vs) (without a.id rows))
    × (value_kinds a.ignore_case (parser_of_value a.parser) v ≡ [])
flag_set a again given v vs rows is stands e =
    let act : action_fault (action_of a) again a (values_or_missing a given) rows ≡ [] = (both_none (range_kinds (unwrap_or_range a.range).start_inclusive (most_values a) (length given)) _ e).1 in
    let at : action_fault SetTrue again a (values_or_missing a given) rows ≡ [] = subst (λ (x : ArgAction). action_fault x again a (values_or_missing a given) rows ≡ []) is act in (
      ap (λ (x : ArgAction). used_as x a.id (reading_by a) (values_or_missing a given) rows) is ∙ ap (λ (l : List Text). used_as SetTrue a.id (reading_by a) l rows) stands,
      set_parts again a v vs rows (subst (λ (l : List Text). action_fault SetTrue again a l rows ≡ []) stands at),
    )

-- a flag, for which a word stands
pub flag_sets : (a : Rule) (w : Text) → action_of a ≡ SetTrue → a.missing ≡ w ∷ [] → Sets a
flag_sets a w is stands again [] rows e =
    let set = flag_set a again [] w [] rows is stands e in
    (w, [], set.0, set.1)
flag_sets a w is stands again (v ∷ vs) rows e =
    let set = flag_set a again (v ∷ vs) v vs rows is refl e in
    (v, vs, set.0, set.1)

-- a call for help is never taken
pub help_sets : (a : Rule) → action_of a ≡ Help → Sets a
help_sets a is again values rows e =
    let act : action_fault (action_of a) again a (values_or_missing a values) rows ≡ [] = (both_none (range_kinds (unwrap_or_range a.range).start_inclusive (most_values a) (length values)) _ e).1 in
    let at : action_fault Help again a (values_or_missing a values) rows ≡ [] = subst (λ (x : ArgAction). action_fault x again a (values_or_missing a values) rows ≡ []) is act in
    cc

-- a call for the version is never taken
pub version_sets : (a : Rule) → action_of a ≡ Version → Sets a
version_sets a is again values rows e =
    let act : action_fault (action_of a) again a (values_or_missing a values) rows ≡ [] = (both_none (range_kinds (unwrap_or_range a.range).start_inclusive (most_values a) (length values)) _ e).1 in
    let at : action_fault Version again a (values_or_missing a values) rows ≡ [] = subst (λ (x : ArgAction). action_fault x again a (values_or_missing a values) rows ≡ []) is act in
    cc

-- the uses of an argument with this action set its row
abbrev pub is_setting : ArgAction → Rule → Bool
is_setting Set a = nat_lt 0 (unwrap_or_range a.range).start_inclusive
is_setting SetTrue a = length a.missing == 1
is_setting Help a = true
is_setting Version a = true
is_setting _ a = false

one_word : (a : Rule) (words : List Text) → action_of a ≡ SetTrue → a.missing ≡ words → (length words == 1) ≡ true → Sets a
one_word a [] is stands e = absurd (true≢false (sym e))
one_word a (w ∷ []) is stands e = flag_sets a w is stands
one_word a (w ∷ v ∷ words) is stands e = absurd (omega (arith, eqb-true _ _ e))

action_sets : (x : ArgAction) (a : Rule) → action_of a ≡ x → is_setting x a ≡ true → Sets a
action_sets Set a is e = option_sets a is (ltb-true _ _ e)
action_sets SetTrue a is e = one_word a a.missing is refl e
action_sets Help a is e = help_sets a is
action_sets Version a is e = version_sets a is
action_sets _ a is e = absurd (true≢false (sym e))

each_own : (c xs : List Rule) → map (λ a. arg_by_id c a.id) xs ≡ map (λ a. Some a) xs → list_all (λ a. is_setting (action_of a) a) xs ≡ true
    → Each (IsOwn c) xs
each_own c [] found setting = tt
each_own c (a ∷ xs) found setting =
    let parts = and_parts (is_setting (action_of a) a) (list_all (λ a. is_setting (action_of a) a) xs) setting in
    let both : arg_by_id c a.id ∷ map (λ a. arg_by_id c a.id) xs ≡ Some a ∷ map (λ a. Some a) xs = found in
    let first : arg_by_id c a.id ≡ Some a = cc in
    let rest : map (λ a. arg_by_id c a.id) xs ≡ map (λ a. Some a) xs = cc in
    (record { own = first; sets = action_sets (action_of a) a refl parts.0 }, each_own c xs rest parts.1)

-- each argument of a command is found by its id, and its uses set its row
abbrev pub AreOwn : List Rule → Type 0
AreOwn c = (map (λ a. arg_by_id c a.id) c ≡ map (λ a. Some a) c) × (list_all (λ a. is_setting (action_of a) a) c ≡ true)

pub all_own : (c : List Rule) → AreOwn c → Each (IsOwn c) c
all_own c own = each_own c c own.0 own.1
