-- What a command's rows hold at the end of a parse that `clap` takes.
use Rattle.std.proofs.Common.{◌≡◌, ◌⊎◌, ◌∙◌, ◌==◌, ◌&&◌, ◌||◌, Bool, true, false, not, List, [], ◌∷◌, length, Option, Some, None, ap, refl, sym, subst, inl, inr, cond, true≢false, arith}
use Rattle.std.specs.Prelude.{find, fold, option_and_then, option_map, slice_get, unwrap_or}
use Rattle.std.specs.List.{list_any}
use Rattle.std.specs.Str.{bytes_eq}
use Rattle.std.proofs.lemmas.Bool.{ne_eqb}
use Rattle.std.proofs.lemmas.Slice.Eq.{bytes_eq-Decides}
use Rattle.clap.specs.Facts.{parser_of_value}
use Rattle.clap.specs.Kinds.{Kinds, check_kinds, request_kinds, value_kinds}
use Rattle.clap.specs.Faults.{default_fault, defaults_fault, given_default_fault, level_fault, settle_fault, values_fault, walk_fault}
use Rattle.clap.specs.Simple.{Shape}
use Rattle.clap.specs.Takes.{is_given}
use Rattle.clap.specs.Values.{read_as}
use Rattle.clap.specs.Walk.{Row, Rule, Text, action_of, arg_by_id, default_rows, finished, first_of, has_row, is_empty, nothing_held, one_of, reading_by, rows_after, settled, walk, walk_from, with_default}
use Rattle.clap.specs.declared.parser.matches.ValueSource.TheVariants.{DefaultValue}
use Rattle.command_line.proofs.Uses.{AllPass, Each, FirstPasses, IsOwn, Passes, both_none, each_found, first_ok, with_values_passes}
use Rattle.command_line.proofs.Walks.{settles, walk_passes}

default_row_passes : (c : List Rule) (a : Rule) (given : List Text) (rows : List Row) → arg_by_id c a.id ≡ Some a → given_default_fault a given ≡ []
    → AllPass c rows → AllPass c (default_rows a.id (reading_by a) given rows)
default_row_passes c a [] rows own e p = p
default_row_passes c a (v ∷ vs) rows own e p =
    with_values_passes c a DefaultValue v vs rows own (first_ok a v vs (both_none (request_kinds (action_of a)) (values_fault a (v ∷ vs)) e).1) p

default_passes : (c : List Rule) (a : Rule) (rows : List Row) → arg_by_id c a.id ≡ Some a → default_fault rows a ≡ [] → AllPass c rows → AllPass c (with_default rows a)
default_passes c a rows own e p = go (has_row a.id rows) e
  where
    given : (l : List Text) → cond (is_empty l) [] (given_default_fault a l) ≡ [] → AllPass c (default_rows a.id (reading_by a) l rows)
    given [] f = p
    given (v ∷ vs) f =
        let some : is_empty (v ∷ vs) ≡ false = ne_eqb (length (v ∷ vs)) 0 (λ e. omega (arith, e)) in
        default_row_passes c a (v ∷ vs) rows own (rw some at f) p

    go : (b : Bool) → cond (b || is_empty a.defaults) [] (given_default_fault a a.defaults) ≡ []
        → AllPass c (cond b rows (default_rows a.id (reading_by a) a.defaults rows))
    go true f = p
    go false f = given a.defaults f

defaults_pass : (c : List Rule) (xs : List Rule) (rows : List Row) → Each (IsOwn c) xs → defaults_fault rows xs ≡ [] → AllPass c rows
    → AllPass c (fold with_default rows xs)
unfolding defaults_fault
defaults_pass c [] rows own e p = p
defaults_pass c (a ∷ xs) rows own e p =
    let parts = both_none (default_fault rows a) (defaults_fault (with_default rows a) xs) e in
    defaults_pass c xs (with_default rows a) own.1 parts.1 (default_passes c a rows own.0.own parts.0 p)

needed : (wants_help wants_subcommand wants_argument : Bool) → check_kinds wants_help wants_subcommand wants_argument ≡ [] → wants_argument ≡ false
needed true sub arg e = absurd (true≢false (sym (ap (λ (l : Kinds). length l == 0) e)))
needed false true arg e = absurd (true≢false (sym (ap (λ (l : Kinds). length l == 0) e)))
needed false false true e = absurd (true≢false (sym (ap (λ (l : Kinds). length l == 0) e)))
needed false false false e = refl

-- none of the list passes a test
none_of : (test : Rule → Bool) (xs : List Rule) → list_any test xs ≡ false → Each (λ a. test a ≡ false) xs
none_of test [] e = tt
none_of test (x ∷ xs) e = go (test x) refl e (none_of test xs)
  where
    go : (b : Bool) → test x ≡ b → (b || list_any test xs) ≡ false → (list_any test xs ≡ false → Each (λ a. test a ≡ false) xs)
        → (test x ≡ false) × Each (λ a. test a ≡ false) xs
    go true t f later = absurd (true≢false f)
    go false t f later = (t, later f)

-- the argument has a value that passes its parser
pub record HasValue (rows : List Row) (a : Rule) : Type 0 where
  pub first : Text
  pub written : first_of a.id rows ≡ Some first
  pub read : one_of a.id rows ≡ Some (read_as (reading_by a) first)
  pub accepted : value_kinds a.ignore_case (parser_of_value a.parser) first ≡ []

-- the argument is there where it must be, and has such a value where it is there
pub record Holds (rows : List Row) (a : Rule) : Type 0 where
  pub needed : a.required ≡ true → HasValue rows a
  pub known : (one_of a.id rows ≡ None) ⊎ HasValue rows a

found_id : (id : Text) (rows : List Row) (r : Row) → find (λ x. bytes_eq x.id id) rows ≡ Some r → r.id ≡ id
found_id id [] r e = cc
found_id id (x ∷ xs) r e = go (bytes_eq x.id id) refl (found_id id xs r)
  where
    go : (b : Bool) → bytes_eq x.id id ≡ b → (find (λ y. bytes_eq y.id id) xs ≡ Some r → r.id ≡ id) → r.id ≡ id
    go true t later =
        let same : Some x ≡ Some r = rw t at e in
        let is : x ≡ r = ap (λ (o : Option Row). unwrap_or o x) same in
        subst (λ (y : Row). y.id ≡ id) is ((bytes_eq-Decides x.id id).0 t)
    go false t later = later (rw t at e)

value_of : (c : List Rule) (rows : List Row) (a : Rule) → IsOwn c a → AllPass c rows → (r : Row) → find (λ x. bytes_eq x.id a.id) rows ≡ Some r → HasValue rows a
value_of c rows a own p r e =
    let pass : FirstPasses a r = each_found (Passes c) _ rows r p e a (ap (arg_by_id c) (found_id a.id rows r e) ∙ own.own) in
    let at : slice_get r.values 0 ≡ Some pass.first = ap (λ (l : List Text). slice_get l 0) pass.values in
    record {
      first = pass.first;
      written = ap (option_and_then (λ (x : Row). slice_get x.values 0)) e ∙ at;
      read = ap (option_and_then (λ (x : Row). option_map (read_as x.reading) (slice_get x.values 0))) e
          ∙ ap (option_map (read_as r.reading)) at ∙ ap (λ w. Some (read_as w pass.first)) pass.reading;
      accepted = pass.accepted;
    }

holds_of : (c : List Rule) (rows : List Row) (a : Rule) → IsOwn c a → AllPass c rows → (a.required && not (is_given a.id rows)) ≡ false → Holds rows a
holds_of c rows a own p e = go (find (λ r. bytes_eq r.id a.id) rows) refl
  where
    absent : (b : Bool) → b ≡ true → (b && true) ≡ false → ⊥
    absent true t f = true≢false f
    absent false t f = true≢false (sym t)

    go : (o : Option Row) → find (λ r. bytes_eq r.id a.id) rows ≡ o → Holds rows a
    go None f = record {
      needed = λ required. absurd (absent a.required required (rw f at e));
      known = inl (ap (option_and_then (λ (x : Row). option_map (read_as x.reading) (slice_get x.values 0))) f);
    }
    go (Some r) f =
        let v = value_of c rows a own p r f in
        record { needed = λ required. v; known = inr v }

each_holds : (c : List Rule) (rows : List Row) (xs : List Rule) → Each (IsOwn c) xs → AllPass c rows → Each (λ a. (a.required && not (is_given a.id rows)) ≡ false) xs
    → Each (Holds rows) xs
each_holds c rows [] own p given = tt
each_holds c rows (a ∷ xs) own p given = (holds_of c rows a own.0 p given.0, each_holds c rows xs own.1 p given.1)

pub level_holds : (s : Shape) (words : List Text) → Each (IsOwn s.rules) s.rules → s.subcommand_negates_reqs ≡ false
    → level_fault s [] nothing_held words false [] ≡ [] → Each (Holds (rows_after s.rules [] words)) s.rules
level_holds s words own negates e =
    let end = (walk s.rules [] nothing_held words).held in
    let walk_part = both_none (walk_fault s [] (walk_from nothing_held) words) _ e in
    let settle_part = both_none (settle_fault s.rules s.args_override_self end) _ walk_part.1 in
    let default_part = both_none (defaults_fault (settled s.rules end).rows s.rules) _ settle_part.1 in
    let walked_rows : AllPass s.rules end.rows = walk_passes s [] own words (walk_from nothing_held) walk_part.0 tt in
    let settled_rows : AllPass s.rules (settled s.rules end).rows = settles s.rules s.args_override_self own end settle_part.0 walked_rows in
    let rows : AllPass s.rules (finished s.rules end) = defaults_pass s.rules s.rules (settled s.rules end).rows own default_part.0 settled_rows in
    let wants = needed _ _ (not (s.subcommand_negates_reqs && false) && list_any (λ a. a.required && not (is_given a.id (finished s.rules end))) s.rules) default_part.1 in
    let none_missing : list_any (λ a. a.required && not (is_given a.id (finished s.rules end))) s.rules ≡ false = rw negates at wants in
    each_holds s.rules (finished s.rules end) s.rules own rows (none_of _ s.rules none_missing)
