-- What the rows hold after the words of a command that `clap` takes.
use Rattle.std.proofs.Common.{◌≡◌, ◌==◌, ◌&&◌, ℕ, Bool, true, false, not, List, [], ◌∷◌, length, Option, Some, None, ap, refl, sym, subst, cond, is_some, true≢false}
use Rattle.std.specs.Prelude.{slice_get, unwrap_or, zero, suc, codes, drop, encode_utf8, fold}
use Rattle.std.specs.Option.{option_map_or}
use Rattle.std.specs.Str.{bytes_eq, chars}
use Rattle.clap.specs.Lexer.{long_of, short_of}
use Rattle.clap.specs.Kinds.{Kinds, or_else}
use Rattle.clap.specs.Faults.{bundle_fault, bundle_step_fault, flag_word_fault, flags_fault, long_fault, option_fault, other_fault, positional_fault, react_fault, settle_fault, short_fault, step_fault, stray_fault, turn_fault, use_fault, walk_fault, word_fault}
use Rattle.clap.specs.Simple.{Shape}
use Rattle.clap.specs.Walk.{Held, Names, Outcome, Row, Rule, Step, Text, Waiting, Walk, after_flag, after_step, arg_by_id, arg_by_index, arg_by_long, arg_by_short, attached_value, bundle, bundle_met, bundle_step, done, flag_met, idle, is_pending, long_met, long_or_other, next, option, option_met, option_word, plain, plain_word, positional, positional_held, pushed, reacted, refused, settled, settled_rows, short_met, short_or_plain, subcommand, subcommand_met, subcommand_or_other, takes_several, takes_values, to_positional, trailing, used_by_id, value, waits, walked, walked_from, word_met}
use Rattle.clap.specs.declared.error.kind.ErrorKind.TheVariants.{DisplayHelp, InvalidSubcommand, TooManyValues}
use Rattle.command_line.proofs.Uses.{AllPass, Each, IsOwn, both_none, each_found, used_passes}

module _ (c : List Rule) (again : Bool) (all : Each (IsOwn c) c) where
  settled_some : (o : Option Rule) (values : List Text) (rows : List Row) → ((a : Rule) → o ≡ Some a → IsOwn c a)
      → option_map_or (λ a. use_fault again a values rows) o [] ≡ [] → AllPass c rows → AllPass c (used_by_id o values rows)
  settled_some None values rows own e h = h
  settled_some (Some a) values rows own e h = used_passes c a again values rows (own a refl) e h

  settled_pass : (p : Option (Text × List Text)) (rows : List Row)
      → option_map_or (λ q. option_map_or (λ a. use_fault again a q.1 rows) (arg_by_id c q.0) []) p [] ≡ []
      → AllPass c rows → AllPass c (settled_rows c p rows)
  settled_pass None rows e h = h
  settled_pass (Some q) rows e h =
      settled_some (arg_by_id c q.0) q.1 rows (λ a is. each_found (IsOwn c) _ c a all is) e h

  pub settles : (h : Held) → settle_fault c again h ≡ [] → AllPass c h.rows → AllPass c (settled c h).rows
  settles h e p = settled_pass h.pending h.rows e p

  reacts : (a : Rule) (values : List Text) (h : Held) → IsOwn c a → react_fault c again a values h ≡ [] → AllPass c h.rows
      → AllPass c (reacted c a values h).rows
  reacts a values h own e p =
      let parts = both_none (settle_fault c again h) (use_fault again a values (settled c h).rows) e in
      used_passes c a again values (settled c h).rows own parts.1 (settles h parts.0 p)

  option_passes : (a : Rule) (v : Option Text) (h : Held) → IsOwn c a → option_fault c again a v h ≡ [] → AllPass c h.rows
      → AllPass c (option_met c a v h).0.rows
  option_passes a (Some v) h own e p = reacts a (v ∷ []) h own e p
  option_passes a None h own e p = settles h e p

  flag_passes : (a : Rule) (v : Option Text) (h : Held) → IsOwn c a
      → cond (is_some v) (TooManyValues ∷ []) (react_fault c again a [] h) ≡ []
      → AllPass c h.rows → AllPass c (flag_met c a v h).0.rows
  flag_passes a (Some v) h own e p = p
  flag_passes a None h own e p = reacts a [] h own e p

  long_passes : (o : Option Rule) (v : Option Text) (h : Held) → ((a : Rule) → o ≡ Some a → IsOwn c a) → long_fault c again o v h ≡ []
      → AllPass c h.rows → AllPass c (long_met c o v h).0.rows
  long_passes None v h own e p = p
  long_passes (Some a) v h own e p = go (takes_values a) e
    where
      go : (b : Bool) → cond b (option_fault c again a v h) (cond (is_some v) (TooManyValues ∷ []) (react_fault c again a [] h)) ≡ []
          → AllPass c (cond b (option_met c a v h) (flag_met c a v h)).0.rows
      go true f = option_passes a v h (own a refl) f p
      go false f = flag_passes a v h (own a refl) f p

  short_passes : (o : Option Rule) (rest : Text) (h : Held) (met : Held → Held × Outcome) (fault : Held → Kinds)
      → ((a : Rule) → o ≡ Some a → IsOwn c a)
      → ((g : Held) → fault g ≡ [] → AllPass c g.rows → AllPass c (met g).0.rows)
      → short_fault c again o rest h fault ≡ [] → AllPass c h.rows → AllPass c (short_met c o rest h met).0.rows
  short_passes None rest h met fault own later e p = p
  short_passes (Some a) rest h met fault own later e p = go (takes_values a) e
    where
      go : (b : Bool) → cond b (option_fault c again a (attached_value rest) h) (or_else (react_fault c again a [] h) (fault (reacted c a [] h))) ≡ []
          → AllPass c (cond b (option_met c a (attached_value rest) h) (met (reacted c a [] h))).0.rows
      go true f = option_passes a (attached_value rest) h (own a refl) f p
      go false f =
          let parts = both_none (react_fault c again a [] h) (fault (reacted c a [] h)) f in
          later (reacted c a [] h) parts.1 (reacts a [] h (own a refl) parts.0 p)

  step_passes : (x : Option ℕ) (flags : Text) (skip : ℕ) (so_far : Outcome) (h : Held) (met : Text → ℕ → Outcome → Held → Held × Outcome)
      (fault : Text → ℕ → Held → Kinds)
      → ((f : Text) (k : ℕ) (o : Outcome) (g : Held) → fault f k g ≡ [] → AllPass c g.rows → AllPass c (met f k o g).0.rows)
      → bundle_step_fault c again x flags skip h fault ≡ [] → AllPass c h.rows → AllPass c (bundle_step c x flags skip so_far h met).0.rows
  step_passes None flags skip so_far h met fault later e p = p
  step_passes (Some x) flags zero so_far h met fault later e p =
      let rest = drop (length (encode_utf8 x)) flags in
      short_passes (arg_by_short c x) rest h (met rest 0 done) (fault rest 0) (λ a is. each_found (IsOwn c) _ c a all is) (λ g. later rest 0 done g) e p
  step_passes (Some x) flags (suc skip) so_far h met fault later e p =
      later (drop (length (encode_utf8 x)) flags) skip so_far h e p

  bundle_passes : (k : ℕ) (flags : Text) (skip : ℕ) (so_far : Outcome) (h : Held) → flags_fault c again k flags skip h ≡ [] → AllPass c h.rows
      → AllPass c (bundle_met c k flags skip so_far h).0.rows
  unfolding flags_fault bundle_met
  bundle_passes zero flags skip so_far h e p = p
  bundle_passes (suc k) flags skip so_far h e p =
      step_passes (slice_get (chars flags) 0) flags skip so_far h (bundle_met c k) (flags_fault c again k) (bundle_passes k) e p

  option_word_passes : (o : Option Rule) (id word : Text) (h : Held) → AllPass c h.rows → AllPass c (option_word o id word h).0.rows
  option_word_passes None id word h p = p
  option_word_passes (Some a) id word h p = p

  plain_passes : (waiting : Waiting) (word : Text) (h : Held) → AllPass c h.rows → AllPass c (plain_word c waiting word h).0.rows
  plain_passes (option id) word h p = option_word_passes (arg_by_id c id) id word h p
  plain_passes idle word h p = p
  plain_passes positional word h p = p

  flag_done : (waiting : Waiting) (word : Text) (h : Held) (o : Outcome) → AllPass c h.rows → AllPass c (after_flag c waiting word h o).0.rows
  flag_done waiting word h done p = p
  flag_done waiting word h (waits id) p = p
  flag_done waiting word h plain p = plain_passes waiting word h p
  flag_done waiting word h refused p = plain_passes waiting word h p

  short_word_passes : (o : Option Text) (waiting : Waiting) (word : Text) (h : Held) → option_map_or (λ flags. bundle_fault c again flags h) o [] ≡ []
      → AllPass c h.rows → AllPass c (short_or_plain c waiting word o h).0.rows
  short_word_passes (Some flags) waiting word h e p =
      flag_done waiting word (bundle c flags h).0 (bundle c flags h).1 (bundle_passes (length flags) flags h.skip plain (record h { skip = 0 }) e p)
  short_word_passes None waiting word h e p = plain_passes waiting word h p

  flag_word_passes : (o : Option (Text × Option Text)) (waiting : Waiting) (word : Text) (h : Held) → flag_word_fault c again o word h ≡ []
      → AllPass c h.rows → AllPass c (long_or_other c waiting word o h).0.rows
  flag_word_passes (Some q) waiting word h e p =
      flag_done waiting word (long_met c (arg_by_long c q.0) q.1 h).0 (long_met c (arg_by_long c q.0) q.1 h).1
      (long_passes (arg_by_long c q.0) q.1 h (λ a is. each_found (IsOwn c) _ c a all is) e p)
  flag_word_passes None waiting word h e p = short_word_passes (short_of word) waiting word h e p

  positional_passes : (a : Rule) (word : Text) (h : Held) → positional_fault c again a h ≡ [] → AllPass c h.rows → AllPass c (positional_held c a word h).rows
  positional_passes a word h e p = go (is_pending a h.pending && takes_several a) e
    where
      go : (b : Bool) → cond b [] (settle_fault c again h) ≡ [] → AllPass c (pushed a.id word (cond b h (settled c h))).rows
      go true f = p
      go false f = settles h f p

module _ (s : Shape) (names : Names) (all : Each (IsOwn s.rules) s.rules) where
  met_passes : (found : Option Text) (waiting : Waiting) (position : ℕ) (word : Text) (h : Held) → other_fault s found word h ≡ []
      → AllPass s.rules h.rows → AllPass s.rules (subcommand_or_other s.rules found waiting position word h).0.rows
  met_passes (Some name) waiting position word h e p = p
  met_passes None waiting position word h e p = go (bytes_eq word (45 ∷ 45 ∷ [])) e
    where
      go : (b : Bool) → cond b [] (flag_word_fault s.rules s.args_override_self (long_of word) word h) ≡ []
          → AllPass s.rules (cond b (h, trailing position) (long_or_other s.rules waiting word (long_of word) h)).0.rows
      go true f = p
      go false f = flag_word_passes s.rules s.args_override_self all (long_of word) waiting word h f p

  word_passes : (is_trailing : Bool) (waiting : Waiting) (position : ℕ) (word : Text) (h : Held) → word_fault s names is_trailing waiting word h ≡ []
      → AllPass s.rules h.rows → AllPass s.rules (word_met s.rules names is_trailing waiting position word h).0.rows
  word_passes true waiting position word h e p = p
  word_passes false waiting position word h e p = met_passes (subcommand_met names waiting word) waiting position word h e p

  given_passes : (o : Option Rule) (word : Text) (w : Walk) (h : Held)
      → option_map_or (λ a. positional_fault s.rules s.args_override_self a h) o (stray_fault s) ≡ []
      → AllPass s.rules h.rows → AllPass s.rules (to_positional s.rules o word w h).held.rows
  given_passes None word w h e p = p
  given_passes (Some a) word w h e p = positional_passes s.rules s.args_override_self all a word h e p

  step_done : (step : Step) (word : Text) (w : Walk) (h : Held) → step_fault s w.position h step ≡ [] → AllPass s.rules h.rows
      → AllPass s.rules (after_step s.rules word w h step).held.rows
  step_done (next waiting) word w h e p = p
  step_done (trailing position) word w h e p = p
  step_done (subcommand name) word w h e p = p
  step_done value word w h e p = given_passes (arg_by_index s.rules w.position) word w h e p

  turn_passes : (o : Option (Text × List Text)) (w : Walk) (word : Text)
      → (let met = word_met s.rules names w.is_trailing w.waiting w.position word w.held in
      cond (is_some o) [] (or_else (word_fault s names w.is_trailing w.waiting word w.held) (step_fault s w.position met.0 met.1)) ≡ [])
      → AllPass s.rules w.held.rows → AllPass s.rules (walked_from s.rules names o w word).held.rows
  turn_passes (Some q) w word e p = p
  turn_passes None w word e p =
      let met = word_met s.rules names w.is_trailing w.waiting w.position word w.held in
      let parts = both_none (word_fault s names w.is_trailing w.waiting word w.held) (step_fault s w.position met.0 met.1) e in
      step_done met.1 word w met.0 parts.1 (word_passes w.is_trailing w.waiting w.position word w.held parts.0 p)

  pub walk_passes : (words : List Text) (w : Walk) → walk_fault s names w words ≡ [] → AllPass s.rules w.held.rows
      → AllPass s.rules (fold (walked s.rules names) w words).held.rows
  unfolding walk_fault walked
  walk_passes [] w e p = p
  walk_passes (word ∷ rest) w e p =
      let parts = both_none (turn_fault s names w word) (walk_fault s names (walked s.rules names w word) rest) e in
      walk_passes rest (walked s.rules names w word) parts.1 (turn_passes w.stopped w word parts.0 p)

  abbrev pub is_help : Text → Bool
  is_help name = bytes_eq name (codes "help") && not s.disable_help_subcommand

  abbrev pub NotHelp : Option (Text × List Text) → Type 0
  NotHelp stopped = (q : Text × List Text) → stopped ≡ Some q → is_help q.0 ≡ false

  abbrev EntersOther : Step → Type 0
  EntersOther (subcommand name) = is_help name ≡ false
  EntersOther _ = Unit {0}

  plain_enters : (waiting : Waiting) (word : Text) (h : Held) → EntersOther (plain_word s.rules waiting word h).1
  plain_enters (option id) word h = tt
  plain_enters idle word h = tt
  plain_enters positional word h = tt

  flag_enters : (waiting : Waiting) (word : Text) (h : Held) (o : Outcome) → EntersOther (after_flag s.rules waiting word h o).1
  flag_enters waiting word h done = tt
  flag_enters waiting word h (waits id) = tt
  flag_enters waiting word h plain = plain_enters waiting word h
  flag_enters waiting word h refused = plain_enters waiting word h

  short_enters : (o : Option Text) (waiting : Waiting) (word : Text) (h : Held) → EntersOther (short_or_plain s.rules waiting word o h).1
  short_enters (Some flags) waiting word h = flag_enters waiting word (bundle s.rules flags h).0 (bundle s.rules flags h).1
  short_enters None waiting word h = plain_enters waiting word h

  other_enters : (o : Option (Text × Option Text)) (waiting : Waiting) (word : Text) (h : Held) → EntersOther (long_or_other s.rules waiting word o h).1
  other_enters (Some q) waiting word h = flag_enters waiting word _ (long_met s.rules (arg_by_long s.rules q.0) q.1 h).1
  other_enters None waiting word h = short_enters (short_of word) waiting word h

  met_enters : (found : Option Text) (waiting : Waiting) (position : ℕ) (word : Text) (h : Held) → other_fault s found word h ≡ []
      → EntersOther (subcommand_or_other s.rules found waiting position word h).1
  met_enters (Some name) waiting position word h e = go (is_help name) e
    where
      go : (b : Bool) → cond b (DisplayHelp ∷ InvalidSubcommand ∷ []) [] ≡ [] → b ≡ false
      go true f = absurd (true≢false (sym (ap (λ (l : Kinds). length l == 0) f)))
      go false f = refl
  met_enters None waiting position word h e = go (bytes_eq word (45 ∷ 45 ∷ []))
    where
      go : (b : Bool) → EntersOther (cond b (h, trailing position) (long_or_other s.rules waiting word (long_of word) h)).1
      go true = tt
      go false = other_enters (long_of word) waiting word h

  word_enters : (is_trailing : Bool) (waiting : Waiting) (position : ℕ) (word : Text) (h : Held) → word_fault s names is_trailing waiting word h ≡ []
      → EntersOther (word_met s.rules names is_trailing waiting position word h).1
  word_enters true waiting position word h e = tt
  word_enters false waiting position word h e = met_enters (subcommand_met names waiting word) waiting position word h e

  given_stops : (o : Option Rule) (word : Text) (w : Walk) (h : Held) → NotHelp w.stopped → NotHelp (to_positional s.rules o word w h).stopped
  given_stops None word w h n = n
  given_stops (Some a) word w h n = λ q e. absurd (true≢false (sym (ap is_some e)))

  step_stops : (step : Step) (word : Text) (w : Walk) (h : Held) → NotHelp w.stopped → EntersOther step → NotHelp (after_step s.rules word w h step).stopped
  step_stops (next waiting) word w h n enters = n
  step_stops (trailing position) word w h n enters = n
  step_stops (subcommand name) word w h n enters =
      λ q e. subst (λ (t : Text). is_help t ≡ false) (ap (λ (o : Option (Text × List Text)). (unwrap_or o (name, [])).0) e) enters
  step_stops value word w h n enters = given_stops (arg_by_index s.rules w.position) word w h n

  turn_stops : (o : Option (Text × List Text)) (w : Walk) (word : Text) → w.stopped ≡ o
      → (let met = word_met s.rules names w.is_trailing w.waiting w.position word w.held in
      cond (is_some o) [] (or_else (word_fault s names w.is_trailing w.waiting word w.held) (step_fault s w.position met.0 met.1)) ≡ [])
      → NotHelp o → NotHelp (walked_from s.rules names o w word).stopped
  turn_stops (Some q) w word is e n =
      λ r f. subst (λ (t : Text). is_help t ≡ false) (ap (λ (o : Option (Text × List Text)). (unwrap_or o q).0) f) (n q refl)
  turn_stops None w word is e n =
      let met = word_met s.rules names w.is_trailing w.waiting w.position word w.held in
      let parts = both_none (word_fault s names w.is_trailing w.waiting word w.held) (step_fault s w.position met.0 met.1) e in
      step_stops met.1 word w met.0 (subst NotHelp (sym is) n) (word_enters w.is_trailing w.waiting w.position word w.held parts.0)

  pub walk_stops : (words : List Text) (w : Walk) → walk_fault s names w words ≡ [] → NotHelp w.stopped
      → NotHelp (fold (walked s.rules names) w words).stopped
  unfolding walk_fault walked
  walk_stops [] w e n = n
  walk_stops (word ∷ rest) w e n =
      let parts = both_none (turn_fault s names w word) (walk_fault s names (walked s.rules names w word) rest) e in
      walk_stops rest (walked s.rules names w word) parts.1 (turn_stops w.stopped w word refl parts.0 n)
