-- Where `clap` takes the words, the subcommand that it states is one of ours, with each of its values.
use Rattle.std.proofs.Common.{◌≡◌, ◌⊎◌, ◌∙◌, ◌==◌, ◌&&◌, ◌||◌, ◌^◌, ◌++◌, ℕ, Bool, true, false, List, [], ◌∷◌, length, Option, Some, None, ap, refl, sym, subst, inl, inr, cond, is_some, true≢false}
use Rattle.std.specs.Prelude.{find, option_map, unwrap_or, codes}
use Rattle.std.specs.Option.{option_map_or}
use Rattle.std.specs.Str.{bytes_eq}
use Rattle.std.proofs.lemmas.Bool.{or_cases}
use Rattle.std.proofs.lemmas.Slice.Eq.{bytes_eq-Decides}
use Rattle.clap.specs.Kinds.{Kinds, value_kinds}
use Rattle.clap.specs.Faults.{entered_fault, fault_of, level_fault, walk_fault}
use Rattle.clap.specs.Simple.{App, Shape, argument_words, built, built_leaf, entered, filled, inherited, label_of, marked_built, names_of, rows_at, subcommand_of, with_leaf_noted}
use Rattle.clap.specs.ValueTests.{accepts}
use Rattle.clap.specs.Values.{Accepts, refused_kind}
use Rattle.clap.specs.Walk.{Row, Rule, Text, answers_to, first_of, nothing_held, one_of, rows_after, walk, walk_from}
use Rattle.clap.specs.declared.builder.value_parser.ValueParser.{ValueParser}
use Rattle.clap.specs.declared.builder.value_parser.ValueParser.TheVariants as vp
use Rattle.clap.proofs.ValueTestLemmas.{accepts-Accepts}
use Rattle.command_line.proofs.Uses.{AreOwn, Each, all_own, both_none, each_found}
use Rattle.command_line.proofs.Walks.{walk_stops}
use Rattle.command_line.proofs.Levels.{HasValue, Holds, level_holds}
use Rattle.command_line.specs.Ledgerd.{check_shape, copy_shape, flag_rule, ledgerd_app, limit_rule, limit_rules, migrate_shape, over_store, ports, program, serve_rules, serve_shape, statement_rules, statement_shape, status_shape, stop_shape, tenant_rules, tenant_shape, tenants_shape, text_rule}
use Rattle.command_line.specs.Values.{HasNumberBelow, HasSomeText, IsFilled, IsFilledOver, IsFlag, IsFreeNumber}
use Rattle.command_line.proofs.NumberValues.{signed_number}

-- a subcommand as `clap` builds it
abbrev above : Shape
above = with_leaf_noted (marked_built (record program.top { is_leaf = false }))

abbrev ready : Shape → Shape
ready s = built_leaf (inherited above s)

some_text : (rows : List Row) (name text : Text) → first_of name rows ≡ Some text → HasSomeText rows name
some_text rows name text e = rw e refl

accepted_value : (i : Bool) (p : ValueParser) (t : Text) → value_kinds i p t ≡ [] → Accepts i p t
accepted_value i p t e = go (accepts i p t) refl e
  where
    go : (b : Bool) → accepts i p t ≡ b → cond b [] (refused_kind p ∷ []) ≡ [] → Accepts i p t
    go true t f = accepts-Accepts i p _ t
    go false t f = absurd (true≢false (sym (ap (λ (l : Kinds). length l == 0) f)))

either_left : (a : Bool) → (a || false) ≡ true → a ≡ true
either_left true e = refl
either_left false e = e

-- the value of a text option
text_at : (rows : List Row) (name : Text) → Holds rows (filled (text_rule name)) → HasSomeText rows name
text_at rows name holds = some_text rows name (holds.needed refl).first (holds.needed refl).written

-- what stands for a limit passes as a number
limit_at : (rows : List Row) (name : Text) (least most : ℕ) → Holds rows (filled (limit_rule name least most)) → IsFreeNumber rows name
limit_at rows name least most holds = elim holds.known [
  | inl none ↦ inl none
  | inr v ↦ inr (go v (accepted_value false (vp.Unsigned least most) v.first v.accepted))
]
  where
    go : (v : HasValue rows (filled (limit_rule name least most))) → Accepts false (vp.Unsigned least most) v.first → HasNumberBelow rows name (2 ^ 64)
    go v ok = record { text = v.first; read = v.read; numeral = ok.0; below = ok.1 }

-- what stands for a flag passes as `true` or `false`
flag_at : (rows : List Row) (name : Text) → Holds rows (filled (flag_rule name)) → IsFlag rows name
flag_at rows name holds = elim holds.known [
  | inl none ↦ inl none
  | inr v ↦ inr (go v (accepted_value false vp.Bool v.first v.accepted))
]
  where
    go : (v : HasValue rows (filled (flag_rule name))) → (bytes_eq v.first (codes "true") || bytes_eq v.first (codes "false")) ≡ true
        → (one_of name rows ≡ Some (codes "true")) ⊎ (one_of name rows ≡ Some (codes "false"))
    go v ok = elim (or_cases (bytes_eq v.first (codes "true")) (bytes_eq v.first (codes "false")) ok) [
      | inl t ↦ inl (v.read ∙ ap (λ (w : Text). Some w) ((bytes_eq-Decides v.first (codes "true")).0 t))
      | inr f ↦ inr (v.read ∙ ap (λ (w : Text). Some w) ((bytes_eq-Decides v.first (codes "false")).0 f))
    ]

-- where `clap` takes the words of a command, it is filled
abbrev Met : Shape → List Text → Type 0
Met s words = level_fault (ready s) [] nothing_held words false [] ≡ [] → IsFilled s.name (rows_after (ready s).rules [] words)

-- a command over a store is, with what its other options hold
over_met : (name : Text) (rules : List Rule) (words : List Text) → AreOwn (ready (over_store name rules)).rules
    → ((rows : List Row) → Each (Holds rows) (ready (over_store name rules)).rules → IsFilledOver name rows) → Met (over_store name rules) words
over_met name rules words own over e =
    let s = ready (over_store name rules) in
    let rows = rows_after s.rules [] words in
    let holds = level_holds s words (all_own s.rules own) refl e in
    inr (inr (text_at rows (codes "db") holds.0, over rows holds))

serve_met : (words : List Text) → Met serve_shape words
serve_met words = over_met (codes "serve") (serve_rules ++ limit_rules) words (refl, refl) (λ rows holds.
    let limits = holds.1.1.1.1.1 in
    let port = holds.1.0.needed refl in
    inl (
      refl,
      record {
        port = signed_number rows (codes "port") port.first port.read (accepted_value false ports port.first port.accepted);
        requests = limit_at rows (codes "requests") 0 18446744073709551615 holds.1.1.1.0;
        standby = flag_at rows (codes "standby") holds.1.1.1.1.0;
        limits = record {
          clients = limit_at rows (codes "clients") 1 100_000 limits.0;
          room = limit_at rows (codes "room") 3 65_536 limits.1.0;
          idle = limit_at rows (codes "idle") 1 86_400 limits.1.1.0;
          message = limit_at rows (codes "message") 1 3_600 limits.1.1.1.0;
          reply = limit_at rows (codes "reply") 1 3_600 limits.1.1.1.1.0;
        };
      },
    ))

tenant_add_met : (words : List Text) → Met (tenant_shape (codes "tenant-add")) words
tenant_add_met words =
    over_met (codes "tenant-add") tenant_rules words (refl, refl) (λ rows holds. inr (inl (refl, text_at rows (codes "name") holds.1.0)))

tenant_key_met : (words : List Text) → Met (tenant_shape (codes "tenant-key")) words
tenant_key_met words =
    over_met (codes "tenant-key") tenant_rules words (refl, refl) (λ rows holds. inr (inr (inl (refl, text_at rows (codes "name") holds.1.0))))

tenants_met : (words : List Text) → Met tenants_shape words
tenants_met words = over_met (codes "tenants") [] words (refl, refl) (λ rows holds. inr (inr (inr (inl refl))))

status_met : (words : List Text) → Met status_shape words
status_met words = over_met (codes "status") (flag_rule (codes "prometheus") ∷ []) words (refl, refl)
    (λ rows holds. inr (inr (inr (inr (inl (refl, flag_at rows (codes "prometheus") holds.1.0))))))

stop_met : (words : List Text) → Met stop_shape words
stop_met words = over_met (codes "stop") [] words (refl, refl) (λ rows holds. inr (inr (inr (inr (inr (inl refl))))))

statement_met : (words : List Text) → Met statement_shape words
statement_met words = over_met (codes "statement") statement_rules words (refl, refl) (λ rows holds.
    inr (inr (inr (inr (inr (inr (inl (
      refl,
      record {
        tenant = text_at rows (codes "tenant") holds.1.0;
        account = text_at rows (codes "account") holds.1.1.0;
        reversed = flag_at rows (codes "reversed") holds.1.1.1.0;
        balances = flag_at rows (codes "balances") holds.1.1.1.1.1.1.0;
        wide = flag_at rows (codes "wide") holds.1.1.1.1.1.1.1.0;
      },
    ))))))))

check_met : (words : List Text) → Met check_shape words
check_met words = over_met (codes "check") [] words (refl, refl) (λ rows holds. inr (inr (inr (inr (inr (inr (inr (inl refl))))))))

migrate_met : (words : List Text) → Met migrate_shape words
migrate_met words = over_met (codes "migrate") (text_rule (codes "to") ∷ []) words (refl, refl)
    (λ rows holds. inr (inr (inr (inr (inr (inr (inr (inr (inl (refl, text_at rows (codes "to") holds.1.0))))))))))

copy_met : (words : List Text) → Met copy_shape words
copy_met words = over_met (codes "copy") (text_rule (codes "to") ∷ []) words (refl, refl)
    (λ rows holds. inr (inr (inr (inr (inr (inr (inr (inr (inr (refl, text_at rows (codes "to") holds.1.0))))))))))

-- the subcommand that a walk stopped at is filled
StopsAt : Text → List Text → Shape → Type 0
StopsAt name words s = answers_to name (label_of s) ≡ true → level_fault s [] nothing_held words false [] ≡ [] → IsFilled s.name (rows_after s.rules [] words)

-- a search finds what passes
found_passes : {X : Type 0} (test : X → Bool) (xs : List X) (x : X) → find test xs ≡ Some x → test x ≡ true
found_passes test [] x e = cc
found_passes {X} test (y ∷ ys) x e = go (test y) refl (found_passes test ys x)
  where
    go : (b : Bool) → test y ≡ b → (find test ys ≡ Some x → test x ≡ true) → test x ≡ true
    go true t later =
        let same : Some y ≡ Some x = rw t at e in
        subst (λ (z : X). test z ≡ true) (ap (λ (o : Option X). unwrap_or o y) same) t
    go false t later = later (rw t at e)

help_is : (name : Text) → (bytes_eq name (codes "help") && true) ≡ false → answers_to name (codes "help", []) ≡ true → ⊥
help_is name other answers =
    let named : bytes_eq (codes "help") name ≡ true = either_left (bytes_eq (codes "help") name) answers in
    let is : codes "help" ≡ name = (bytes_eq-Decides (codes "help") name).0 named in
    let same : bytes_eq name (codes "help") ≡ true = subst (λ (w : Text). bytes_eq w (codes "help") ≡ true) is refl in
    let bad : true ≡ false = rw same at other in
    true≢false bad

stops_at_one : (name : Text) (words : List Text) → (bytes_eq name (codes "help") && true) ≡ false → Each (StopsAt name words) (built ledgerd_app).subs
unfolding ledgerd_app StopsAt
stops_at_one name words other = (
  λ a e. serve_met words e,
  (
    λ a e. tenant_add_met words e,
    (
      λ a e. tenant_key_met words e,
      (
        λ a e. tenants_met words e,
        (
          λ a e. status_met words e,
          (
            λ a e. stop_met words e,
            (
              λ a e. statement_met words e,
              (
                λ a e. check_met words e,
                (
                  λ a e. migrate_met words e,
                  (
                    λ a e. copy_met words e,
                    (λ a e. inl refl, (λ a e. inr (inl refl), (λ a e. absurd (help_is name other a), tt))),
                  ),
                ),
              ),
            ),
          ),
        ),
      ),
    ),
  ),
)

entered_filled : (a : App) (stop : Option (Text × List Text)) (met : Text × List Row)
    → ((q : Text × List Text) → stop ≡ Some q → Each (StopsAt q.0 q.1) a.subs)
    → entered_fault a stop ≡ [] → entered a stop ≡ Some met → IsFilled met.0 met.1
unfolding StopsAt
entered_filled a None met stops fault is = cc
entered_filled a (Some q) met stops fault is = go (find (λ s. answers_to q.0 (label_of s)) a.subs) refl fault is
  where
    go : (o : Option Shape) → find (λ s. answers_to q.0 (label_of s)) a.subs ≡ o
        → option_map_or (λ s. level_fault s [] nothing_held q.1 false []) o [] ≡ []
        → option_map (λ s. rows_at s q.1) o ≡ Some met → IsFilled met.0 met.1
    go None f none e = cc
    go (Some s) f none e =
        let here : StopsAt q.0 q.1 s = each_found (StopsAt q.0 q.1) _ a.subs s (stops q refl) f in
        let whole : IsFilled s.name (rows_after s.rules [] q.1) = here (found_passes _ a.subs s f) none in
        subst (λ (m : Text × List Row). IsFilled m.0 m.1) (ap (λ (o : Option (Text × List Row)). unwrap_or o (rows_at s q.1)) e) whole

-- where `clap` takes the words, the subcommand that it states has all its values
pub filled_from : (words : List Text) → fault_of ledgerd_app words ≡ [] → (met : Text × List Row) → subcommand_of ledgerd_app words ≡ Some met
    → IsFilled met.0 met.1
unfolding ledgerd_app
filled_from words fault met is =
    let a = built ledgerd_app in
    let stop = (walk a.top.rules (names_of a) nothing_held (argument_words ledgerd_app words)).stopped in
    let walk_part = both_none (walk_fault a.top (names_of a) (walk_from nothing_held) (argument_words ledgerd_app words)) _ fault in
    let entered_part = both_none (entered_fault a stop) _ walk_part.1 in
    let own = all_own a.top.rules (refl, refl) in
    let stops = walk_stops a.top (names_of a) own (argument_words ledgerd_app words) (walk_from nothing_held) walk_part.0 (λ q e. absurd (true≢false (sym (ap is_some e)))) in
    entered_filled a stop met (λ q e. stops_at_one q.0 q.1 (stops q e)) entered_part.0 is
