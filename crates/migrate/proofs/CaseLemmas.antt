-- At most one fault is told to a migration, and none of a sound ledger.
use Rattle.std.proofs.Common.{◌≡◌, ◌≢◌, ◌⊎◌, ℕ, ◌<◌, ℤ, pos, ◌<ℤ◌, true, false, cond, refl, inl, inr, sym, ap, subst, ◌∙◌, arith}
use Rattle.std.proofs.lemmas.Bool.{both_ways}
use Rattle.std.proofs.lemmas.Bool.Decides.{eqb_tells, leb_tells}
use Rattle.std.proofs.lemmas.Int.{ints}
use Rattle.sqlite_schema.specs.Names.{same_name}
use Rattle.sqlite_schema.specs.declared.schema.Schema.{Schema}
use Rattle.sqlite.specs.Effect.{Database}
use Rattle.ledger_sql.specs.Schema.{balance_schema, list_schema}
use Rattle.openings.specs.CaseLaws.{level, no_case_7, unless_available}
use Rattle.openings.specs.Damage.{NamesVersion}
use Rattle.openings.specs.Found.{IsUnavailable}
use Rattle.openings.specs.Opened.{IsSoundIn}
use Rattle.openings.specs.Told.{AreToldApart, HasNamesIn, NamesVersionOf, IsNoneTold, IsSoundLedger, SoundHasNoDamage, Warrants, case_of}
use Rattle.openings.specs.declared.opening.OpenFault.{OpenFault}
use Rattle.openings.specs.declared.opening.OpenFault.TheVariants as fault
use Rattle.migrate.specs.Naming.{names_other}
use Rattle.migrate.specs.Told.{TellsAny, TellsOfOlder, TellsOlder}
use Rattle.migrate.specs.Upgrading.{IsKnown, IsLedgerOf, IsOlderLedger, older_schema}
use Rattle.migrate.proofs.OlderLemmas.{older_starts}

-- the fault of this number
is_old : (told : OpenFault) → case_of told ≡ 3 → told ≡ fault.OldSchema
is_old fault.InUse is = absurd (omega (arith, is))
is_old fault.Unreadable is = absurd (omega (arith, is))
is_old fault.NotALedger is = absurd (omega (arith, is))
is_old fault.OldSchema is = refl
is_old fault.NewerSchema is = absurd (omega (arith, is))
is_old (fault.Damaged damage) is = absurd (omega (arith, is))
is_old (fault.Unavailable why) is = absurd (omega (arith, is))

-- by name the tables of an older version are just those
lists_named : names_other list_schema list_schema ≡ false
unfolding same_name
lists_named = refl

balances_named : names_other balance_schema balance_schema ≡ false
unfolding same_name
balances_named = refl

own_names : (version : ℕ) → names_other (older_schema version) (older_schema version) ≡ false
own_names version = elim (eqb_tells version 1) [
  | inl one ↦
      subst (λ (s : Schema). names_other s s ≡ false) (sym (ap (λ b. cond b list_schema balance_schema) one.0)) lists_named
  | inr other ↦
      subst (λ (s : Schema). names_other s s ≡ false) (sym (ap (λ b. cond b list_schema balance_schema) other.0)) balances_named
]

-- the questions of a database that names this older version, the last one first, and the number of
-- the case; 7 is that of a sound ledger
module _ (version : ℕ) (db : Database) where
  abbrev Y4 : ℕ → Type 0
  Y4 n = ((¬ IsSoundIn version db.trees) × (n ≡ 5)) ⊎ (IsSoundIn version db.trees × (n ≡ 7))

  abbrev Y3 : ℕ → Type 0
  Y3 n = ((¬ HasNamesIn version db.trees) × (n ≡ 2)) ⊎ (HasNamesIn version db.trees × Y4 n)

  abbrev Y2 : ℕ → Type 0
  Y2 n = ((¬ (db.schema ≡ older_schema version)) × (n ≡ 1)) ⊎ ((db.schema ≡ older_schema version) × Y3 n)

  abbrev Y1 : ℕ → Type 0
  Y1 n =
      ((names_other (older_schema version) db.schema ≡ true) × (n ≡ 2))
      ⊎ ((names_other (older_schema version) db.schema ≡ false) × Y2 n)

  same_y4 : (n m : ℕ) → Y4 n → Y4 m → n ≡ m
  same_y4 n m = level (λ n. n ≡ 7) n m 5 (λ bad good. bad good) (λ x y. x ∙ sym y)

  same_y3 : (n m : ℕ) → Y3 n → Y3 m → n ≡ m
  same_y3 n m = level Y4 n m 2 (λ bad good. bad good) (same_y4 n m)

  same_y2 : (n m : ℕ) → Y2 n → Y2 m → n ≡ m
  same_y2 n m = level Y3 n m 1 (λ other is. other is) (same_y3 n m)

  same_y1 : (n m : ℕ) → Y1 n → Y1 m → n ≡ m
  same_y1 n m = level Y2 n m 2 (λ others own. both_ways _ own others) (same_y2 n m)

  -- behind the first question
  named : (n : ℕ) → db.schema ≡ older_schema version → Y3 n → Y1 n
  named n schema y = inr (
    subst (λ (s : Schema). names_other (older_schema version) s ≡ false) (sym schema) (own_names version),
    inr (schema, y),
  )

  module _ (no_damage : SoundHasNoDamage) where
    answered : (told : OpenFault) → ¬ IsUnavailable told → TellsOlder version told db → Y1 (case_of told)
    answered fault.InUse not told = absurd told
    answered fault.Unreadable not told = inr (told.0, inl (told.1, refl))
    answered fault.NotALedger not (inl others) = inl (others, refl)
    answered fault.NotALedger not (inr misnamed) = named 2 misnamed.schema (inl (misnamed.names, refl))
    answered fault.OldSchema not told = absurd told
    answered fault.NewerSchema not told = absurd told
    answered (fault.Damaged damage) not told =
        named 5 told.schema
        (inr (told.names, inl (λ sound. no_damage version damage db.trees sound told.damaged, refl)))
    answered (fault.Unavailable why) not told = absurd (not (why, refl))

    answered_sound : IsOlderLedger version db → Y1 7
    answered_sound is = named 7 is.schema (inr (is.names, inr (is.sound, refl)))

  -- of such a database each opening tells that it is an old one
  told_old : 0 < version → version < 3 → NamesVersionOf (λ number. number ≡ pos version) db → Warrants fault.OldSchema db
  told_old positive older names = record {
    starts = names.starts;
    version = names.version;
    is = (above names.version names.is, below names.version names.is);
    named = names.named;
  } where
    above : (a : ℤ) → a ≡ pos version → pos 0 <ℤ a
    above a is = omega (arith, ints, is, positive)

    below : (a : ℤ) → a ≡ pos version → a <ℤ pos 3
    below a is = omega (arith, ints, is, older)

-- one version is named
same_version : (db : Database) (a b : ℕ) → NamesVersionOf (λ number. number ≡ pos a) db
    → NamesVersionOf (λ number. number ≡ pos b) db → a ≡ b
same_version db a b one two =
    let first = subst (λ number. NamesVersion number db.trees) one.is one.named in
    let second = subst (λ number. NamesVersion number db.trees) two.is two.named in
    let same = sym first ∙ second in cc

module _ (no_damage : SoundHasNoDamage) (apart : (db : Database) → AreToldApart (λ told. Warrants told db))
    (sound : (db : Database) → IsSoundLedger db → IsNoneTold (λ told. Warrants told db)) (db : Database) where
  old_of : (told : OpenFault) → TellsOfOlder told db → Warrants fault.OldSchema db
  old_of told of = told_old of.version db of.positive of.older of.named

  -- nothing else that an opening tells is told of an older ledger
  clash : (told : OpenFault) → ¬ IsUnavailable told → told ≢ fault.OldSchema → Warrants told db → Warrants fault.OldSchema db → ⊥
  clash told not other tells old =
      other (is_old told (apart db told fault.OldSchema not (λ is. let e = is.1 in cc) tells old))

  pub migration_apart : AreToldApart (λ told. TellsAny told db)
  migration_apart a b one other (inl x) (inl y) = apart db a b one other x.1 y.1
  migration_apart a b one other (inl x) (inr y) = absurd (clash a one x.0 x.1 (old_of b y))
  migration_apart a b one other (inr x) (inl y) = absurd (clash b other y.0 y.1 (old_of a x))
  migration_apart a b one other (inr x) (inr y) =
      let same = same_version db y.version x.version y.named x.named in
      same_y1 x.version db (case_of a) (case_of b) (answered x.version db no_damage a one x.tells)
      (answered x.version db no_damage b other (subst (λ version. TellsOlder version b db) same y.tells))

  module _ (version : ℕ) (known : IsKnown version) (ledger : IsLedgerOf version db) where
    none_of_current : IsSoundLedger db → (told : OpenFault) → ¬ IsUnavailable told → TellsAny told db → ⊥
    none_of_current is told not (inl x) = not (sound db is told x.1)
    none_of_current is told not (inr y) =
        let why = sound db is fault.OldSchema (old_of told y) in let e = why.1 in cc

    none_of_older : version < 3 → IsOlderLedger version db → (told : OpenFault) → ¬ IsUnavailable told → TellsAny told db → ⊥
    none_of_older less is told not tells =
        let names : NamesVersionOf (λ number. number ≡ pos version) db = record {
          starts = older_starts version db.schema is.schema;
          version = pos version;
          is = refl;
          named = is.named;
        } in
        elim tells [
          | inl x ↦ clash told not x.0 x.1 (told_old version db known.0 less names)
          | inr y ↦
              let same = same_version db y.version version y.named names in
              no_case_7 told (same_y1 version db (case_of told) 7
              (answered version db no_damage told not (subst (λ v. TellsOlder v told db) same y.tells))
              (answered_sound version db no_damage is))
        ]

    pub sound_not_refused : IsNoneTold (λ told. TellsAny told db)
    sound_not_refused = unless_available (λ told. TellsAny told db) (elim (leb_tells 3 version) [
      | inl three ↦ none_of_current (ledger.current three.1)
      | inr less ↦ none_of_older less.1 (ledger.older less.1)
    ])
