-- At most one fault is told of a database.
use Rattle.std.proofs.Common.{◌≡◌, ◌⊎◌, ℕ, ℤ, pos, ◌<ℤ◌, ◌≤ℤ◌, true, false, codes, refl, inl, inr, sym, subst, ◌∙◌, arith}
use Rattle.std.proofs.lemmas.Bool.{both_ways}
use Rattle.std.proofs.lemmas.Int.{ints}
use Rattle.sqlite_schema.specs.Names.{same_name}
use Rattle.sqlite_schema.specs.declared.schema.Schema.{Schema}
use Rattle.sqlite.specs.Effect.{Database}
use Rattle.ledger_sql.specs.Effects.{StartsAs, IsLedger}
use Rattle.ledger_sql.specs.Schema.{after_schema, no_schema}
use Rattle.openings.specs.Damage.{NamesVersion}
use Rattle.openings.specs.Found.{IsUnavailable}
use Rattle.openings.specs.Opened.{IsSoundIn}
use Rattle.openings.specs.Shape.{has_ours}
use Rattle.openings.specs.Told.{AreToldApart, HasGoodNames, NamesVersionOf, HindersMaking, IsCurrent, IsMadeOtherwise, IsNoLedger}
use Rattle.openings.specs.Told.{IsNoneTold, IsSoundLedger, SoundHasNoDamage}
use Rattle.openings.specs.Told.{Warrants, case_of, has_all, has_table}
use Rattle.openings.specs.Told.{No_name, No_table, No_version, No_versions, Of_ledger, Of_version}
use Rattle.openings.specs.CaseLaws.{level, no_case_7, unless_available}
use Rattle.openings.specs.declared.opening.OpenFault.{OpenFault}
use Rattle.openings.specs.declared.opening.OpenFault.TheVariants as fault

-- the questions, the last one first, and the number of the case; 7 is that of a sound ledger
abbrev X9 : Database → ℕ → Type 0
X9 db n = ((¬ IsSoundIn 3 db.trees) × (n ≡ 5)) ⊎ (IsSoundIn 3 db.trees × (n ≡ 7))

abbrev X8 : Database → ℕ → Type 0
X8 db n = ((¬ HasGoodNames db.trees) × (n ≡ 2)) ⊎ (HasGoodNames db.trees × X9 db n)

abbrev X7 : Database → ℕ → Type 0
X7 db n = ((¬ IsLedger db.schema) × (n ≡ 1)) ⊎ (IsLedger db.schema × X8 db n)

abbrev X6 : Database → ℕ → Type 0
X6 db n = ((has_all db.schema.tables ≡ false) × (n ≡ 2)) ⊎ ((has_all db.schema.tables ≡ true) × X7 db n)

abbrev X5 : Database → ℕ → Type 0
X5 db n = (NamesVersionOf (λ v. pos 3 <ℤ v) db × (n ≡ 4)) ⊎ (IsCurrent db × X6 db n)

abbrev X4 : Database → ℕ → Type 0
X4 db n = (NamesVersionOf (λ v. v <ℤ pos 3) db × (n ≡ 3)) ⊎ (NamesVersionOf (λ v. pos 3 ≤ℤ v) db × X5 db n)

abbrev IsUnversioned : Database → Type 0
IsUnversioned db = (version : ℤ) → pos 0 <ℤ version → ¬ NamesVersion version db.trees

abbrev X3 : Database → ℕ → Type 0
X3 db n = (IsUnversioned db × (n ≡ 2)) ⊎ (NamesVersionOf (λ v. pos 0 <ℤ v) db × X4 db n)

abbrev X2 : Database → ℕ → Type 0
X2 db n = ((¬ StartsAs after_schema.tables db.schema) × (n ≡ 1)) ⊎ (StartsAs after_schema.tables db.schema × X3 db n)

abbrev X1 : Database → ℕ → Type 0
X1 db n =
    ((has_table (codes "schema") db.schema.tables ≡ false) × (n ≡ 2))
    ⊎ ((has_table (codes "schema") db.schema.tables ≡ true) × X2 db n)

-- the version that is named is one
one_version : (db : Database) (a b : ℤ) → NamesVersion a db.trees → NamesVersion b db.trees → a ≡ b
one_version db a b one two = let same = sym one ∙ two in cc

versions_apart : (db : Database) (P Q : ℤ → Type 0) → ((v : ℤ) → P v → Q v → ⊥) → NamesVersionOf P db → NamesVersionOf Q db → ⊥
versions_apart db P Q apart x y =
    apart y.version (subst P (one_version db x.version y.version x.named y.named) x.is) y.is

more_version : (db : Database) (P Q : ℤ → Type 0) → ((v : ℤ) → P v → Q v) → NamesVersionOf P db → NamesVersionOf Q db
more_version db P Q more x =
    record { starts = x.starts; version = x.version; is = more x.version x.is; named = x.named }

low_high : (v : ℤ) → v <ℤ pos 3 → pos 3 ≤ℤ v → ⊥
low_high v low high = omega (arith, ints, low, high)

high_is : (v : ℤ) → pos 3 <ℤ v → v ≡ pos 3 → ⊥
high_is v high is = omega (arith, ints, high, is)

above : (v : ℤ) → pos 3 <ℤ v → pos 3 ≤ℤ v
above v high = omega (arith, ints, high)

above_0 : (v : ℤ) → pos 3 <ℤ v → pos 0 <ℤ v
above_0 v high = omega (arith, ints, high)

is_above : (v : ℤ) → v ≡ pos 3 → pos 3 ≤ℤ v
is_above v is = omega (arith, ints, is)

is_above_0 : (v : ℤ) → v ≡ pos 3 → pos 0 <ℤ v
is_above_0 v is = omega (arith, ints, is)

same_x9 : (db : Database) (n m : ℕ) → X9 db n → X9 db m → n ≡ m
same_x9 db n m = level (λ n. n ≡ 7) n m 5 (λ bad good. bad good) (λ x y. x ∙ sym y)

same_x8 : (db : Database) (n m : ℕ) → X8 db n → X8 db m → n ≡ m
same_x8 db n m = level (X9 db) n m 2 (λ bad good. bad good) (same_x9 db n m)

same_x7 : (db : Database) (n m : ℕ) → X7 db n → X7 db m → n ≡ m
same_x7 db n m = level (X8 db) n m 1 (λ other is. other is) (same_x8 db n m)

same_x6 : (db : Database) (n m : ℕ) → X6 db n → X6 db m → n ≡ m
same_x6 db n m = level (X7 db) n m 2 (λ lacks has. both_ways _ lacks has) (same_x7 db n m)

same_x5 : (db : Database) (n m : ℕ) → X5 db n → X5 db m → n ≡ m
same_x5 db n m =
    level (X6 db) n m 4 (versions_apart db (λ v. pos 3 <ℤ v) (λ v. v ≡ pos 3) high_is) (same_x6 db n m)

same_x4 : (db : Database) (n m : ℕ) → X4 db n → X4 db m → n ≡ m
same_x4 db n m =
    level (X5 db) n m 3 (versions_apart db (λ v. v <ℤ pos 3) (λ v. pos 3 ≤ℤ v) low_high) (same_x5 db n m)

same_x3 : (db : Database) (n m : ℕ) → X3 db n → X3 db m → n ≡ m
same_x3 db n m =
    level (X4 db) n m 2 (λ none some. none some.version some.is some.named) (same_x4 db n m)

same_x2 : (db : Database) (n m : ℕ) → X2 db n → X2 db m → n ≡ m
same_x2 db n m = level (X3 db) n m 1 (λ other is. other is) (same_x3 db n m)

same_x1 : (db : Database) (n m : ℕ) → X1 db n → X1 db m → n ≡ m
same_x1 db n m = level (X2 db) n m 2 (λ lacks has. both_ways _ lacks has) (same_x2 db n m)

-- the table of the version is there by its name where it is the first
there_first : (schema : Schema) → StartsAs after_schema.tables schema → has_table (codes "schema") schema.tables ≡ true
unfolding same_name
there_first schema starts = rw starts.1 refl

-- so are a ledger's tables
there_all : (schema : Schema) → IsLedger schema → has_all schema.tables ≡ true
unfolding same_name
there_all schema ledger = rw ledger.tables refl

-- behind the first two questions
started : (db : Database) (n : ℕ) → StartsAs after_schema.tables db.schema → X3 db n → X1 db n
started db n starts x = inr (there_first db.schema starts, inr (starts, x))

current_x : (db : Database) (n : ℕ) → IsCurrent db → X6 db n → X1 db n
current_x db n current x =
    started db n current.starts (inr (
      more_version db (λ v. v ≡ pos 3) (λ v. pos 0 <ℤ v) is_above_0 current,
      inr (more_version db (λ v. v ≡ pos 3) (λ v. pos 3 ≤ℤ v) is_above current, inr (current, x)),
    ))

of_otherwise : (db : Database) → IsMadeOtherwise db → X1 db 1
of_otherwise db (Of_version lacks) = inr (lacks.0, inl (lacks.1, refl))
of_otherwise db (Of_ledger current lacks) = current_x db 1 current (inr (lacks.0, inl (lacks.1, refl)))

of_none : (db : Database) → IsNoLedger db → X1 db 2
of_none db (No_versions lacks) = inl (lacks, refl)
of_none db (No_version starts none) = started db 2 starts (inl (none, refl))
of_none db (No_table current lacks) = current_x db 2 current (inl (lacks, refl))
of_none db (No_name current ledger bad) =
    current_x db 2 current (inr (there_all db.schema ledger, inr (ledger, inl (bad, refl))))

module _ (no_damage : SoundHasNoDamage) (db : Database) where
  answered : (told : OpenFault) → ¬ IsUnavailable told → Warrants told db → X1 db (case_of told)
  answered fault.InUse not told = absurd told
  answered fault.Unreadable not told = of_otherwise db told
  answered fault.NotALedger not told = of_none db told
  answered fault.OldSchema not told =
      started db 3 told.starts (inr (
        more_version db (λ v. (pos 0 <ℤ v) × (v <ℤ pos 3)) (λ v. pos 0 <ℤ v) (λ v is. is.0) told,
        inl (more_version db (λ v. (pos 0 <ℤ v) × (v <ℤ pos 3)) (λ v. v <ℤ pos 3) (λ v is. is.1) told, refl),
      ))
  answered fault.NewerSchema not told =
      started db 4 told.starts (inr (
        more_version db (λ v. pos 3 <ℤ v) (λ v. pos 0 <ℤ v) above_0 told,
        inr (more_version db (λ v. pos 3 <ℤ v) (λ v. pos 3 ≤ℤ v) above told, inl (told, refl)),
      ))
  answered (fault.Damaged damage) not told =
      current_x db 5 told.current (inr (
        there_all db.schema told.ledger,
        inr (
          told.ledger,
          inr (told.names, inl (λ sound. no_damage 3 damage db.trees sound told.damaged.damaged, refl)),
        ),
      ))
  answered (fault.Unavailable why) not told = absurd (not (why, refl))

  answered_sound : IsSoundLedger db → X1 db 7
  answered_sound is =
      current_x db 7 is.current
      (inr (there_all db.schema is.ledger, inr (is.ledger, inr (is.names, inr (is.sound, refl)))))

  pub cases_apart : AreToldApart (λ fault. Warrants fault db)
  cases_apart a b one other first second =
      same_x1 db (case_of a) (case_of b) (answered a one first) (answered b other second)

  pub sound_not_refused : IsSoundLedger db → IsNoneTold (λ fault. Warrants fault db)
  sound_not_refused is = unless_available (λ fault. Warrants fault db) (λ told not tells.
      no_case_7 told (same_x1 db (case_of told) 7 (answered told not tells) (answered_sound is)))

-- of what is there to a making
module _ (schema : Schema) where
  hindered : (told : OpenFault) → ¬ IsUnavailable told → HindersMaking told schema
      → ((has_ours schema ≡ true) × (case_of told ≡ 2)) ⊎ ((has_ours schema ≡ false) × (case_of told ≡ 1))
  hindered fault.InUse not told = absurd told
  hindered fault.Unreadable not told = inr (told.0, refl)
  hindered fault.NotALedger not told = inl (told, refl)
  hindered fault.OldSchema not told = absurd told
  hindered fault.NewerSchema not told = absurd told
  hindered (fault.Damaged damage) not told = absurd told
  hindered (fault.Unavailable why) not told = absurd (not (why, refl))

  pub making_apart : AreToldApart (λ fault. HindersMaking fault schema)
  making_apart a b one other first second =
      level (λ n. n ≡ 1) (case_of a) (case_of b) 2 (λ ours none. both_ways _ none ours) (λ x y. x ∙ sym y)
      (hindered a one first) (hindered b other second)

nothing_hinders : (told : OpenFault) → ¬ IsUnavailable told → HindersMaking told no_schema → ⊥
nothing_hinders fault.InUse not told = told
nothing_hinders fault.Unreadable not told = told.1 refl
nothing_hinders fault.NotALedger not told = cc
nothing_hinders fault.OldSchema not told = told
nothing_hinders fault.NewerSchema not told = told
nothing_hinders (fault.Damaged damage) not told = told
nothing_hinders (fault.Unavailable why) not told = not (why, refl)

pub nothing_hindered : IsNoneTold (λ fault. HindersMaking fault no_schema)
nothing_hindered = unless_available (λ fault. HindersMaking fault no_schema) nothing_hinders
