-- A database in which a tenant's key was changed.
use Rattle.std.proofs.Common.{◌≡◌, ◌≢◌, ◌⊎◌, inl, inr, ℕ, ◌≤◌, ℤ, Bool, true, false, not, cond, Some, None, option_map, List, [], ◌∷◌, map, filter, length, refl, sym, ap, subst, ◌∙◌, arith}
use Rattle.std.specs.BTreeMap.{get}
use Rattle.std.specs.List.Sorted.{IsPermutation}
use Rattle.std.specs.Ordering.{int_cmp, int_eq}
use Rattle.std.specs.Str.{bytes_eq}
use Rattle.std.proofs.lemmas.Bool.{cases_Bool}
use Rattle.std.proofs.lemmas.List.Sorted.{IsPermutation-refl, IsPermutation-sym, IsPermutation-trans, IsPermutation-cons, IsPermutation-middle}
use Rattle.std.proofs.lemmas.Slice.Eq.{bytes_eq-Decides}
use Rattle.sqlite_value.specs.Order.{Row, column}
use Rattle.sqlite_trees.specs.Tree.{Trees}
use Rattle.sqlite_trees.proofs.ListLemmas.{IsPermutation-filter, all-filter, all-permutation}
use Rattle.sqlite.specs.Effect.{Database}
use Rattle.ledger_sql.specs.Effects.{IsLedger}
use Rattle.ledger_sql.specs.TableRows.{directory_rows, cells_from, is_int, is_text, is_blob}
use Rattle.ledger_sql.specs.Values.{directory_values}
use Rattle.stored_tables.specs.Holds.{HoldsMachine}
use Rattle.stored_tables.specs.MachineOf.{machine_of}
use Rattle.stored_ledgers.specs.Directory.{with_number, with_name, with_digest, IsEntry, first_number, number_of, tenants_in}
use Rattle.stored_ledgers.specs.DirectoryLaws.{filter_head, only_among}
use Rattle.stored_ledgers.specs.DueSets.{DueSet, DueSets, CoversMachine, AreCovered}
use Rattle.stored_ledgers.specs.Keying.{IsKeyed, MovesKey, without_number}
use Rattle.stored_ledgers.specs.Ledger.{HoldsLedgers}
use Rattle.stored_ledgers.proofs.FreeLemmas.{same_short}
use Rattle.stored_ledgers.proofs.JoinedLemmas.{filtered, few_new}
use Rattle.stored_ledgers.proofs.LedgerLemmas.{machine_kept, held_kept, none_kept}
use Rattle.stored_ledgers.proofs.TenantLemmas.{among_filter, is_number}

-- where nothing passes, nothing is left out
none_out : (p : Row → Bool) (xs : List Row) → filter p xs ≡ [] → filter (λ x. not (p x)) xs ≡ xs
none_out p [] none = refl
none_out p (x ∷ xs) none = elim (p x) as (λ b. cond b (x ∷ filter p xs) (filter p xs) ≡ []
    → cond (not b) (x ∷ filter (λ x. not (p x)) xs) (filter (λ x. not (p x)) xs) ≡ x ∷ xs) [
      | true ↦ λ e. absurd (cc)
      | false ↦ λ e. ap (λ ys. x ∷ ys) (none_out p xs e)
    ] none

-- the one that passes and those that do not are all
pub one_apart : (p : Row → Bool) (x : Row) (xs : List Row) → filter p xs ≡ x ∷ []
    → IsPermutation (x ∷ filter (λ y. not (p y)) xs) xs
one_apart p x [] one = absurd (cc)
one_apart p x (y ∷ ys) one =
    let rest = filter (λ y. not (p y)) ys in
    elim (p y) as (λ b. cond b (y ∷ filter p ys) (filter p ys) ≡ x ∷ []
    → IsPermutation (x ∷ cond (not b) (y ∷ filter (λ y. not (p y)) ys) (filter (λ y. not (p y)) ys)) (y ∷ ys)) [
      | true ↦ λ e.
          let same : y ≡ x = cc in
          let none : filter p ys ≡ [] = cc in
          subst (λ xs. IsPermutation xs (y ∷ ys)) (λ i. same i ∷ sym (none_out p ys none) i)
          (IsPermutation-refl (y ∷ ys))
      | false ↦ λ e. IsPermutation-trans (x ∷ y ∷ rest) (y ∷ x ∷ rest) (y ∷ ys)
          (IsPermutation-middle (x ∷ []) y rest)
          (IsPermutation-cons y (x ∷ rest) ys (one_apart p x ys e))
    ] one

-- the tenant with a name is the one with its number
pub one_numbered : (name : List ℕ) (number : ℤ) (was : List ℕ) (trees : Trees)
    → length (with_number number trees) ≤ 1
    → with_name name trees ≡ directory_values number name was ∷ []
    → with_number number trees ≡ directory_values number name was ∷ []
one_numbered name number was trees few named =
    let row = directory_values number name was in
    let among = (filter_head _ (directory_rows trees) row [] named).0 in
    only_among (with_number number trees) row few
    (among_filter (λ row. is_int number (column row 0)) (directory_rows trees) row among
    (is_number (column row 0) number refl))

-- what passes a test where one row is replaced by another
module _ (p : Row → Bool) (was : Row) (rest old : List Row) (all : IsPermutation (was ∷ rest) old)
    (few : length (filter p old) ≤ 1) where
  pub before : filter p (was ∷ rest) ≡ filter p old
  before = same_short _ _ (IsPermutation-sym _ _ (IsPermutation-filter p _ _ all)) few

  pub few_rest : length (filter p rest) ≤ 1
  few_rest = elim (p was) as (λ b. length (cond b (was ∷ filter p rest) (filter p rest)) ≤ 1
      → length (filter p rest) ≤ 1) [
        | true ↦ λ e. omega (arith, e)
        | false ↦ λ e. e
      ] (subst (λ rows. length rows ≤ 1) (sym before) few)

  pub alone_rest : p was ≡ true → filter p rest ≡ []
  alone_rest passes = elim (p was) as (λ b. b ≡ true
      → length (cond b (was ∷ filter p rest) (filter p rest)) ≤ 1 → filter p rest ≡ []) [
        | true ↦ λ is e. short (filter p rest) e
        | false ↦ λ is. absurd (cc)
      ] passes (subst (λ rows. length rows ≤ 1) (sym before) few)
    where
      short : (rows : List Row) → length (was ∷ rows) ≤ 1 → rows ≡ []
      short [] e = refl
      short (row ∷ rows) e = absurd (omega arith)

  none_rest : filter p old ≡ [] → filter p rest ≡ []
  none_rest none = elim (p was) as (λ b. cond b (was ∷ filter p rest) (filter p rest) ≡ []
      → filter p rest ≡ []) [
        | true ↦ λ e. absurd (cc)
        | false ↦ λ e. e
      ] (before ∙ none)

module _ (name digest : List ℕ) (old new : Database) (ledgers : HoldsLedgers old)
    (keyed : IsKeyed name digest old new) where
  abbrev number : ℤ
  number = keyed.number

  abbrev was : List ℕ
  was = keyed.was

  abbrev had_row : Row
  had_row = directory_values number name was

  abbrev has_row : Row
  has_row = directory_values number name digest

  abbrev rest : List Row
  rest = without_number number old.trees

  apart : IsPermutation (had_row ∷ rest) (directory_rows old.trees)
  apart = one_apart (λ row. is_int number (column row 0)) had_row (directory_rows old.trees)
      (one_numbered name number was old.trees (ledgers.distinct.numbers number) keyed.named)

  number_was : number_of was old.trees ≡ Some number
  unfolding number_of
  number_was =
      let p : Row → Bool = λ row. is_blob was (column row 2) in
      let kept = filter p rest in
      ap first_number (sym (before p had_row rest (directory_rows old.trees) apart (ledgers.distinct.digests was)))
      ∙ ap (λ b. first_number (cond b (had_row ∷ kept) kept)) ((bytes_eq-Decides was was).1 refl)

  had_machine : tenants_in old.trees was ≡ Some (machine_of number old.trees)
  had_machine = ap (option_map (λ n. machine_of n old.trees)) number_was

  module _ (none : with_digest digest old.trees ≡ []) where
    few_at : (p : Row → Bool) → length (filter p (directory_rows old.trees)) ≤ 1
        → length (filter p rest) ≤ 1
    few_at p few = few_rest p had_row rest (directory_rows old.trees) apart few

    alone_at : (p : Row → Bool) → length (filter p (directory_rows old.trees)) ≤ 1
        → p had_row ≡ true → filter p rest ≡ []
    alone_at p few = alone_rest p had_row rest (directory_rows old.trees) apart few

    none_at : (d : List ℕ) → bytes_eq digest d ≡ true
        → filter (λ row. is_blob d (column row 2)) rest ≡ []
    none_at d same =
        let is : digest ≡ d = (bytes_eq-Decides digest d).0 same in
        none_rest (λ row. is_blob d (column row 2)) had_row rest (directory_rows old.trees) apart
        (ledgers.distinct.digests d) (subst (λ d. with_digest d old.trees ≡ []) is none)

    -- the number of a digest: of the new one, of the old one, of any other
    number_new : (d : List ℕ) → ((d ≡ digest) × (number_of d new.trees ≡ Some number))
        ⊎ ((d ≢ digest) × (((d ≡ was) × (number_of d new.trees ≡ None))
        ⊎ ((d ≢ was) × (number_of d new.trees ≡ number_of d old.trees))))
    unfolding number_of
    number_new d =
        let p : Row → Bool = λ row. is_blob d (column row 2) in
        let few = ledgers.distinct.digests d in
        let kept = filter p rest in
        let found = ap first_number (filtered p has_row rest (directory_rows new.trees) keyed.directory
        (none_at d) (few_at p few)) in
        let had = ap first_number (before p had_row rest (directory_rows old.trees) apart few) in
        elim (cases_Bool (bytes_eq digest d)) [
          | inl same ↦ inl (
            sym ((bytes_eq-Decides digest d).0 same),
            found ∙ ap (λ b. first_number (cond b (has_row ∷ kept) kept)) same,
          )
          | inr differs ↦
              let left = found ∙ ap (λ b. first_number (cond b (has_row ∷ kept) kept)) differs in
              inr (
                (λ same. absurd (let e = (bytes_eq-Decides digest d).1 (sym same) in cc)),
                elim (cases_Bool (bytes_eq was d)) [
                  | inl own ↦ inl (
                    sym ((bytes_eq-Decides was d).0 own),
                    left ∙ ap first_number (alone_at p few own),
                  )
                  | inr other ↦ inr (
                    (λ same. absurd (let e = (bytes_eq-Decides was d).1 (sym same) in cc)),
                    left ∙ sym (ap (λ b. first_number (cond b (had_row ∷ kept) kept)) other) ∙ had,
                  )
                ],
              )
        ]

    none_before : (n : ℤ) → with_number n new.trees ≡ [] → with_number n old.trees ≡ []
    none_before n none_now =
        let p : Row → Bool = λ row. is_int n (column row 0) in
        let few = ledgers.distinct.numbers n in
        let kept = filter p rest in
        sym (before p had_row rest (directory_rows old.trees) apart few)
        ∙ elim (int_eq number n) as (λ b. cond b (has_row ∷ kept) kept ≡ [] → cond b (had_row ∷ kept) kept ≡ []) [
          | true ↦ λ e. absurd (cc)
          | false ↦ λ e. e
        ] (sym (filtered p has_row rest (directory_rows new.trees) keyed.directory (alone_at p few) (few_at p few)) ∙ none_now)

    few_after : (p : Row → Bool) → (p has_row ≡ true → filter p rest ≡ [])
        → length (filter p (directory_rows old.trees)) ≤ 1
        → length (filter p (directory_rows new.trees)) ≤ 1
    few_after p alone few = few_new p has_row rest (directory_rows new.trees) keyed.directory alone (few_at p few)

    held_at : (d : List ℕ) (n : ℤ) → number_of d old.trees ≡ Some n
        → HoldsMachine n (machine_of n new.trees) new.trees
    held_at d n is = held_kept n old.trees new.trees (keyed.rows n) (ledgers.machines d n is)

    ledgers_moved : HoldsLedgers new
    ledgers_moved = record {
      schema = subst IsLedger (sym keyed.schema) ledgers.schema;
      version = ap (map (cells_from 2 1)) keyed.version ∙ ledgers.version;
      numbered = keyed.numbered;
      entries = all-permutation IsEntry _ _ keyed.directory (
        record { name = name; named = refl; digest = digest; known = refl },
        all-filter IsEntry (λ row. not (is_int number (column row 0))) (directory_rows old.trees) ledgers.entries,
      );
      distinct = record {
        numbers = λ n. few_after (λ row. is_int n (column row 0))
            (alone_at (λ row. is_int n (column row 0)) (ledgers.distinct.numbers n)) (ledgers.distinct.numbers n);
        names = λ n. few_after (λ row. is_text n (column row 1))
            (alone_at (λ row. is_text n (column row 1)) (ledgers.distinct.names n)) (ledgers.distinct.names n);
        digests = λ d. few_after (λ row. is_blob d (column row 2)) (none_at d) (ledgers.distinct.digests d);
      };
      machines = λ d n is. elim (number_new d) [
        | inl own ↦
            let same : number ≡ n = let e = sym own.1 ∙ is in cc in
            subst (λ n. HoldsMachine n (machine_of n new.trees) new.trees) same (held_at was number number_was)
        | inr (_, inl gone) ↦ absurd (let e = sym gone.1 ∙ is in cc)
        | inr (_, inr other) ↦ held_at d n (sym other.1 ∙ is)
      ];
      owned = λ n none_now. none_kept n old.trees new.trees (keyed.rows n)
          (ledgers.owned n (none_before n none_now));
    }

    covered_at : (sets : DueSets) → AreCovered sets old.trees → (d : List ℕ) (n : ℤ)
        → number_of d old.trees ≡ Some n
        → (set : DueSet) × (get int_cmp sets n ≡ Some set) × CoversMachine set (machine_of n new.trees)
    covered_at sets covered d n had =
        let there = covered d n had in (
          there.0,
          there.1,
          subst (CoversMachine there.0) (sym (machine_kept n old.trees new.trees (keyed.rows n))) there.2,
        )

    sets_moved : (sets : DueSets) → AreCovered sets old.trees → AreCovered sets new.trees
    sets_moved sets covered d n is = elim (number_new d) [
      | inl own ↦ covered_at sets covered was n (number_was ∙ sym own.1 ∙ is)
      | inr (_, inl gone) ↦ absurd (let e = sym gone.1 ∙ is in cc)
      | inr (_, inr other) ↦ covered_at sets covered d n (sym other.1 ∙ is)
    ]

    no_machine : tenants_in old.trees digest ≡ None
    unfolding number_of
    no_machine = ap (λ rows. option_map (λ n. machine_of n old.trees) (first_number rows)) none

    same_machine : (n : ℤ) → machine_of n new.trees ≡ machine_of n old.trees
    same_machine n = machine_kept n old.trees new.trees (keyed.rows n)

    same_tenant : (d : List ℕ) → number_of d new.trees ≡ number_of d old.trees
        → tenants_in new.trees d ≡ tenants_in old.trees d
    same_tenant d same =
        ap (option_map (λ n. machine_of n new.trees)) same
        ∙ of (number_of d old.trees)
      where
        of : (o : _) → option_map (λ n. machine_of n new.trees) o ≡ option_map (λ n. machine_of n old.trees) o
        of None = refl
        of (Some n) = ap Some (same_machine n)

    key_moved : MovesKey was digest (tenants_in old.trees) (tenants_in new.trees)
    key_moved = record {
      machine = machine_of number old.trees;
      had = had_machine;
      has = elim (number_new digest) [
        | inl own ↦ ap (option_map (λ n. machine_of n new.trees)) own.1 ∙ ap Some (same_machine number)
        | inr other ↦ absurd (other.0 refl)
      ];
      free = λ differs. no_machine;
      gone = λ differs. elim (number_new was) [
        | inl own ↦ absurd (differs own.0)
        | inr (_, inl gone) ↦ ap (option_map (λ n. machine_of n new.trees)) gone.1
        | inr (_, inr other) ↦ absurd (other.0 refl)
      ];
      others = λ d not_was not_digest. elim (number_new d) [
        | inl own ↦ absurd (not_digest own.0)
        | inr (_, inl gone) ↦ absurd (not_was gone.0)
        | inr (_, inr other) ↦ same_tenant d other.1
      ];
    }

  -- the database still holds ledgers, and sets still cover them
  pub ledgers_keyed : HoldsLedgers new
  ledgers_keyed = elim keyed.free [
    | inl same ↦ subst HoldsLedgers (sym (keyed.again same)) ledgers
    | inr none ↦ ledgers_moved none
  ]

  pub sets_keyed : (sets : DueSets) → AreCovered sets old.trees → AreCovered sets new.trees
  sets_keyed sets covered = elim keyed.free [
    | inl same ↦ subst (λ (db : Database). AreCovered sets db.trees) (sym (keyed.again same)) covered
    | inr none ↦ sets_moved none sets covered
  ]

  -- the tenant's machine stands under the new digest
  pub moves_key : MovesKey was digest (tenants_in old.trees) (tenants_in new.trees)
  moves_key = elim keyed.free [
    | inl same ↦
        let again : (d : List ℕ) → tenants_in new.trees d ≡ tenants_in old.trees d =
        λ d. ap (λ (db : Database). tenants_in db.trees d) (keyed.again same) in record {
          machine = machine_of number old.trees;
          had = had_machine;
          has = again digest ∙ ap (tenants_in old.trees) (sym same) ∙ had_machine;
          free = λ differs. absurd (differs same);
          gone = λ differs. absurd (differs same);
          others = λ d not_was not_digest. again d;
        }
    | inr none ↦ key_moved none
  ]
