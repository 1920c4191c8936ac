-- A database that a tenant has joined.
use Rattle.std.proofs.Common.{◌≡◌, ◌≢◌, ◌⊎◌, inl, inr, ℕ, ◌≤◌, ℤ, pos, Bool, true, false, cond, Option, Some, None, option_map, List, [], ◌∷◌, map, filter, length, refl, sym, ap, subst, ◌∙◌, arith}
use Rattle.std.specs.BTreeMap.{get}
use Rattle.std.specs.BTreeSet.{contains}
use Rattle.std.specs.List.Sorted.{IsPermutation}
use Rattle.std.specs.Ordering.{int_cmp, int_eq, is_eq, nat_cmp}
use Rattle.std.specs.Str.{bytes_eq}
use Rattle.std.proofs.lemmas.Bool.{cases_Bool}
use Rattle.std.proofs.lemmas.Bool.Decides.{Decides-int_eq}
use Rattle.std.proofs.lemmas.List.Elements.{All-nil}
use Rattle.std.proofs.lemmas.Slice.Eq.{bytes_eq-Decides}
use Rattle.records.specs.Machine.{new_machine}
use Rattle.rows.specs.Prescribed.{rows_for}
use Rattle.sqlite_keyed.specs.Lists.{sort_by}
use Rattle.sqlite_value.specs.Order.{Row, column}
use Rattle.sqlite_trees.specs.Tree.{Trees}
use Rattle.sqlite_trees.proofs.ListLemmas.{IsPermutation-filter, all-permutation}
use Rattle.sqlite.specs.Effect.{Database}
use Rattle.ledger_sql.specs.Effects.{IsLedger}
use Rattle.ledger_sql.specs.TableRows.{directory_rows, cells_from, is_int, is_text, is_blob}
use Rattle.ledger_sql.specs.Values.{directory_values}
use Rattle.stored_tables.specs.Covers.{IsCovered}
use Rattle.stored_tables.specs.Holds.{HoldsMachine}
use Rattle.stored_tables.specs.MachineOf.{machine_of, account_of, transfer_of, clock_of, wide}
use Rattle.stored_ledgers.specs.Directory.{with_number, with_name, with_digest, IsEntry, first_number, number_of, tenants_in}
use Rattle.stored_ledgers.specs.DueSets.{DueSet, DueSets, due_cmp, CoversMachine, AreCovered}
use Rattle.stored_ledgers.specs.Joining.{Joins, AddsTenant}
use Rattle.stored_ledgers.specs.Ledger.{HoldsLedgers}
use Rattle.stored_ledgers.proofs.FreeLemmas.{no_row, same_short}
use Rattle.stored_ledgers.proofs.LedgerLemmas.{machine_kept, held_kept, none_kept}
use Rattle.stored_ledgers.specs.DueSetLaws.{same_number, other_key}
use Rattle.stored_ledgers.proofs.TenantLemmas.{has_row}

-- what passes a test after one row more
module _ (p : Row → Bool) (row : Row) (old new : List Row) (more : IsPermutation (row ∷ old) new)
    (alone : p row ≡ true → filter p old ≡ []) (few : length (filter p old) ≤ 1) where
  few_more : length (filter p (row ∷ old)) ≤ 1
  few_more = elim (p row) as (λ b. p row ≡ b → length (cond b (row ∷ filter p old) (filter p old)) ≤ 1) [
    | true ↦ λ e. omega (arith, ap length (alone e))
    | false ↦ λ e. few
  ] refl

  pub filtered : filter p new ≡ filter p (row ∷ old)
  filtered = same_short _ _ (IsPermutation-filter p _ _ more) few_more

  pub few_new : length (filter p new) ≤ 1
  few_new = subst (λ rows. length rows ≤ 1) (sym filtered) few_more

machine_new : (number : ℤ) (trees : Trees) → HoldsMachine number new_machine trees
    → machine_of number trees ≡ new_machine
unfolding machine_of rows_for
machine_new number trees held =
    let accounts = no_row _ held.rows.accounts in
    let transfers = no_row _ held.rows.transfers in
    let failed = no_row _ held.rows.failed in λ i. record {
      accounts = sort_by (λ a b. nat_cmp a.timestamp b.timestamp) (map account_of (accounts i));
      transfers = sort_by (λ s t. nat_cmp s.timestamp t.timestamp) (map transfer_of (transfers i));
      clock = clock_of (held.rows.clock i);
      failed = sort_by nat_cmp (map (λ row. wide (column row 0)) (failed i));
    }

-- any set covers a new machine
covers_new : (set : DueSet) → CoversMachine set new_machine
unfolding rows_for
covers_new set = record { all = All-nil (IsCovered (contains due_cmp set)) }

module _ (number : ℕ) (name digest : List ℕ) (old new : Database) (ledgers : HoldsLedgers old)
    (no_name : with_name name old.trees ≡ []) (no_digest : with_digest digest old.trees ≡ [])
    (free : with_number (pos number) old.trees ≡ []) (joins : Joins number name digest old new) where
  abbrev entry : Row
  entry = directory_values (pos number) name digest

  numbered_as : (n : ℤ) → int_eq (pos number) n ≡ true → with_number n old.trees ≡ []
  numbered_as n e = subst (λ n. with_number n old.trees ≡ []) ((Decides-int_eq (pos number) n).0 e) free

  digested_as : (d : List ℕ) → bytes_eq digest d ≡ true → with_digest d old.trees ≡ []
  digested_as d e = subst (λ d. with_digest d old.trees ≡ []) ((bytes_eq-Decides digest d).0 e) no_digest

  named_as : (n : List ℕ) → bytes_eq name n ≡ true → with_name n old.trees ≡ []
  named_as n e = subst (λ n. with_name n old.trees ≡ []) ((bytes_eq-Decides name n).0 e) no_name

  number_new : (d : List ℕ) → ((d ≡ digest) × (number_of d new.trees ≡ Some (pos number)))
      ⊎ ((d ≢ digest) × (number_of d new.trees ≡ number_of d old.trees))
  unfolding number_of
  number_new d =
      let p : Row → Bool = λ row. is_blob d (column row 2) in
      let rest = filter p (directory_rows old.trees) in
      let found = ap first_number (filtered p entry (directory_rows old.trees) (directory_rows new.trees)
      joins.directory (digested_as d) (ledgers.distinct.digests d)) in
      elim (cases_Bool (bytes_eq digest d)) [
        | inl same ↦ inl (
          sym ((bytes_eq-Decides digest d).0 same),
          found ∙ ap (λ b. first_number (cond b (entry ∷ rest) rest)) same,
        )
        | inr differs ↦ inr (
          (λ same. absurd (let e = (bytes_eq-Decides digest d).1 (sym same) in cc)),
          found ∙ ap (λ b. first_number (cond b (entry ∷ rest) rest)) differs,
        )
      ]

  same_other : (n : ℤ) → n ≢ pos number → with_number n new.trees ≡ with_number n old.trees
  same_other n differs =
      let p : Row → Bool = λ row. is_int n (column row 0) in
      let rest = filter p (directory_rows old.trees) in
      filtered p entry (directory_rows old.trees) (directory_rows new.trees) joins.directory
      (numbered_as n) (ledgers.distinct.numbers n)
      ∙ elim (cases_Bool (int_eq (pos number) n)) [
        | inl same ↦ absurd (differs (sym ((Decides-int_eq (pos number) n).0 same)))
        | inr apart ↦ ap (λ b. cond b (entry ∷ rest) rest) apart
      ]

  has_entry : with_number (pos number) new.trees ≢ []
  has_entry none =
      let p : Row → Bool = λ row. is_int (pos number) (column row 0) in
      let rest = filter p (directory_rows old.trees) in
      let same = filtered p entry (directory_rows old.trees) (directory_rows new.trees) joins.directory
      (numbered_as (pos number)) (ledgers.distinct.numbers (pos number)) in
      let here = ap (λ b. cond b (entry ∷ rest) rest) ((Decides-int_eq (pos number) (pos number)).1 refl) in
      absurd (let e = sym here ∙ sym same ∙ none in cc)

  not_free : (d : List ℕ) (n : ℤ) → number_of d old.trees ≡ Some n → n ≢ pos number
  not_free d n is same =
      has_row d n old.trees is (subst (λ n. with_number n old.trees ≡ []) (sym same) free)

  held_new : HoldsMachine (pos number) (machine_of (pos number) new.trees) new.trees
  held_new =
      let held = joins.holds (ledgers.owned (pos number) free) in
      subst (λ m. HoldsMachine (pos number) m new.trees) (sym (machine_new (pos number) new.trees held)) held

  -- the database holds the new tenant's ledger too
  pub ledgers_joined : HoldsLedgers new
  ledgers_joined = record {
    schema = subst IsLedger (sym joins.schema) ledgers.schema;
    version = ap (map (cells_from 2 1)) joins.version ∙ ledgers.version;
    numbered = joins.numbered;
    entries = all-permutation IsEntry _ _ joins.directory
        (record { name = name; named = refl; digest = digest; known = refl }, ledgers.entries);
    distinct = record {
      numbers = λ n. few_new (λ row. is_int n (column row 0)) entry (directory_rows old.trees) _
          joins.directory (numbered_as n) (ledgers.distinct.numbers n);
      names = λ n. few_new (λ row. is_text n (column row 1)) entry (directory_rows old.trees) _
          joins.directory (named_as n) (ledgers.distinct.names n);
      digests = λ d. few_new (λ row. is_blob d (column row 2)) entry (directory_rows old.trees) _
          joins.directory (digested_as d) (ledgers.distinct.digests d);
    };
    machines = λ d n is. elim (number_new d) [
      | inl own ↦
          let same : pos number ≡ n = let e = sym own.1 ∙ is in cc in
          subst (λ n. HoldsMachine n (machine_of n new.trees) new.trees) same held_new
      | inr other ↦
          let was = sym other.1 ∙ is in
          held_kept n old.trees new.trees (joins.others n (not_free d n was)) (ledgers.machines d n was)
    ];
    owned = λ n none. elim (same_number n (pos number)) [
      | inl same ↦ absurd (has_entry (subst (λ n. with_number n new.trees ≡ []) same none))
      | inr differs ↦ none_kept n old.trees new.trees (joins.others n differs)
          (ledgers.owned n (sym (same_other n differs) ∙ none))
    ];
  }

  none_before : tenants_in old.trees digest ≡ None
  unfolding number_of
  none_before = ap (λ rows. option_map (λ n. machine_of n old.trees) (first_number rows)) no_digest

  own_after : tenants_in new.trees digest ≡ Some new_machine
  own_after = elim (number_new digest) [
    | inl own ↦
        ap (option_map (λ n. machine_of n new.trees)) own.1
        ∙ ap Some (machine_new (pos number) new.trees (joins.holds (ledgers.owned (pos number) free)))
    | inr other ↦ absurd (other.0 refl)
  ]

  kept_after : (d : List ℕ) (was : Option ℤ) → number_of d old.trees ≡ was
      → number_of d new.trees ≡ number_of d old.trees
      → tenants_in new.trees d ≡ tenants_in old.trees d
  kept_after d None is same =
      ap (option_map (λ n. machine_of n new.trees)) (same ∙ is)
      ∙ sym (ap (option_map (λ n. machine_of n old.trees)) is)
  kept_after d (Some n) is same =
      ap (option_map (λ n. machine_of n new.trees)) (same ∙ is)
      ∙ ap Some (machine_kept n old.trees new.trees (joins.others n (not_free d n is)))
      ∙ sym (ap (option_map (λ n. machine_of n old.trees)) is)

  -- the tenant has a new machine, and every other machine is as before
  pub adds_tenant : AddsTenant digest (tenants_in old.trees) (tenants_in new.trees)
  adds_tenant = record {
    none = none_before;
    own = own_after;
    others = λ d differs. elim (number_new d) [
      | inl own ↦ absurd (differs own.0)
      | inr other ↦ kept_after d (number_of d old.trees) refl other.1
    ];
  }

  -- and sets with one more for it cover every machine
  pub sets_joined : (sets sets' : DueSets) (set : DueSet) → AreCovered sets old.trees
      → get int_cmp sets' (pos number) ≡ Some set
      → ((n : ℤ) → is_eq (int_cmp (pos number) n) ≡ false → get int_cmp sets' n ≡ get int_cmp sets n)
      → AreCovered sets' new.trees
  sets_joined sets sets' set covered found others d n is = elim (number_new d) [
    | inl own ↦
        let same : pos number ≡ n = let e = sym own.1 ∙ is in cc in
        let machine = machine_new (pos number) new.trees (joins.holds (ledgers.owned (pos number) free)) in (
          set,
          ap (get int_cmp sets') (sym same) ∙ found,
          subst (λ n. CoversMachine set (machine_of n new.trees)) same
              (subst (CoversMachine set) (sym machine) (covers_new set)),
        )
    | inr other ↦
        let was = sym other.1 ∙ is in
        let covers = covered d n was in
        let differs = not_free d n was in (
          covers.0,
          others n (other_key (pos number) n differs) ∙ covers.1,
          subst (CoversMachine covers.0)
              (sym (machine_kept n old.trees new.trees (joins.others n differs))) covers.2,
        )
  ]

-- sets with the same entries cover the same
pub same_entries : (trees : Trees) (sets sets' : DueSets) → sets'.entries ≡ sets.entries
    → AreCovered sets trees → AreCovered sets' trees
same_entries trees sets sets' same covered d n is =
    let covers = covered d n is in
    (covers.0, rw same covers.1, covers.2)

-- sets with one more for a number that no tenant has cover what they covered
pub sets_more : (number : ℕ) (trees : Trees) (sets sets' : DueSets)
    → with_number (pos number) trees ≡ []
    → ((n : ℤ) → is_eq (int_cmp (pos number) n) ≡ false → get int_cmp sets' n ≡ get int_cmp sets n)
    → AreCovered sets trees → AreCovered sets' trees
sets_more number trees sets sets' free others covered d n is =
    let covers = covered d n is in
    let differs : n ≢ pos number = λ same.
    has_row d n trees is (subst (λ n. with_number n trees ≡ []) (sym same) free) in
    (covers.0, others n (other_key (pos number) n differs) ∙ covers.1, covers.2)
