-- What the rules of a ledger's schema say of the rows in its tables.
use Rattle.std.proofs.Common.{◌≡◌, ◌||◌, ◌&&◌, ℕ, ℤ, Bool, true, false, not, IsTrue, List, [], ◌∷◌, map, filter, refl, sym, ap, subst, ◌∙◌, inl, inr, Option, Some, Equal}
use Rattle.std.specs.List.{AllByRecursion}
use Rattle.std.specs.Prelude.{slice_get, slice_index_or}
use Rattle.std.proofs.lemmas.Bool.{cases_Bool, and_parts, or_cases}
use Rattle.std.proofs.lemmas.Bool.Decides.{Decides-int_eq}
use Rattle.std.proofs.lemmas.Map.Lookups.{exact_signed}
use Rattle.std.proofs.lemmas.Slice.Eq.{bytes_eq-Decides}
use Rattle.sqlite_value.specs.declared.value.Value.{Value}
use Rattle.sqlite_value.specs.declared.value.Value.TheVariants.{Null, Int, Text, Blob}
use Rattle.sqlite_value.specs.declared.keys.Collation.TheVariants.{Binary}
use Rattle.sqlite_value.specs.Order.{Row, column, value_cmp}
use Rattle.sqlite_value.specs.Keys.{plain, first_key, joined}
use Rattle.sqlite_value.proofs.OrderLemmas.{value_cmp_total, value_cmp-Int}
use Rattle.sqlite_sql.specs.Ops.{is_null}
use Rattle.sqlite_trees.specs.Tree.{Trees, rowid}
use Rattle.sqlite_trees.specs.View.{is_int as is_whole}
use Rattle.sqlite_trees.proofs.ListLemmas.{filter_none, filter-map}
use Rattle.sqlite_schema.specs.Names.{same_name}
use Rattle.sqlite_schema.specs.Rules.{ParentKey, passes, clashes, guards, has_parent, is_held, parent_key, agree, equal}
use Rattle.sqlite_schema.specs.declared.schema.Constraint.TheVariants.{Unique, ForeignKey}
use Rattle.sqlite_schema.specs.declared.schema.Schema.{Schema}
use Rattle.sqlite_schema.specs.declared.schema.Table.{Table}
use Rattle.sqlite_rules.specs.Lists.{Has}
use Rattle.sqlite_rules.proofs.ListLemmas.{all_has, all_from, has_left, has_kept, test_has, some_has}
use Rattle.sqlite_catalog.specs.Listing.{IsSound, IsGuarded, automatic}
use Rattle.ledger_sql.specs.Effects.{IsLedger}
use Rattle.ledger_sql.specs.Rowids.{IsNumbered}
use Rattle.ledger_sql.specs.Schema.{ledger_schema, tenant_table, clock_table, account_table, transfer_table, balance_table, status_table, history_table, failed_table, to_tenant, tenant_tree}
use Rattle.ledger_sql.specs.TableRows.{is_int, is_text, is_blob, cells_from}
use Rattle.stored_tables.specs.Frames.{AreNumbered}
use Rattle.stored_ledgers.specs.Directory.{with_number, AreDistinct}
use Rattle.stored_ledgers.specs.Ledger.{HasNoRows}
use Rattle.openings.proofs.RisingRows.{few_mapped, few_numbered, few_keyed, int_tied, equal_tied}

-- a value that is this text, or these bytes, is one value
only_text : (text : List ℕ) (v : Value) → is_text text v ≡ true → v ≡ Text text
only_text text (Text t) is = ap Text ((bytes_eq-Decides t text).0 is)
only_text text v is = absurd (cc)

only_blob : (bytes : List ℕ) (v : Value) → is_blob bytes v ≡ true → v ≡ Blob bytes
only_blob bytes (Blob b) is = ap Blob ((bytes_eq-Decides b bytes).0 is)
only_blob bytes v is = absurd (cc)

-- a value that equals a whole number is not NULL
null_apart : (number : ℤ) (v : Value) → is_int number v ≡ true → (is_null v || false) ≡ true → ⊥
null_apart number Null is none = absurd (cc)
null_apart number v is none = absurd (cc)

-- a whole number that equals this one
whole_is : (number : ℤ) (v : Value) → IsTrue (is_whole v) → value_cmp v (Int number) ≡ Equal
    → is_int number v ≡ true
whole_is number (Int m) whole tied =
    (Decides-int_eq m number).1 (exact_signed m number (sym (value_cmp-Int m number) ∙ tied))
whole_is number v whole tied = absurd (cc)

nothing_made : (f : Row → Row) (rows : List Row) → map f rows ≡ [] → rows ≡ []
nothing_made f [] none = refl
nothing_made f (row ∷ rows) none = absurd (cc)

-- the tables as they stand in the schema, each with its tree
abbrev directory : Table
directory = record tenant_table { tree = tenant_tree }

abbrev entry : Row → Row
entry row = column row 0 ∷ cells_from 2 2 row

-- the directory is the parent of each reference to it
abbrev key_of_directory : Option ParentKey
key_of_directory = Some (tenant_tree, 0 ∷ [], plain)

module _ (schema : Schema) (trees : Trees) (ledger : IsLedger schema) (sound : IsSound schema trees)
    (ordered : AllByRecursion (λ t. IsNumbered (trees t.tree)) schema.tables) where
  listed : (t : Table) → Has ledger_schema.tables t → Has schema.tables t
  listed t ours = subst (λ ts. Has ts t) (sym ledger.tables) (has_left ledger_schema.tables ledger.more t ours)

  -- in each table the rowids rise
  pub are_numbered : AreNumbered trees
  are_numbered =
      all_from (λ t. IsNumbered (trees t.tree)) ledger_schema.tables
      (λ t ours. all_has (λ t. IsNumbered (trees t.tree)) schema.tables t ordered (listed t ours))

  numbered_directory : IsNumbered (trees tenant_tree)
  numbered_directory = are_numbered.1.0

  -- no two rows of the directory have one value under a unique key
  apart : (at place : ℕ) → slice_get directory.uniques at ≡ Some (place ∷ []) → (row : Row)
      → Has (trees tenant_tree) row
      → clashes (slice_index_or directory.orders at plain) (place ∷ []) (trees tenant_tree) row ≡ false
  apart at place key row here =
      let index = all_has (IsGuarded schema.indexes) schema.tables directory sound.lists.guarded
      (listed directory (inr (inl refl))) at (place ∷ []) key in
      let rule = all_has (λ row. passes Unique schema trees directory row ≡ true) (trees tenant_tree) row
      (all_has (λ t. AllByRecursion (λ row. passes Unique schema trees t row ≡ true) (trees t.tree))
      schema.tables directory (sound.obeys.rules Unique) (listed directory (inr (inl refl)))) here in
      opposite _ (test_has
      (λ i. not (guards i directory && clashes i.order i.columns (trees tenant_tree) row)) schema.indexes
      (automatic directory at (place ∷ []) index.0) rule index.1)
    where
      opposite : (b : Bool) → not b ≡ true → b ≡ false
      opposite false e = refl
      opposite true e = absurd (cc)

  -- no two tenants have one number, one name or one digest
  pub are_distinct : AreDistinct trees
  are_distinct = record {
    numbers = λ number. few_mapped (λ row. is_int number (column row 0)) entry (trees tenant_tree)
        (few_numbered number (trees tenant_tree) numbered_directory.rise);
    names = λ name. few_mapped (λ row. is_text name (column row 1)) entry (trees tenant_tree)
        (few_keyed (is_text name) (Text name) refl (only_text name) 2 (trees tenant_tree) numbered_directory (apart 0 2 refl));
    digests = λ digest. few_mapped (λ row. is_blob digest (column row 2)) entry (trees tenant_tree)
        (few_keyed (is_blob digest) (Blob digest) refl (only_blob digest) 3 (trees tenant_tree) numbered_directory (apart 1 3 refl));
  }

  parent_is : (place : ℕ) → parent_key schema.tables (to_tenant place) ≡ key_of_directory
  unfolding same_name joined
  parent_is place = ap (λ (ts : List Table). parent_key ts (to_tenant place)) ledger.tables

  -- each row's tenant stands in the directory
  stands : (t : Table) (place : ℕ) → Has ledger_schema.tables t → Has t.references (to_tenant place) → (row : Row)
      → Has (trees t.tree) row → has_parent schema.tables trees row (to_tenant place) ≡ true
  stands t place ours refers row here =
      test_has (has_parent schema.tables trees row) t.references (to_tenant place)
      (all_has (λ row. passes ForeignKey schema trees t row ≡ true) (trees t.tree) row
      (all_has (λ t. AllByRecursion (λ row. passes ForeignKey schema trees t row ≡ true) (trees t.tree))
      schema.tables t (sound.obeys.rules ForeignKey) (listed t ours)) here) refers

  module _ (number : ℤ) (none : with_number number trees ≡ []) where
    no_parent : (row : Row) → Has (trees tenant_tree) row → is_int number (column row 0) ≡ true → ⊥
    no_parent row here is =
        let found = has_kept (λ row. is_int number (column row 0)) (trees tenant_tree) row here is in
        let nothing = nothing_made entry _
        (sym (filter-map (λ row. is_int number (column row 0)) entry (trees tenant_tree)) ∙ none) in
        subst (λ rows. Has rows row) nothing found

    held_by : (place : ℕ) (row : Row) → is_int number (column row place) ≡ true
        → is_held trees (place ∷ []) row key_of_directory ≡ true → ⊥
    unfolding first_key
    held_by place row own held =
        let parent = some_has (λ parent. agree plain (0 ∷ []) parent (place ∷ []) row) (trees tenant_tree) held in
        let alike : equal Binary (column parent.0 0) (column row place) ≡ true = (and_parts _ _ parent.2).0 in
        let tied = equal_tied (column parent.0 0) (column row place) alike in
        let whole = all_has (λ r. IsTrue (is_whole (rowid r))) (trees tenant_tree) parent.0 numbered_directory.whole parent.1 in
        no_parent parent.0 parent.1 (whole_is number (column parent.0 0) whole
        (value_cmp_total.congr (column parent.0 0) (column row place) (Int number) tied
        ∙ int_tied number (column row place) own))

    -- no row of this table is that of a tenant which is not in the directory
    none_owned : (t : Table) (place : ℕ) → Has ledger_schema.tables t → Has t.references (to_tenant place)
        → filter (λ row. is_int number (column row place)) (trees t.tree) ≡ []
    none_owned t place ours refers =
        filter_none (λ row. is_int number (column row place)) (trees t.tree)
        (all_from (λ row. is_int number (column row place) ≡ false) (trees t.tree) (λ row here.
        elim (cases_Bool (is_int number (column row place))) [
          | inl own ↦ absurd (elim (or_cases _ _ (stands t place ours refers row here)) [
            | inl null ↦ null_apart number (column row place) own null
            | inr held ↦ held_by place row own
                (subst (λ key. is_held trees (place ∷ []) row key ≡ true) (parent_is place) held)
          ])
          | inr other ↦ other
        ]))

    pub no_rows_of : HasNoRows number trees
    no_rows_of = record {
      clock = ap (map (cells_from 2 1)) (none_owned (record clock_table { tree = 4 }) 0 (inr (inr (inl refl))) (inl refl));
      accounts = ap (map (cells_from 2 8)) (none_owned (record account_table { tree = 5 }) 1 (inr (inr (inr (inl refl)))) (inl refl));
      transfers = ap (map (cells_from 2 14))
          (none_owned (record transfer_table { tree = 8 }) 1 (inr (inr (inr (inr (inl refl))))) (inl refl));
      balances = ap (map (cells_from 2 5))
          (none_owned (record balance_table { tree = 11 }) 1 (inr (inr (inr (inr (inr (inl refl)))))) (inl refl));
      statuses = ap (map (cells_from 2 3))
          (none_owned (record status_table { tree = 13 }) 1 (inr (inr (inr (inr (inr (inr (inl refl))))))) (inl refl));
      history = ap (map (cells_from 2 6))
          (none_owned (record history_table { tree = 15 }) 1 (inr (inr (inr (inr (inr (inr (inr (inl refl)))))))) (inl refl));
      failed = ap (map (cells_from 2 1))
          (none_owned (record failed_table { tree = 17 }) 1 (inr (inr (inr (inr (inr (inr (inr (inr (inl refl))))))))) (inl refl));
    }
