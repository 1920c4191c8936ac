-- Keys of a table that tenants share.
use Rattle.std.proofs.Common.{◌≡◌, ◌&&◌, ◌<◌, ◌+◌, ◌*◌, ◌^◌, ℕ, ℤ, pos, true, List, [], ◌∷◌, drop, codes, None, refl, ap, subst, ◌∙◌}
use Rattle.std.specs.List.{AllByRecursion}
use Rattle.std.proofs.lemmas.Bool.{and_parts}
use Rattle.amount.specs.Column.{column_of, IsOneToOne}
use Rattle.sqlite_value.specs.declared.value.Value.TheVariants.{Null, Int, Real, Text, Blob}
use Rattle.sqlite_value.specs.declared.keys.Collation.TheVariants.{Binary}
use Rattle.sqlite_value.specs.Keys.{plain, first_key}
use Rattle.sqlite_value.specs.Order.{Row, column}
use Rattle.sqlite_trees.specs.Tree.{Trees}
use Rattle.sqlite_schema.specs.declared.schema.Column.{Column}
use Rattle.sqlite_schema.specs.declared.schema.Kind.TheVariants.{Integer}
use Rattle.sqlite_schema.specs.declared.schema.Table.{Table}
use Rattle.sqlite_schema.specs.Rules.{agree, are_present, are_typed, equal}
use Rattle.sqlite_rules.specs.Lists.{Has}
use Rattle.sqlite_rules.proofs.ListLemmas.{all_has}
use Rattle.rows.specs.declared.history_row.HistoryRow.{HistoryRow}
use Rattle.rows.specs.Cells.{history_cells}
use Rattle.rows.specs.Tables.{HasDistinctKeys, history_key}
use Rattle.rows.specs.Widths.{IsStorableHistory}
use Rattle.ledger_sql.specs.Schema.{column_of as typed_column}
use Rattle.ledger_sql.specs.TableRows.{cells_from, is_own, rows_in}
use Rattle.ledger_sql.specs.Values.{history_values}
use Rattle.ledger_rules.specs.Rows.{FitsAlone}
use Rattle.stored_tables.specs.Holds.{HasRows}
use Rattle.stored_ledgers.proofs.KeyValues.{IsKeyOf, same_blobs, same_ints}
use Rattle.stored_ledgers.proofs.OneRow.{one_row}
use Rattle.stored_ledgers.proofs.TenantLemmas.{is_number}

-- the column that names the tenant
abbrev pub tenant_column : Column
tenant_column = typed_column (codes "tenant") Integer

-- a row that fits such a column has a whole number there
whole_first : (cs : List Column) (x : Row) → are_typed None 0 (tenant_column ∷ cs) (drop 1 x) ≡ true
    → are_present None 0 (tenant_column ∷ cs) x ≡ true → (n : ℤ) × (column x 1 ≡ Int n)
whole_first cs [] typed present = absurd (cc)
whole_first cs (id ∷ []) typed present = absurd (cc)
whole_first cs (id ∷ Null ∷ more) typed present = absurd (cc)
whole_first cs (id ∷ Int n ∷ more) typed present = (n, refl)
whole_first cs (id ∷ Real x ∷ more) typed present = absurd (cc)
whole_first cs (id ∷ Text t ∷ more) typed present = absurd (cc)
whole_first cs (id ∷ Blob b ∷ more) typed present = absurd (cc)

-- the typed rows of a tenant's table, which have each key once
pub record IsTyped {R : Type 0} (values : R → Row) (key : R → ℕ) (fits : R → Type 0) (rows : List Row) : Type 0 where
  pub typed : List R
  pub held : HasRows values typed rows
  pub narrow : AllByRecursion fits typed
  pub once : HasDistinctKeys key typed

module _ (trees : Trees) (t : Table) (cs : List Column) (unkeyed : t.key ≡ None) (first : t.columns ≡ tenant_column ∷ cs)
    (fit : AllByRecursion (FitsAlone t) (trees t.tree)) where
  pub tenant_of : (x : Row) → Has (trees t.tree) x → (n : ℤ) × (column x 1 ≡ Int n)
  tenant_of x here =
      let fits = all_has (FitsAlone t) (trees t.tree) x fit here in
      whole_first cs x
      (subst (λ k. are_typed k 0 (tenant_column ∷ cs) (drop 1 x) ≡ true) unkeyed
      (subst (λ l. are_typed t.key 0 l (drop 1 x) ≡ true) first (and_parts _ _ fits.typed).0))
      (subst (λ k. are_present k 0 (tenant_column ∷ cs) x ≡ true) unkeyed
      (subst (λ l. are_present t.key 0 l x ≡ true) first fits.present))

  -- rows of one tenant with one key are one row
  module _ {R : Type 0} (values : R → Row) (key : R → ℕ) (fits : R → Type 0) (cols : List ℕ)
      (tells : (r s : R) → fits r → fits s → agree plain cols (values r) cols (values s) ≡ true → key r ≡ key s) (width : ℕ)
      (typed_of : (n : ℤ) (x : Row) → Has (trees t.tree) x → is_own n x ≡ true → IsTyped values key fits (rows_in t.tree width n trees))
      (places : List ℕ)
      (at : (x y : Row) → agree plain places y places x ≡ true → agree plain cols (cells_from 2 width y) cols (cells_from 2 width x) ≡ true) where
    pub tenant_key : IsKeyOf (trees t.tree) (1 ∷ places)
    unfolding first_key
    tenant_key x y here there agrees =
        let parts = and_parts (equal Binary (column y 1) (column x 1)) (agree plain places y places x) agrees in
        let n = tenant_of x here in
        let m = tenant_of y there in
        let same = same_ints m.0 n.0 (subst (λ v. equal Binary v (Int n.0) ≡ true) m.1 (subst (λ v. equal Binary (column y 1) v ≡ true) n.1 parts.0)) in
        let own = is_number (column x 1) n.0 n.1 in
        let typed = typed_of n.0 x here own in
        one_row values key fits cols tells t.tree width n.0 trees typed.typed typed.held typed.narrow typed.once x y here there own
        (is_number (column y 1) n.0 (m.1 ∙ ap Int same)) (at x y parts.1)

-- values that begin with the bytes of the key tell it
module _ (one : IsOneToOne) {R : Type 0} (values : R → Row) (key : R → ℕ) (fits : R → Type 0) (narrow : (r : R) → fits r → key r < 2 ^ 128)
    (starts : (r : R) → column (values r) 0 ≡ Blob (column_of (key r))) where
  pub id_tells : (r s : R) → fits r → fits s → agree plain (0 ∷ []) (values r) (0 ∷ []) (values s) ≡ true → key r ≡ key s
  unfolding first_key
  id_tells r s p q agrees =
      let parts = and_parts (equal Binary (column (values r) 0) (column (values s) 0)) true agrees in
      one (key r) (key s) (narrow r p) (narrow s q)
      (same_blobs (column_of (key r)) (column_of (key s))
      (subst (λ v. equal Binary v (Blob (column_of (key s))) ≡ true) (starts r) (subst (λ v. equal Binary (column (values r) 0) v ≡ true) (starts s) parts.0)))

-- so do values that have it as a number
module _ {R : Type 0} (values : R → Row) (key : R → ℕ) (fits : R → Type 0) (place : ℕ) (numbers : (r : R) → column (values r) place ≡ Int (pos (key r))) where
  pub time_tells : (r s : R) → fits r → fits s → agree plain (place ∷ []) (values r) (place ∷ []) (values s) ≡ true → key r ≡ key s
  unfolding first_key
  time_tells r s p q agrees =
      let parts = and_parts (equal Binary (column (values r) place) (column (values s) place)) true agrees in
      let same : pos (key r) ≡ pos (key s) = same_ints (pos (key r)) (pos (key s))
      (subst (λ v. equal Binary v (Int (pos (key s))) ≡ true) (numbers r) (subst (λ v. equal Binary (column (values r) place) v ≡ true) (numbers s) parts.0)) in
      cc

-- and a history row's two
pub history_tells : IsOneToOne → (r s : HistoryRow) → IsStorableHistory r → IsStorableHistory s
    → agree plain (0 ∷ 1 ∷ []) (history_values (history_cells r)) (0 ∷ 1 ∷ []) (history_values (history_cells s)) ≡ true → history_key r ≡ history_key s
unfolding first_key
history_tells one r s p q agrees =
    let account = and_parts (equal Binary (Blob (column_of r.account)) (Blob (column_of s.account))) (equal Binary (Int (pos r.timestamp)) (Int (pos s.timestamp)) && true) agrees in
    let time = and_parts (equal Binary (Int (pos r.timestamp)) (Int (pos s.timestamp))) true account.1 in
    let same_account = one r.account s.account p.account q.account (same_blobs (column_of r.account) (column_of s.account) account.0) in
    let same_time : pos r.timestamp ≡ pos s.timestamp = same_ints (pos r.timestamp) (pos s.timestamp) time.0 in
    let same : r.timestamp ≡ s.timestamp = cc in
    λ i. same_account i * 2 ^ 64 + same i
