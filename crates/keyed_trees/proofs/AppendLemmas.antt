-- A row that is added at a rowid that no row has.
use Rattle.std.proofs.Common.{◌≡◌, ℕ, ℤ, List, [], ◌∷◌, ◌++◌, filter, Result, Ok, Err, OnOk, sym, ap, subst, ◌∙◌}
use Rattle.sqlite_value.specs.declared.value.Value.TheVariants.{Int}
use Rattle.sqlite_value.specs.Order.{Row}
use Rattle.sqlite_trees.specs.declared.store.Shape.TheVariants.{Table}
use Rattle.sqlite_trees.specs.Tree.{rowid, has_rowid, put_row}
use Rattle.sqlite_trees.specs.View.{View, IsShaped}
use Rattle.sqlite_sql.specs.declared.query.Index.{Index}
use Rattle.sqlite_exec.specs.Calls.{OnlyReads, SetsTable}
use Rattle.sqlite_rules.specs.Edit.{next_rowid}
use Rattle.sqlite_rules.proofs.ViewLemmas.{reads_then_sets, sets_rows}
use Rattle.keyed_trees.specs.StoreCalls.{AddsRowAt, AppendsRow}
use Rattle.keyed_trees.proofs.RowidLemmas.{next_is_free, put_row-next}

module _ (old mid : View) (table : ℕ) (id : ℤ) (row columns : Row) (same : OnlyReads old mid) (shaped : IsShaped Table (old.trees table)) (next : next_rowid (old.trees table) ≡ id) (is : row ≡ Int id ∷ columns) where
  pub is_free : (other : ℤ) → rowid row ≡ Int other → filter (has_rowid other) (mid.trees table) ≡ []
  is_free other at =
      let here : Int id ≡ Int other = sym (ap rowid is) ∙ at in
      let same_id : id ≡ other = cc in
      subst (λ (v : View). filter (has_rowid other) (v.trees table) ≡ []) (sym same)
      (subst (λ n. filter (has_rowid n) (old.trees table) ≡ []) (next ∙ same_id) (next_is_free (old.trees table) shaped.0 shaped.1))

  pub appended : (catalog : List Index) (new : View) → SetsTable catalog mid new table (put_row row (mid.trees table)) → AppendsRow catalog table columns old new
  appended catalog new sets =
      let rows = old.trees table in
      let after_read : View = record old { cursors = mid.cursors } in
      let at : SetsTable catalog after_read new table (put_row row rows) = subst (λ (v : View). SetsTable catalog v new table (put_row row (v.trees table))) same sets in
      let behind : put_row row rows ≡ rows ++ (Int (next_rowid rows) ∷ columns) ∷ [] = ap (λ r. put_row r rows) (is ∙ ap (λ n. Int n ∷ columns) (sym next)) ∙ put_row-next columns rows shaped.0 shaped.1 in
      sets_rows catalog old new table _ _ behind (reads_then_sets catalog old mid new table (put_row row rows) same at)

-- a clause on an answer, at what follows from it
pub on_ok : {A E P Q : Type 0} (r : Result A E) → OnOk r P → (P → Q) → OnOk r Q
on_ok (Ok x) it f = f it
on_ok (Err e) it f = tt

-- a row that was put where a read had found none
pub added_at : (old mid new : View) (catalog : List Index) (table : ℕ) (id : ℤ) (row columns : Row) → OnlyReads old mid → filter (has_rowid id) (old.trees table) ≡ [] → row ≡ Int id ∷ columns → SetsTable catalog mid new table (put_row row (mid.trees table))
    → AddsRowAt catalog table id columns old new
added_at old mid new catalog table id row columns same free is sets =
    let after_read : View = record old { cursors = mid.cursors } in
    let at : SetsTable catalog after_read new table (put_row row (old.trees table)) = subst (λ (v : View). SetsTable catalog v new table (put_row row (v.trees table))) same sets in
    (free, subst (λ r. SetsTable catalog old new table (put_row r (old.trees table))) is (reads_then_sets catalog old mid new table (put_row row (old.trees table)) same at))
