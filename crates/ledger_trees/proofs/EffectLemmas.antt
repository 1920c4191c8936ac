-- What a call does to a table over trees, as its tenants see it.
use Rattle.std.proofs.Common.{◌≡◌, ◌≢◌, ℕ, ℤ, suc, Bool, true, false, not, cond, ◌&&◌, ◌==◌, List, [], ◌∷◌, ◌++◌, map, filter, refl, sym, ap, subst, ◌∙◌, IsPermutation, IsTrue}
use Rattle.std.specs.List.{AllByRecursion, list_all}
use Rattle.std.proofs.lemmas.Bool.{eqb-false}
use Rattle.std.proofs.lemmas.List.Elements.{filter-append}
use Rattle.std.proofs.lemmas.List.{map-append}
use Rattle.std.proofs.lemmas.List.Sorted.{IsPermutation-map, IsPermutation-sym, IsPermutation-to_front}
use Rattle.sqlite_value.specs.declared.value.Value.TheVariants.{Int}
use Rattle.sqlite_value.specs.Order.{Row, column}
use Rattle.sqlite_trees.specs.Tree.{Trees, rowid, put_row}
use Rattle.sqlite_trees.specs.View.{is_int as is_number}
use Rattle.sqlite_trees.proofs.ListLemmas.{IsPermutation-filter, filter-map, filter_same, all_of, all-filter}
use Rattle.sqlite_trees.proofs.TreeLemmas.{IsTable-put_row, all-put_row}
use Rattle.sqlite_rules.specs.Edit.{id_in, next_rowid}
use Rattle.sqlite_rules.proofs.TableLemmas.{int_is}
use Rattle.sqlite_schema.specs.declared.schema.Table.{Table}
use Rattle.sqlite.specs.State.{State}
use Rattle.keyed_trees.specs.Effects as effect
use Rattle.keyed_trees.specs.Layout.{KeyShape}
use Rattle.keyed_trees.specs.Rows.{has_key}
use Rattle.ledger_sql.specs.Effects.{AddsRows, SetsOne, SetsRow, OthersStay}
use Rattle.ledger_sql.specs.Rowids.{IsNumbered}
use Rattle.ledger_sql.specs.Schema.{ledger_schema}
use Rattle.ledger_sql.specs.TableRows.{is_blob, is_own, cells_from, rows_in, has_id}
use Rattle.ledger_layout.specs.Keys.{by_id, ledger_keys}
use Rattle.ledger_layout.proofs.FrameLemmas.{inside}
use Rattle.ledger_layout.proofs.KeyLemmas.{filter_both, id_key, keyed, shown}
use Rattle.ledger_trees.proofs.NextLemmas.{numbered_next}
use Rattle.ledger_trees.proofs.RowLemmas.{one_mapped, replaced, kept_aside, it_passes, same_int, other_int, one_number}

-- where no key stands in the tree of a table, no table but the one that was written has changed
no_key : (t : ℕ) (keys : List KeyShape) → list_all (λ k. not (k.tree == t)) keys ≡ true → AllByRecursion (λ k. k.tree ≢ t) keys
no_key t [] none = tt
no_key t (k ∷ keys) none = at (k.tree == t) refl none (no_key t keys)
  where
    at : (b : Bool) → (k.tree == t) ≡ b → (not b && list_all (λ k. not (k.tree == t)) keys) ≡ true → (list_all (λ k. not (k.tree == t)) keys ≡ true → AllByRecursion (λ k. k.tree ≢ t) keys) → AllByRecursion (λ k. k.tree ≢ t) (k ∷ keys)
    at true is none more = absurd (cc)
    at false is none more = (eqb-false k.tree t is, more none)

both_are : (a b : Bool) → (a && b) ≡ true → (a ≡ true) × (b ≡ true)
both_are true b e = (refl, e)
both_are false b e = absurd (cc)

stay_in : (tables : List Table) (keys : List KeyShape) (table : ℕ) (old new : Trees) → list_all (λ (t : Table). list_all (λ k. not (k.tree == t.tree)) keys) tables ≡ true → effect.OthersStay keys table old new
    → AllByRecursion (λ (t : Table). t.tree ≢ table → new t.tree ≡ old t.tree) tables
stay_in [] keys table old new none stay = tt
stay_in (t ∷ tables) keys table old new none stay =
    let parts = both_are (list_all (λ k. not (k.tree == t.tree)) keys) (list_all (λ (t : Table). list_all (λ k. not (k.tree == t.tree)) keys) tables) none in
    (λ other. stay t.tree other (no_key t.tree keys parts.0), stay_in tables keys table old new parts.1 stay)

-- every other table keeps its rows
pub tables_stay : (table : ℕ) (old new : State) → old.now.schema ≡ ledger_schema → effect.OthersStay ledger_keys table old.now.trees new.now.trees → OthersStay table old new
tables_stay table old new ledger stay =
    subst (λ s. AllByRecursion (λ (t : Table). t.tree ≢ table → new.now.trees t.tree ≡ old.now.trees t.tree) s.tables) (sym ledger) (stay_in ledger_schema.tables ledger_keys table old.now.trees new.now.trees refl stay)

module _ (table others : ℕ) (tenant : ℤ) (v : Row) (shows : (id : ℤ) → cells_from 2 (suc others) (Int id ∷ Int tenant ∷ v) ≡ v) (old new : State) (ledger : old.now.schema ≡ ledger_schema) where
  abbrev cells : Row → Row
  cells = cells_from 2 (suc others)

  abbrev rows : List Row
  rows = old.now.trees table

  -- the tenant's rows after the others of its table
  pub adds : effect.AppendsTo ledger_keys table (Int tenant ∷ v) old new → AddsRows (rows_in table (suc others)) table tenant (v ∷ []) old new
  adds it =
      let id = next_rowid rows in
      let added : Row = Int id ∷ Int tenant ∷ v in
      let seen : (q : Row → Bool) → filter q (new.now.trees table) ≡ filter q rows ++ filter q (added ∷ []) = λ q. ap (filter q) it.rows ∙ filter-append q rows (added ∷ []) in
      let mine : filter (is_own tenant) (added ∷ []) ≡ added ∷ [] = ap (λ b. cond b (added ∷ []) []) (same_int tenant) in
      let own : rows_in table (suc others) tenant new.now.trees ≡ rows_in table (suc others) tenant old.now.trees ++ v ∷ [] =
      ap (map cells) (seen (is_own tenant) ∙ ap (λ xs. filter (is_own tenant) rows ++ xs) mine) ∙ map-append cells (filter (is_own tenant) rows) (added ∷ [])
      ∙ ap (λ x. rows_in table (suc others) tenant old.now.trees ++ x ∷ []) (shows id) in
      record {
        own = subst (IsPermutation (v ∷ rows_in table (suc others) tenant old.now.trees)) (sym own) (IsPermutation-sym _ _ (IsPermutation-to_front (rows_in table (suc others) tenant old.now.trees) v));
        others = λ other ne.
            let out : filter (is_own other) (added ∷ []) ≡ [] = ap (λ b. cond b (added ∷ []) []) (other_int tenant other ne) in
            ap (map cells) (seen (is_own other) ∙ ap (λ xs. filter (is_own other) rows ++ xs) out) ∙ map-append cells (filter (is_own other) rows) [] ∙ no_more (map cells (filter (is_own other) rows));
        tables = tables_stay table old new ledger it.others;
        inside = inside old new it.inside;
        numbered = λ numbered. subst IsNumbered (sym it.rows) (numbered_next (Int tenant ∷ v) rows numbered);
      }
    where
      no_more : (xs : List Row) → xs ++ [] ≡ xs
      no_more [] = refl
      no_more (x ∷ xs) = ap (λ ys. x ∷ ys) (no_more xs)

  module _ (id : List ℕ) where
    abbrev test : Row → Bool
    test = has_key (by_id table) (id_key table tenant id)

    -- the rows of the tenant that do not have the id
    rest_is : map cells (filter (is_own tenant) (filter (λ x. not (test x)) rows)) ≡ filter (λ r. not (has_id id r)) (rows_in table (suc others) tenant old.now.trees)
    rest_is =
        ap (map cells) (filter_both (λ x. not (test x)) (is_own tenant) rows
        ∙ filter_same (λ x. not (test x) && is_own tenant x) (λ x. is_own tenant x && not (is_blob id (column x 2))) rows
        (all_of _ (λ x. ap (λ t. not t && is_own tenant x) (keyed table tenant id x) ∙ inner (is_own tenant x) (is_blob id (column x 2))) rows)
        ∙ sym (filter_both (is_own tenant) (λ x. not (is_blob id (column x 2))) rows))
        ∙ sym (filter-map (λ r. not (has_id id r)) cells (filter (is_own tenant) rows))
      where
        inner : (o t : Bool) → (not (o && t) && o) ≡ (o && not t)
        inner true true = refl
        inner true false = refl
        inner false true = refl
        inner false false = refl

    -- the one row that has the key is replaced
    sets_one : effect.SetsByKey ledger_keys (by_id table) (id_key table tenant id) (Int tenant ∷ v) old new → (was : Row) → filter test rows ≡ was ∷ [] → IsNumbered rows → SetsRow (rows_in table (suc others)) table tenant (has_id id) v old new
    sets_one it was one numbered =
        let number = id_in (rowid was) in
        let whole : IsTrue (is_number (rowid was)) = (subst (AllByRecursion (λ r. IsTrue (is_number (rowid r)))) one (all-filter (λ r. IsTrue (is_number (rowid r))) test rows numbered.whole)).0 in
        let same : rowid was ≡ Int number = int_is (rowid was) whole in
        let later : Row = Int number ∷ Int tenant ∷ v in
        let rows_are : new.now.trees table ≡ put_row later rows = it.one was one in
        let passes : (is_own tenant was && is_blob id (column was 2)) ≡ true = sym (keyed table tenant id was) ∙ it_passes test was later same rows one in
        let own = (both_are (is_own tenant was) (is_blob id (column was 2)) passes).0 in
        let moved = IsPermutation-map cells _ _ (IsPermutation-filter (is_own tenant) (later ∷ filter (λ x. not (test x)) rows) (put_row later rows) (replaced test was later same rows numbered.rise one)) in
        let front : map cells (filter (is_own tenant) (later ∷ filter (λ x. not (test x)) rows)) ≡ v ∷ filter (λ r. not (has_id id r)) (rows_in table (suc others) tenant old.now.trees) =
        ap (λ b. map cells (cond b (later ∷ filter (is_own tenant) (filter (λ x. not (test x)) rows)) (filter (is_own tenant) (filter (λ x. not (test x)) rows)))) (same_int tenant)
        ∙ (λ j. shows number j ∷ rest_is j) in
        record {
          own = subst (λ xs. IsPermutation (v ∷ filter (λ r. not (has_id id r)) (rows_in table (suc others) tenant old.now.trees)) (map cells (filter (is_own tenant) xs))) (sym rows_are)
              (subst (λ xs. IsPermutation xs (map cells (filter (is_own tenant) (put_row later rows)))) front moved);
          others = λ other ne.
              ap (λ xs. map cells (filter (is_own other) xs)) rows_are
              ∙ ap (map cells) (kept_aside test was later same (is_own other) (one_number tenant other (column was 1) ne own) (other_int tenant other ne) rows numbered.rise one);
          tables = tables_stay table old new ledger it.others;
          inside = inside old new it.inside;
          numbered = subst IsNumbered (sym rows_are)
              (record { rise = IsTable-put_row later rows numbered.rise; whole = all-put_row (λ r. IsTrue (is_number (rowid r))) later rows refl numbered.whole });
        }

    pub sets : effect.SetsByKey ledger_keys (by_id table) (id_key table tenant id) (Int tenant ∷ v) old new → SetsOne (rows_in table (suc others)) table tenant (has_id id) v old new
    sets it = record {
      inside = inside old new it.inside;
      one = λ row single numbered.
          let found = one_mapped cells (filter test rows) row (shown table tenant id others old.now.trees ∙ single) in
          sets_one it found.0 found.1 numbered;
    }
