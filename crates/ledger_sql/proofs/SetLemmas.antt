-- What an UPDATE of one tenant's row does to the tenants' rows.
use Rattle.std.proofs.Common.{◌≡◌, ◌≢◌, ℕ, ℤ, List, [], ◌∷◌, map, filter, slice_get, Bool, true, false, not, cond, ◌&&◌, ◌==◌, IsTrue, Some, Ok, refl, sym, ap, subst, ◌∙◌, arith}
use Rattle.std.proofs.lemmas.Bool.Decides.{Decides-int_eq}
use Rattle.std.proofs.lemmas.List.Elements.{filter_passes}
use Rattle.std.specs.List.{All, AllByRecursion, list_any, list_all}
use Rattle.std.specs.List.Sorted.{IsPermutation}
use Rattle.std.proofs.lemmas.List.Sorted.{IsPermutation-map}
use Rattle.std.specs.Ordering.{int_eq, is_eq}
use Rattle.std.specs.declared.cmp.Ordering.{Ordering}
use Rattle.std.specs.declared.cmp.Ordering.TheVariants.{Less, Equal, Greater}
use Rattle.sqlite_value.specs.declared.value.Value.{Value}
use Rattle.sqlite_value.specs.declared.value.Value.TheVariants.{Null, Int, Real, Text, Blob}
use Rattle.sqlite_value.specs.Order.{Row, column, value_cmp}
use Rattle.sqlite_value.proofs.OrderLemmas.{value_cmp-Int, value_cmp_total}
use Rattle.sqlite_trees.specs.Tree.{Trees, rowid, put_row, without_rowid}
use Rattle.sqlite_trees.specs.View as store
use Rattle.sqlite_trees.proofs.ListLemmas.{IsPermutation-filter, filter-map, all_of, filter_same, all-filter}
use Rattle.sqlite_sql.specs.Term.{Term, col, eval_all, holds}
use Rattle.sqlite_schema.specs.declared.schema.Table.{Table}
use Rattle.sqlite_schema.specs.declared.schema.Schema.{Schema}
use Rattle.sqlite_schema.specs.declared.command.Command.TheVariants.{Update}
use Rattle.sqlite_rules.specs.Edit.{id_in, are_fresh}
use Rattle.sqlite_rules.specs.Cast.{cast, cast_all}
use Rattle.sqlite_schema.specs.declared.schema.Kind.TheVariants.{Integer}
use Rattle.sqlite.specs.Listing.{understood}
use Rattle.sqlite.specs.State.{State, HasCleanDisk, Executes}
use Rattle.sqlite.proofs.Callers.{IsPlain, command_of}
use Rattle.ledger_sql.specs.Effects.{IsLedger, IsInside, WritesInside, SetsRow, SetsOne}
use Rattle.ledger_sql.specs.Rowids.{IsNumbered}
use Rattle.ledger_sql.specs.Schema.{ledger_schema, table}
use Rattle.ledger_sql.specs.TableRows.{is_int, cells_from}
use Rattle.ledger_sql.proofs.InsertLemmas.{placed}
use Rattle.ledger_sql.proofs.AddLemmas.{cast_whole, same_int, other_int}
use Rattle.ledger_sql.proofs.WriteLemmas.{WritesBy, wrote_inside, writes_stay, statement_writes}
use Rattle.ledger_sql.proofs.AnswerLemmas.{plain_query}
use Rattle.ledger_sql.proofs.KeyLemmas.{filter_both}
use Rattle.ledger_sql.proofs.PutLemmas.{put_more, put_aside}
use Rattle.ledger_sql.proofs.ReplaceLemmas.{taken_out, not_missed, numbered_put, numbered_out, one_mapped, int_of}
use Rattle.ledger_sql.proofs.UpdateLemmas.{HasUpdated, no_works, updated, update_schema}

-- no value equals two numbers
pub one_number : (tenant other : ℤ) (v : Value) → other ≢ tenant → is_int tenant v ≡ true → is_int other v ≡ false
one_number tenant other Null ne own = refl
one_number tenant other (Int m) ne own = let same : m ≡ tenant = (Decides-int_eq m tenant).0 own in ap (λ n. int_eq n other) same ∙ other_int tenant other ne
one_number tenant other (Real x) ne own =
    let tied : value_cmp (Real x) (Int tenant) ≡ Equal = equal_of _ own in
    ap is_eq (value_cmp_total.congr (Real x) (Int tenant) (Int other) tied ∙ value_cmp-Int tenant other) ∙ other_int tenant other ne
  where
    equal_of : (o : Ordering) → is_eq o ≡ true → o ≡ Equal
    equal_of Less e = absurd (cc)
    equal_of Equal e = refl
    equal_of Greater e = absurd (cc)
one_number tenant other (Text t) ne own = refl
one_number tenant other (Blob b) ne own = refl

-- the text replaces the row of the table that stands at this place of our schema
pub record IsUpdateText (sql : List ℕ) (schema : Schema) (at : ℕ) (terms set : List Term) (tree : ℕ) (t : Table) : Type 0 where
  pub is : command_of (understood schema sql) ≡ Update at (record { lets = []; body = plain_query tree terms (col 1 0 ∷ col 1 0 ∷ set) [] })
  pub plain : IsPlain (understood schema sql)
  pub listed : slice_get schema.tables at ≡ Some (placed tree (table t.name t.columns t.key t.primary t.uniques t.checks t.references))

both_are : (a b : Bool) → (a && b) ≡ true → (a ≡ true) × (b ≡ true)
both_are true b e = (refl, e)
both_are false b e = absurd (cc)

inner : (o t : Bool) → (not (o && t) && o) ≡ (o && not t)
inner true true = refl
inner true false = refl
inner false true = refl
inner false false = refl

-- The place names the column that has the tenant's number; the row is set to all its values.
module _ (sql : List ℕ) (at : ℕ) (terms set : List Term) (tree : ℕ) (t : Table) (means : (s : Schema) → IsLedger s → IsUpdateText sql s at terms set tree t)
    (ours : list_any (λ u. u.tree == tree) ledger_schema.tables ≡ true) (tenant : ℤ) (place many : ℕ) (test : Row → Bool)
    (values full good params : Row) (same : params ≡ good) (passes_is : (r : Row) → list_all (holds (good ∷ r ∷ [])) terms ≡ (is_int tenant (column r place) && test (cells_from 2 many r)))
    (sets : (r : Row) → eval_all set (good ∷ r ∷ []) ≡ full) (casts : cast_all t.columns full ≡ full) (shape : (id : ℤ) → cells_from 2 many (Int id ∷ full) ≡ values)
    (keeps : (r : Row) (id : ℤ) → column r 0 ≡ Int id → is_int tenant (column r place) ≡ true → column (Int id ∷ full) place ≡ Int tenant) (old new : State) where
  abbrev has : ℤ → Row → Bool
  has other r = is_int other (column r place)

  abbrev view : ℤ → Trees → List Row
  view other trees = map (cells_from 2 many) (filter (has other) (trees tree))

  abbrev p : Row → Bool
  p r = has tenant r && test (cells_from 2 many r)

  abbrev cells : Row → Row
  cells = cells_from 2 many

  abbrev pub Set : Type 0
  Set = SetsOne view tree tenant test values old new

  module _ (inside : IsInside old) (count : ℕ) (ran : Executes sql good old new (Ok count)) where
    text : IsUpdateText sql old.now.schema at terms set tree t
    text = means old.now.schema inside.schema

    passing : filter (λ r. list_all (holds (good ∷ r ∷ [])) terms) (old.now.trees tree) ≡ filter p (old.now.trees tree)
    passing = filter_same (λ r. list_all (holds (good ∷ r ∷ [])) terms) p (old.now.trees tree) (all_of _ passes_is (old.now.trees tree))

    set_inside : WritesInside old new
    set_inside =
        let up = update_schema sql good old new at tree (no_works old.now.schema inside.schema tree ours) t text.listed terms set text.is text.plain count ran in
        wrote_inside old new _ _ _ _ up.1 inside.mode up.0

    module _ (row : Row) (one : filter test (view tenant old.now.trees) ≡ row ∷ []) (num : IsNumbered (old.now.trees tree)) where
      abbrev rows : List Row
      rows = old.now.trees tree

      abbrev own : Row → Bool
      own = has tenant

      one_row : (r : Row) × (filter p rows ≡ r ∷ []) × (cells r ≡ row)
      one_row = one_mapped cells (filter p rows) row (sym (filter-map test cells (filter own rows) ∙ ap (map cells) (filter_both own (λ r. test (cells r)) rows)) ∙ one)

      abbrev r : Row
      r = one_row.0

      r_passes : p r ≡ true
      r_passes = subst (All (λ x. p x ≡ true)) one_row.1 (filter_passes p rows) 0 r (omega arith)

      id_of : (id : ℤ) × (rowid r ≡ Int id)
      id_of = int_of (rowid r) (subst (AllByRecursion (λ x. IsTrue (store.is_int (rowid x)))) one_row.1 (all-filter (λ x. IsTrue (store.is_int (rowid x))) p rows num.whole)).0

      abbrev n : Row
      n = Int id_of.0 ∷ full

      column_n : column n place ≡ Int tenant
      column_n = keeps r id_of.0 id_of.1 (both_are (own r) (test (cells r)) r_passes).0

      abbrev ys : List Row
      ys = without_rowid id_of.0 rows

      abbrev up : HasUpdated sql good old new at tree (no_works old.now.schema inside.schema tree ours) t text.listed terms set text.is text.plain r
      up = (updated sql good old new at tree (no_works old.now.schema inside.schema tree ours) t text.listed terms set text.is text.plain count ran r (passing ∙ one_row.1)).0

      id_path : id_in (column r 0) ≡ id_of.0
      id_path = ap id_in id_of.1

      x_path : cast Integer (column r 0) ∷ cast_all t.columns (eval_all set (good ∷ r ∷ [])) ≡ n
      x_path i = (ap (cast Integer) id_of.1 ∙ cast_whole id_of.0) i ∷ (ap (cast_all t.columns) (sets r) ∙ casts) i

      new_tree : new.now.trees tree ≡ put_row n ys
      new_tree = ap (λ (t : Trees). t tree) up.trees ∙ up.applies.rows ∙ (λ i. put_row (x_path i) (without_rowid (id_path i) rows))

      fresh : are_fresh ys (n ∷ []) ≡ true
      fresh = sym (λ i. are_fresh (without_rowid (id_path i) rows) (x_path i ∷ [])) ∙ up.applies.fresh

      out : ys ≡ filter (λ x. not (p x)) rows
      out = taken_out p r id_of.0 id_of.1 rows num one_row.1

      rest : map cells (filter own ys) ≡ filter (λ r. not (test r)) (view tenant old.now.trees)
      rest =
          ap (λ zs. map cells (filter own zs)) out
          ∙ ap (map cells) (filter_both (λ x. not (p x)) own rows ∙ filter_same (λ x. not (p x) && own x) (λ x. own x && not (test (cells x))) rows (all_of _ (λ x. inner (own x) (test (cells x))) rows))
          ∙ sym (filter-map (λ r. not (test r)) cells (filter own rows) ∙ ap (map cells) (filter_both own (λ x. not (test (cells x))) rows))

      front : map cells (filter own (n ∷ ys)) ≡ values ∷ filter (λ r. not (test r)) (view tenant old.now.trees)
      front = ap (λ b. map cells (cond b (n ∷ filter own ys) (filter own ys))) (ap (is_int tenant) column_n ∙ same_int tenant) ∙ (λ i. shape id_of.0 i ∷ rest i)

      moved : IsPermutation (map cells (filter own (n ∷ ys))) (view tenant new.now.trees)
      moved = subst (λ zs. IsPermutation (map cells (filter own (n ∷ ys))) (map cells (filter own zs))) (sym new_tree)
          (IsPermutation-map cells (filter own (n ∷ ys)) (filter own (put_row n ys)) (IsPermutation-filter own (n ∷ ys) (put_row n ys) (put_more (n ∷ []) ys fresh)))

      no_other : (other : ℤ) → other ≢ tenant → AllByRecursion (λ x. has other x ≡ false) (filter p rows)
      no_other other ne = subst (AllByRecursion (λ x. has other x ≡ false)) (sym one_row.1) (one_number tenant other (column r place) ne (both_are (own r) (test (cells r)) r_passes).0, tt)

      pub sets_row : SetsRow view tree tenant test values old new
      sets_row =
          record {
            own = subst (λ zs. IsPermutation zs (view tenant new.now.trees)) front moved;
            others = λ other ne. ap (λ zs. map cells (filter (has other) zs)) new_tree
                ∙ ap (map cells) (put_aside (has other) (n ∷ []) ys fresh (ap (is_int other) column_n ∙ other_int tenant other ne, tt) ∙ ap (filter (has other)) out ∙ not_missed p (has other) rows (no_other other ne));
            tables = subst (λ (trees : Trees). AllByRecursion (λ u. u.tree ≢ tree → trees u.tree ≡ old.now.trees u.tree) old.now.schema.tables) (sym up.trees) up.applies.tables;
            inside = set_inside;
            numbered = subst IsNumbered (sym new_tree) (numbered_put n ys refl (numbered_out id_of.0 rows num));
          }

  set_by : HasCleanDisk old → (HasCleanDisk old → IsInside old) → (count : ℕ) → Executes sql params old new (Ok count) → Set
  set_by clean inside count ran =
      let good_ran = subst (λ q. Executes sql q old new (Ok count)) same ran in
      record { inside = set_inside (inside clean) count good_ran; one = λ row one num. sets_row (inside clean) count good_ran row one num }

  -- the contract of a function that replaces one row of a tenant
  pub set_writes : (HasCleanDisk old → IsInside old) → WritesBy sql params (SetsOne view tree tenant test values) old new
  set_writes inside =
      statement_writes sql params old new (SetsOne view tree tenant test values) (Update at (record { lets = []; body = plain_query tree terms (col 1 0 ∷ col 1 0 ∷ set) [] })) tt (λ a. writes_stay old new a.inside)
      (λ clean. let it = inside clean in let text = means old.now.schema it.schema in (it.mode, (old.now.schema, refl, text.is, text.plain))) (λ clean. set_by clean inside)
