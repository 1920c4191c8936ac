-- What an INSERT of one row does to a table of ours, with the rowid that the row has or gets.
use Rattle.std.proofs.Common.{◌≡◌, ◌≢◌, ℕ, ℤ, List, [], ◌∷◌, ◌/◌, length, map, filter, drop, slice_get, Bool, true, cond, IsTrue, Option, Some, Ok, refl, sym, ap, subst, ◌∙◌}
use Rattle.std.specs.List.{AllByRecursion}
use Rattle.std.specs.List.Sorted.{IsPermutation}
use Rattle.std.proofs.lemmas.List.Sorted.{IsPermutation-map}
use Rattle.sqlite_value.specs.declared.value.Value.TheVariants.{Int}
use Rattle.sqlite_value.specs.Order.{Row, column}
use Rattle.sqlite_trees.specs.Tree.{Trees, rowid, put_row}
use Rattle.sqlite_trees.specs.View as store
use Rattle.sqlite_trees.proofs.ListLemmas.{IsPermutation-filter}
use Rattle.sqlite_sql.specs.Term.{Term}
use Rattle.sqlite_schema.specs.declared.schema.Column.{Column}
use Rattle.sqlite_schema.specs.declared.schema.Reference.{Reference}
use Rattle.sqlite_schema.specs.declared.schema.Schema.{Schema}
use Rattle.sqlite_schema.specs.declared.schema.Table.{Table}
use Rattle.sqlite_schema.specs.declared.command.Command.TheVariants.{Insert}
use Rattle.sqlite_schema.specs.declared.command.Source.TheVariants.{Values}
use Rattle.sqlite_rules.specs.declared.error.Rowids.TheVariants.{Chosen}
use Rattle.sqlite_rules.specs.Cast.{cast_row}
use Rattle.sqlite_rules.specs.Edit.{edit_of, numbered, are_fresh, put_all, with_rowid}
use Rattle.sqlite.specs.Listing.{understood}
use Rattle.sqlite.specs.Effect.{value_rows}
use Rattle.sqlite.specs.State.{State, HasCleanDisk, Executes}
use Rattle.sqlite.proofs.Callers.{IsPlain, command_of}
use Rattle.ledger_sql.specs.Effects.{OthersStay, WritesInside, AddsRows, AddsFileRow}
use Rattle.ledger_sql.specs.Rowids.{IsNumbered}
use Rattle.ledger_sql.specs.Schema.{table}
use Rattle.ledger_sql.specs.TableRows.{is_int, cells_from}
use Rattle.ledger_sql.proofs.InsertLemmas.{placed, inserted}
use Rattle.ledger_sql.proofs.AddLemmas.{same_int, other_int, IsInserting, inserting_means}
use Rattle.ledger_sql.proofs.WriteLemmas.{WritesBy, wrote_inside, writes_stay, statement_writes}
use Rattle.ledger_sql.proofs.PutLemmas.{put_more, put_aside}
use Rattle.ledger_sql.proofs.ReplaceLemmas.{numbered_put}

-- the table has this row more, at a rowid that was free
pub record HasPut (tree : ℕ) (row : Row) (old new : State) : Type 0 where
  pub fresh : are_fresh (old.now.trees tree) (row ∷ []) ≡ true
  pub rows : new.now.trees tree ≡ put_row row (old.now.trees tree)
  pub tables : OthersStay tree old new
  pub inside : WritesInside old new

-- ---- what the row adds

module _ (tree : ℕ) (row : Row) (old new : State) (put : HasPut tree row old new) (whole : IsTrue (store.is_int (rowid row))) where
  abbrev before : List Row
  before = old.now.trees tree

  keeps_numbered : IsNumbered before → IsNumbered (new.now.trees tree)
  keeps_numbered num = subst IsNumbered (sym put.rows) (numbered_put row before whole num)

  -- to one tenant, whose number is at a place of the row
  pub adds_own : (tenant : ℤ) (place many : ℕ) (values : Row) → column row place ≡ Int tenant → cells_from 2 many row ≡ values
      → AddsRows (λ t trees. map (cells_from 2 many) (filter (λ r. is_int t (column r place)) (trees tree))) tree tenant (values ∷ []) old new
  adds_own tenant place many values own shape =
      let cells = cells_from 2 many in
      let has : ℤ → Row → Bool = λ t r. is_int t (column r place) in
      let front : map cells (filter (has tenant) (row ∷ before)) ≡ values ∷ map cells (filter (has tenant) before) =
      ap (λ b. map cells (cond b (row ∷ filter (has tenant) before) (filter (has tenant) before))) (ap (is_int tenant) own ∙ same_int tenant)
      ∙ ap (λ v. v ∷ map cells (filter (has tenant) before)) shape in
      let moved : IsPermutation (map cells (filter (has tenant) (row ∷ before))) (map cells (filter (has tenant) (put_row row before))) =
      IsPermutation-map cells (filter (has tenant) (row ∷ before)) (filter (has tenant) (put_row row before))
      (IsPermutation-filter (has tenant) (row ∷ before) (put_row row before) (put_more (row ∷ []) before put.fresh)) in
      record {
        own = subst (λ xs. IsPermutation xs (map cells (filter (has tenant) (new.now.trees tree)))) front
            (subst (λ ys. IsPermutation (map cells (filter (has tenant) (row ∷ before))) (map cells (filter (has tenant) ys))) (sym put.rows) moved);
        others = λ other ne. ap (λ ys. map cells (filter (has other) ys)) put.rows
            ∙ ap (map cells) (put_aside (has other) (row ∷ []) before put.fresh (ap (is_int other) own ∙ other_int tenant other ne, tt));
        tables = put.tables;
        inside = put.inside;
        numbered = keeps_numbered;
      }

  -- to the file
  pub adds_file_row : (show : Row → Row) (values : Row) → show row ≡ values → AddsFileRow (λ trees. map show (trees tree)) tree values old new
  adds_file_row show values shape =
      let moved : IsPermutation (map show (row ∷ before)) (map show (put_row row before)) =
      IsPermutation-map show (row ∷ before) (put_row row before) (put_more (row ∷ []) before put.fresh) in
      record {
        all = subst (λ v. IsPermutation (v ∷ map show before) (map show (new.now.trees tree))) shape
            (subst (λ ys. IsPermutation (map show (row ∷ before)) (map show ys)) (sym put.rows) moved);
        tables = put.tables;
        inside = put.inside;
        numbered = keeps_numbered;
      }

-- ---- the statement

module _ (sql : List ℕ) (params : Row) (old new : State) (schema : Schema) (has : old.now.schema ≡ schema) (at : ℕ) (terms : List Term) (width : ℕ)
    (is : command_of (understood schema sql) ≡ Insert at (Values terms width)) (plain : IsPlain (understood schema sql))
    (name : List ℕ) (tree : ℕ) (columns : List Column) (key : Option ℕ) (primary : List ℕ) (uniques : List (List ℕ)) (checks : List Term) (references : List Reference)
    (listed : slice_get schema.tables at ≡ Some (placed tree (table name columns key primary uniques checks references)))
    (source cast : Row) (gives : value_rows params width (length terms / width) terms ≡ source ∷ [])
    (casts : cast_row (placed tree (table name columns key primary uniques checks references)) source ≡ cast)
    (row : List Row → Row) (numbers : (rows : List Row) → with_rowid Chosen rows cast ≡ row rows) (inside : IsTrue old.in_transaction) where
  puts : (count : ℕ) → Executes sql params old new (Ok count) → HasPut tree (row (old.now.trees tree)) old new
  puts count h =
      let put = inserted sql params old new schema has at terms width is plain name tree columns key primary uniques checks references listed count h in
      let it = placed tree (table name columns key primary uniques checks references) in
      let db = old.now.trees in
      let news_are : (edit_of db it [] Chosen 0 put.sources).news ≡ row (db tree) ∷ [] =
      ap (λ ss. numbered Chosen (db tree) (map (λ s. cast_row it (drop 0 s)) ss)) (put.given ∙ gives) ∙ ap (λ c. numbered Chosen (db tree) (c ∷ [])) casts ∙ ap (λ x. x ∷ []) (numbers (db tree)) in
      record {
        fresh = subst (λ ns. are_fresh (db tree) ns ≡ true) news_are put.applies.fresh;
        rows = ap (λ (t : Trees). t tree) put.trees ∙ put.applies.rows ∙ ap (put_all (db tree)) news_are;
        tables = subst (λ (t : Trees). AllByRecursion (λ u. u.tree ≢ tree → t u.tree ≡ db u.tree) old.now.schema.tables) (sym put.trees)
            (subst (λ (s : Schema). AllByRecursion (λ u. u.tree ≢ tree → put.next u.tree ≡ db u.tree) s.tables) (sym has) put.applies.tables);
        inside = wrote_inside old new _ _ _ _ put.wrote inside put.schema_is;
      }

-- the contract of a function that adds one row
pub put_writes : (sql : List ℕ) (at : ℕ) (terms : List Term) (width tree : ℕ) (t : Table) (good params : Row) → params ≡ good → (source cast : Row) → value_rows good width (length terms / width) terms ≡ source ∷ []
    → cast_row (placed tree (table t.name t.columns t.key t.primary t.uniques t.checks t.references)) source ≡ cast → (row : List Row → Row) → ((rows : List Row) → with_rowid Chosen rows cast ≡ row rows)
    → (old new : State) → (HasCleanDisk old → IsInserting sql at terms width tree t old) → (Effect : State → State → Type 0) → (HasPut tree (row (old.now.trees tree)) old new → Effect old new)
    → (Effect old new → WritesInside old new) → WritesBy sql params Effect old new
put_writes sql at terms width tree t good params same source cast gives casts row numbers old new inserting Effect of within =
    statement_writes sql params old new Effect (Insert at (Values terms width)) tt (λ a. writes_stay old new (within a)) (λ clean. inserting_means (inserting clean))
    (λ clean count h. let it = inserting clean in
    of (puts sql good old new old.now.schema refl at terms width it.text.is it.text.plain t.name tree t.columns t.key t.primary t.uniques t.checks t.references it.text.listed source cast gives casts row numbers it.mode count
    (subst (λ p. Executes sql p old new (Ok count)) same h)))
