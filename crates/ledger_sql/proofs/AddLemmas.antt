-- What an INSERT of one tenant's rows adds.
use Rattle.std.proofs.Common.{◌≡◌, ◌≢◌, ℕ, ℤ, List, [], ◌∷◌, ◌++◌, ◌/◌, length, map, filter, slice_get, Bool, true, false, cond, IsTrue, Some, Option, Ok, refl, sym, ap, subst, ◌∙◌}
use Rattle.std.specs.List.{AllByRecursion}
use Rattle.std.specs.List.Sorted.{IsPermutation}
use Rattle.sqlite_value.specs.declared.value.Value.{Value}
use Rattle.sqlite_value.specs.declared.value.Value.TheVariants.{Null, Int}
use Rattle.sqlite_value.specs.Order.{Row}
use Rattle.sqlite_trees.specs.Tree.{Trees, rowid, put_row}
use Rattle.sqlite_sql.specs.Term.{Term}
use Rattle.sqlite_schema.specs.declared.schema.Column.{Column}
use Rattle.sqlite_schema.specs.declared.schema.Reference.{Reference}
use Rattle.sqlite_schema.specs.declared.schema.Table.{Table}
use Rattle.sqlite_schema.specs.declared.schema.Schema.{Schema}
use Rattle.sqlite_schema.specs.declared.command.Command.TheVariants.{Insert}
use Rattle.sqlite_schema.specs.declared.command.Source.TheVariants.{Values}
use Rattle.sqlite_rules.specs.declared.error.Rowids.TheVariants.{Chosen}
use Rattle.sqlite_rules.specs.Edit.{edit_of, put_all, numbered, are_fresh}
use Rattle.sqlite_rules.specs.Cast.{cast_row, cast_all}
use Rattle.sqlite.specs.Listing.{understood}
use Rattle.sqlite.specs.Effect.{value_rows}
use Rattle.sqlite.specs.State.{State, HasCleanDisk, Executes}
use Rattle.std.proofs.lemmas.Bool.Decides.{Decides-int_eq}
use Rattle.std.specs.Bool.{Decides}
use Rattle.std.proofs.lemmas.List.{map-append}
use Rattle.std.proofs.lemmas.List.Elements.{filter-append}
use Rattle.std.proofs.lemmas.List.Sorted.{IsPermutation-map}
use Rattle.sqlite_trees.proofs.ListLemmas.{IsPermutation-filter}
use Rattle.ledger_sql.specs.Creating.{IsMaking}
use Rattle.sqlite_schema.specs.declared.schema.Kind.TheVariants.{Integer}
use Rattle.sqlite_rules.specs.Cast.{cast}
use Rattle.sqlite_sql.specs.Ops.{unary}
use Rattle.std.specs.Ordering.{int_eq}
use Rattle.std.proofs.Common.{drop}
use Rattle.ledger_sql.specs.TableRows.{is_own, cells_from, rows_in}
use Rattle.ledger_sql.specs.Effects.{IsInside, AddsRows}
use Rattle.ledger_sql.specs.Rowids.{IsNumbered}
use Rattle.ledger_sql.proofs.ReplaceLemmas.{numbered_put}
use Rattle.sqlite_trees.specs.View.{is_int}
use Rattle.ledger_sql.proofs.PutLemmas.{AreNumbered, chosen, put_more, put_aside}
use Rattle.sqlite.proofs.Callers.{IsPlain, command_of}
use Rattle.ledger_sql.specs.Schema.{balance_schema, ledger_schema, table}
use Rattle.ledger_sql.proofs.InsertLemmas.{placed, inserted}
use Rattle.ledger_sql.proofs.OverTables.{IsBefore, over_ledger}
use Rattle.ledger_sql.proofs.WriteLemmas.{Means, WritesBy, wrote_inside, writes_stay, statement_writes}

pub cast_null : cast Integer Null ≡ Null
unfolding unary
cast_null = either _ Null
  where
    either : (b : Bool) (x : Value) → cond b x x ≡ x
    either true x = refl
    either false x = refl

pub cast_whole : (n : ℤ) → cast Integer (Int n) ≡ Int n
unfolding unary
cast_whole n = either _ (Int n)
  where
    either : (b : Bool) (x : Value) → cond b x x ≡ x
    either true x = refl
    either false x = refl

-- the values are those that the columns take, behind the tenant's number
abbrev pub AreTaken : List Column → ℤ → ℕ → List Row → Type 0
AreTaken columns tenant many = AllByRecursion (λ v. (cast_all columns (Int tenant ∷ v) ≡ Int tenant ∷ v) × ((id : ℤ) → cells_from 2 many (Int id ∷ Int tenant ∷ v) ≡ v))

module _ (tree : ℕ) (name : List ℕ) (columns : List Column) (key : Option ℕ) (primary : List ℕ) (uniques : List (List ℕ)) (checks : List Term) (references : List Reference) (tenant : ℤ) (many : ℕ) where
  casted : (added : List Row) → AreTaken columns tenant many added
      → map (λ s. cast_row (placed tree (table name columns key primary uniques checks references)) (drop 0 s)) (map (λ v. Null ∷ Int tenant ∷ v) added) ≡ map (λ s. Null ∷ s) (map (λ v. Int tenant ∷ v) added)
  casted [] taken = refl
  casted (v ∷ added) taken = (λ i. (cast_null i ∷ taken.0.0 i) ∷ casted added taken.1 i)

pub same_int : (n : ℤ) → int_eq n n ≡ true
same_int n = (Decides-int_eq n n).1 refl

pub other_int : (m n : ℤ) → n ≢ m → int_eq m n ≡ false
other_int m n ne = at (int_eq m n) (Decides-int_eq m n)
  where
    at : (b : Bool) → Decides b (m ≡ n) → b ≡ false
    at true is = absurd (ne (sym (is.0 refl)))
    at false other = refl

module _ (tenant : ℤ) (many : ℕ) where
  -- of the tenant the new rows show what was added
  own_news : (columns : List Column) (news added : List Row) → AreTaken columns tenant many added → AreNumbered news (map (λ v. Int tenant ∷ v) added)
      → map (cells_from 2 many) (filter (is_own tenant) news) ≡ added
  own_news columns [] [] taken numbers = refl
  own_news columns [] (v ∷ added) taken numbers = absurd numbers
  own_news columns (n ∷ news) [] taken numbers = absurd numbers
  own_news columns (n ∷ news) (v ∷ added) taken numbers =
      let id = numbers.0.0 in
      let passes : is_own tenant n ≡ true = ap (is_own tenant) numbers.0.1 ∙ same_int tenant in
      let shows : cells_from 2 many n ≡ v = ap (cells_from 2 many) numbers.0.1 ∙ taken.0.1 id in
      ap (λ b. map (cells_from 2 many) (cond b (n ∷ filter (is_own tenant) news) (filter (is_own tenant) news))) passes ∙ (λ i. shows i ∷ own_news columns news added taken.1 numbers.1 i)

  -- each has a whole number for its rowid
  numbered_news : (news sources : List Row) → AreNumbered news sources → (rows : List Row) → IsNumbered rows → IsNumbered (put_all rows news)
  numbered_news [] sources numbers rows num = num
  numbered_news (n ∷ news) [] numbers rows num = absurd numbers
  numbered_news (n ∷ news) (s ∷ sources) numbers rows num =
      numbered_news news sources numbers.1 (put_row n rows) (numbered_put n rows (ap (λ r. is_int (rowid r)) numbers.0.1) num)

  -- and no other tenant has one of them
  other_news : (other : ℤ) → other ≢ tenant → (news added : List Row) → AreNumbered news (map (λ v. Int tenant ∷ v) added) → AllByRecursion (λ n. is_own other n ≡ false) news
  other_news other ne [] added numbers = tt
  other_news other ne (n ∷ news) [] numbers = absurd numbers
  other_news other ne (n ∷ news) (v ∷ added) numbers = ((ap (is_own other) numbers.0.1 ∙ other_int tenant other ne), other_news other ne news added numbers.1)

module _ (sql : List ℕ) (params : Row) (old new : State) (schema : Schema) (has : old.now.schema ≡ schema) (at : ℕ) (terms : List Term) (width : ℕ)
    (is : command_of (understood schema sql) ≡ Insert at (Values terms width)) (plain : IsPlain (understood schema sql))
    (name : List ℕ) (tree : ℕ) (columns : List Column) (key : Option ℕ) (primary : List ℕ) (uniques : List (List ℕ)) (checks : List Term) (references : List Reference)
    (listed : slice_get schema.tables at ≡ Some (placed tree (table name columns key primary uniques checks references)))
    (tenant : ℤ) (many : ℕ) (added : List Row) (gives : value_rows params width (length terms / width) terms ≡ map (λ v. Null ∷ Int tenant ∷ v) added) (taken : AreTaken columns tenant many added)
    (inside : IsTrue old.in_transaction) where
  pub adds : (count : ℕ) → Executes sql params old new (Ok count) → AddsRows (rows_in tree many) tree tenant added old new
  adds count h =
      let put = inserted sql params old new schema has at terms width is plain name tree columns key primary uniques checks references listed count h in
      let it = placed tree (table name columns key primary uniques checks references) in
      let db = old.now.trees in
      let cast_all_of = λ (sources : List Row). map (λ s. cast_row it (drop 0 s)) sources in
      let sources : cast_all_of put.sources ≡ map (λ s. Null ∷ s) (map (λ v. Int tenant ∷ v) added) =
      ap cast_all_of (put.given ∙ gives) ∙ casted tree name columns key primary uniques checks references tenant many added taken in
      let news = numbered Chosen (db tree) (map (λ s. Null ∷ s) (map (λ v. Int tenant ∷ v) added)) in
      let news_are : (edit_of db it [] Chosen 0 put.sources).news ≡ news = ap (numbered Chosen (db tree)) sources in
      let numbers : AreNumbered news (map (λ v. Int tenant ∷ v) added) = chosen (db tree) (map (λ v. Int tenant ∷ v) added) in
      let fresh : are_fresh (db tree) news ≡ true = subst (λ ns. are_fresh (db tree) ns ≡ true) news_are put.applies.fresh in
      let rows : new.now.trees tree ≡ put_all (db tree) news = ap (λ (t : Trees). t tree) put.trees ∙ put.applies.rows ∙ ap (put_all (db tree)) news_are in
      let own = is_own tenant in
      let cells = cells_from 2 many in
      let moved : IsPermutation (filter own (news ++ db tree)) (filter own (put_all (db tree) news)) = IsPermutation-filter own (news ++ db tree) (put_all (db tree) news) (put_more news (db tree) fresh) in
      let shown = IsPermutation-map cells (filter own (news ++ db tree)) (filter own (put_all (db tree) news)) moved in
      let front : map cells (filter own (news ++ db tree)) ≡ added ++ rows_in tree many tenant db =
      ap (map cells) (filter-append own news (db tree)) ∙ map-append cells (filter own news) (filter own (db tree)) ∙ ap (λ xs. xs ++ rows_in tree many tenant db) (own_news tenant many columns news added taken numbers) in
      record {
        own = subst (λ xs. IsPermutation xs (rows_in tree many tenant new.now.trees)) front (subst (λ xs. IsPermutation (map cells (filter own (news ++ db tree))) (map cells (filter own xs))) (sym rows) shown);
        others = λ other ne. ap (λ xs. map cells (filter (is_own other) xs)) rows ∙ ap (map cells) (put_aside (is_own other) news (db tree) fresh (other_news tenant many other ne news added numbers));
        tables = subst (λ (t : Trees). AllByRecursion (λ u. u.tree ≢ tree → t u.tree ≡ db u.tree) old.now.schema.tables) (sym put.trees)
            (subst (λ (s : Schema). AllByRecursion (λ u. u.tree ≢ tree → put.next u.tree ≡ db u.tree) s.tables) (sym has) put.applies.tables);
        inside = wrote_inside old new _ _ _ _ put.wrote inside put.schema_is;
        numbered = λ num. subst IsNumbered (sym rows) (numbered_news tenant many news (map (λ v. Int tenant ∷ v) added) numbers (db tree) num);
      }

-- the text inserts values into the table that stands at this place of our schema
pub record IsInsertText (sql : List ℕ) (schema : Schema) (at : ℕ) (terms : List Term) (width tree : ℕ) (t : Table) : Type 0 where
  pub is : command_of (understood schema sql) ≡ Insert at (Values terms width)
  pub plain : IsPlain (understood schema sql)
  pub listed : slice_get schema.tables at ≡ Some (placed tree (table t.name t.columns t.key t.primary t.uniques t.checks t.references))

-- a transaction is open, and over its schema the text does so
pub record IsInserting (sql : List ℕ) (at : ℕ) (terms : List Term) (width tree : ℕ) (t : Table) (s : State) : Type 0 where
  pub mode : IsTrue s.in_transaction
  pub text : IsInsertText sql s.now.schema at terms width tree t

-- the command that it means then
pub inserting_means : {sql : List ℕ} {at : ℕ} {terms : List Term} {width tree : ℕ} {t : Table} {s : State} → IsInserting sql at terms width tree t s → Means sql (Insert at (Values terms width)) s
inserting_means it = (it.mode, (_, refl, it.text.is, it.text.plain))

-- so it is over a ledger
pub in_ledger : {sql : List ℕ} {at : ℕ} {terms : List Term} {width tree : ℕ} {t : Table} → IsBefore ledger_schema.tables (λ s. IsInsertText sql s at terms width tree t) → (s : State) → (HasCleanDisk s → IsInside s)
    → HasCleanDisk s → IsInserting sql at terms width tree t s
in_ledger {sql} {at} {terms} {width} {tree} {t} text s inside clean = record { mode = (inside clean).mode; text = over_ledger (λ s. IsInsertText sql s at terms width tree t) text s.now.schema (inside clean).schema }

-- where it is so behind the tables of the balance schema
pub in_balances : {sql : List ℕ} {at : ℕ} {terms : List Term} {width tree : ℕ} {t : Table} → IsBefore balance_schema.tables (λ s. IsInsertText sql s at terms width tree t) → (s : State) → (HasCleanDisk s → IsInside s)
    → HasCleanDisk s → IsInserting sql at terms width tree t s
in_balances {sql} {at} {terms} {width} {tree} {t} text = in_ledger {sql = sql} {at = at} {terms = terms} {width = width} {tree = tree} {t = t} (λ more. text (drop 8 ledger_schema.tables ++ more))

pub in_making : {sql : List ℕ} {at : ℕ} {terms : List Term} {width tree : ℕ} {t : Table} → IsBefore balance_schema.tables (λ s. IsInsertText sql s at terms width tree t) → (s : State) → (HasCleanDisk s → IsMaking balance_schema s)
    → HasCleanDisk s → IsInserting sql at terms width tree t s
in_making {sql} {at} {terms} {width} {tree} {t} text s making clean =
    record { mode = (making clean).mode; text = subst (λ schema. IsInsertText sql schema at terms width tree t) (sym (making clean).schema_is) (text [] balance_schema.indexes balance_schema.views) }

-- the contract of a function that adds one tenant's rows
pub add_writes : (sql : List ℕ) (at : ℕ) (terms : List Term) (width tree : ℕ) (t : Table) (tenant : ℤ) (many : ℕ) (added : List Row) (good params : Row) → params ≡ good
    → value_rows good width (length terms / width) terms ≡ map (λ v. Null ∷ Int tenant ∷ v) added → AreTaken t.columns tenant many added → (old new : State)
    → (HasCleanDisk old → IsInserting sql at terms width tree t old) → WritesBy sql params (AddsRows (rows_in tree many) tree tenant added) old new
add_writes sql at terms width tree t tenant many added good params same gives taken old new inserting =
    statement_writes sql params old new (AddsRows (rows_in tree many) tree tenant added) (Insert at (Values terms width)) tt (λ a. writes_stay old new a.inside) (λ clean. inserting_means (inserting clean))
    (λ clean count h. let it = inserting clean in
    adds sql good old new old.now.schema refl at terms width it.text.is it.text.plain t.name tree t.columns t.key t.primary t.uniques t.checks t.references it.text.listed tenant many added gives taken it.mode count
    (subst (λ p. Executes sql p old new (Ok count)) same h))
