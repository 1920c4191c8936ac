-- What a text that reads a tenant's rows in a span of time answers.
use Rattle.std.proofs.Common.{◌≡◌, ℕ, ℤ, List, [], ◌∷◌, map, filter, Some, Bool, true, false, cond, ◌&&◌, Ok, Err, Result, IfOk, refl, sym, ap, subst, ◌∙◌}
use Rattle.std.specs.declared.cmp.Ordering.{Ordering}
use Rattle.std.specs.List.{flat_map, list_all}
use Rattle.std.specs.List.Sorted.{IsPermutation, IsSorted}
use Rattle.std.proofs.lemmas.List.Sorted.{IsPermutation-map}
use Rattle.records.specs.declared.unavailable.Unavailable.{Unavailable}
use Rattle.sqlite_value.specs.declared.value.Value.TheVariants.{Null}
use Rattle.sqlite_value.specs.Order.{Row, column, value_cmp}
use Rattle.sqlite_trees.specs.Tree.{Trees}
use Rattle.sqlite_trees.proofs.ListLemmas.{map-map, filter-map, filter_same, all_of}
use Rattle.sqlite_sql.specs.Term.{Env, eval_all, holds}
use Rattle.sqlite_sql.specs.Query.{Query, IsAnswer, output, Output, output_cmp}
use Rattle.sqlite_sql.specs.Program.{overlay}
use Rattle.sqlite_schema.specs.declared.schema.Schema.{Schema}
use Rattle.sqlite_schema.specs.declared.command.Command.TheVariants.{Select}
use Rattle.sqlite.specs.State.{State, HasCleanDisk, Shown}
use Rattle.sqlite.proofs.Callers.{reads_as}
use Rattle.ledger_sql.specs.Calls.{LeavesRead, LeavesFound}
use Rattle.ledger_sql.specs.Effects.{IsLedger}
use Rattle.ledger_sql.specs.Entries.{ReadsUpTo}
use Rattle.ledger_sql.specs.Spans.{rows_between, span_params}
use Rattle.ledger_sql.specs.TableRows.{cells_from, is_own, is_from, is_until, rows_in}
use Rattle.ledger_sql.proofs.AnswerLemmas.{no_lets, equals_int, sorted_shown}
use Rattle.ledger_sql.proofs.EntryLemmas.{AreFirst, compares_from, compares_until, found_each}
use Rattle.ledger_sql.proofs.KeyLemmas.{columns_shown, filter_both, map_same, and_true}
use Rattle.ledger_sql.proofs.SpanTexts.{span_terms, span_query, IsSpanText}

-- by the timestamp at a place, or backwards
abbrev pub span_cmp : ℕ → Bool → Row → Row → Ordering
span_cmp place false a b = value_cmp (column a place) (column b place)
span_cmp place true a b = value_cmp (column b place) (column a place)

module _ (tree time width place : ℕ) (shows : (r : Row) → column (cells_from 2 width r) place ≡ column r time) (tenant first last : ℤ) (count : ℕ) where
  abbrev keys : Row
  keys = span_params tenant first last count

  abbrev cells : Row → Row
  cells = cells_from 2 width

  abbrev passes : Row → Bool
  passes r = list_all (holds (keys ∷ r ∷ [])) (span_terms time)

  abbrev in_span : Row → Bool
  in_span row = is_from first (column row place) && is_until last (column row place)

  passes_is : (r : Row) → passes r ≡ (is_own tenant r && in_span (cells r))
  passes_is r =
      (λ i. equals_int (column r 1) tenant i && (compares_from first (column r time) i && (compares_until last (column r time) i && true)))
      ∙ ap (λ b. is_own tenant r && (is_from first (column r time) && b)) (and_true (is_until last (column r time)))
      ∙ (λ i. is_own tenant r && (is_from first (sym (shows r) i) && is_until last (sym (shows r) i)))

  abbrev there : Trees → List Row
  there db = rows_between place first last (rows_in tree width tenant db)

  rows_there : (db : Trees) → map cells (filter passes (db tree)) ≡ there db
  rows_there db =
      ap (map cells) (filter_same passes (λ r. is_own tenant r && in_span (cells r)) (db tree) (all_of _ passes_is (db tree)))
      ∙ sym (filter-map in_span cells (filter (is_own tenant) (db tree)) ∙ ap (map cells) (filter_both (is_own tenant) (λ r. in_span (cells r)) (db tree)))

  module _ (descending : Bool) (db : Trees) (cmp : Row → Row → Ordering)
      (same : (x y : Env) → output_cmp (span_query tree time width descending) (output (span_query tree time width descending) x) (output (span_query tree time width descending) y)
      ≡ cmp (output (span_query tree time width descending) x).1 (output (span_query tree time width descending) y).1) where
    abbrev query : Query
    query = span_query tree time width descending

    abbrev seen : Row → Env
    seen r = keys ∷ r ∷ []

    ordered_all : (rows : List Row) (a : IsAnswer query (overlay db []) keys rows) → IsPermutation (there db) (map (λ (o : Output). o.1) a.ordered)
    ordered_all rows a =
        let show : Env → Row = λ env. eval_all query.project env in
        let kept : a.kept ≡ map (output query) a.staged = a.distinct in
        let staged : a.staged ≡ map seen (filter passes (db tree)) = a.grouped ∙ ap (flat_map (λ r. cond (passes r) (seen r ∷ []) [])) (no_lets db tree) ∙ found_each passes seen (db tree) in
        let shown : map (λ (o : Output). o.1) a.kept ≡ there db =
        ap (map (λ (o : Output). o.1)) kept
        ∙ map-map (λ (o : Output). o.1) (output query) a.staged
        ∙ ap (map show) staged
        ∙ map-map show seen (filter passes (db tree))
        ∙ map_same (λ r. show (seen r)) cells (columns_shown 2 width keys) (filter passes (db tree))
        ∙ rows_there db in
        subst (λ xs. IsPermutation xs (map (λ (o : Output). o.1) a.ordered)) shown (IsPermutation-map (λ (o : Output). o.1) a.kept a.ordered a.same)

    span_answered : (rows : List Row) → IsAnswer query (overlay db []) keys rows → AreFirst (Some count) (there db) cmp rows
    span_answered rows a = record {
      ordered = map (λ (o : Output). o.1) a.ordered;
      all = ordered_all rows a;
      order = sorted_shown query db keys cmp same a.staged a.kept a.ordered a.distinct a.same a.sorted;
      rows_are = a.shown;
    }

  -- the contract of a function that reads the rows that such a text answers
  pub span_read : {R Y : Type 0} (values : R → Row) (items_of : Y → List R) (Fits : Y → Type 0) (sql : List ℕ) (descending : Bool) → ((s : Schema) → IsLedger s → IsSpanText tree time width descending sql s)
      → ((x y : Env) → output_cmp (span_query tree time width descending) (output (span_query tree time width descending) x) (output (span_query tree time width descending) y)
      ≡ span_cmp place descending (output (span_query tree time width descending) x).1 (output (span_query tree time width descending) y).1) → (old new : State) (key : Row) → key ≡ keys → (got : Result Y Unavailable)
      → (HasCleanDisk new → IfOk got (λ y. Shown sql key old new (map values (items_of y)))) → IfOk got Fits → LeavesRead old new got
      → LeavesFound Fits (λ trees y. ReadsUpTo values count (there trees) (IsSorted (span_cmp place descending)) (items_of y)) old new got
  span_read values items_of Fits sql descending means same old new key is (Err e) shown fits reads = record { ok = λ clean ledger. tt; fits = tt; reads = reads }
  span_read values items_of Fits sql descending means same old new key is (Ok y) shown fits reads = record {
    ok = λ clean ledger.
        let rows : List Row = map values (items_of y) in
        let text = means old.now.schema ledger in
        let got = reads_as sql keys old new old.now.schema refl (Select (record { lets = []; body = span_query tree time width descending }) text.names) text.is text.plain text.unlisted rows (subst (λ k. Shown sql k old new rows) is (shown clean)) in
        let those = span_answered descending old.now.trees (span_cmp place descending) same rows (got.answer Null) in
        record { ordered = those.ordered; all = those.all; order = those.order; read_is = those.rows_are };
    fits = fits;
    reads = reads;
  }
