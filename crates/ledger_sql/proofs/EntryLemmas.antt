-- What a text that reads an account's entries answers.
use Rattle.std.proofs.Common.{◌≡◌, ℕ, ℤ, List, [], ◌∷◌, ◌++◌, map, filter, Option, Bool, true, false, cond, ◌&&◌, refl, sym, ap, subst, ◌∙◌}
use Rattle.std.specs.declared.cmp.Ordering.{Ordering}
use Rattle.std.specs.Ordering.{is_eq}
use Rattle.std.specs.List.{flat_map, list_all}
use Rattle.std.specs.List.Sorted.{IsPermutation, IsSorted}
use Rattle.std.proofs.lemmas.List.Sorted.{IsPermutation-map}
use Rattle.sqlite_value.specs.declared.value.Value.{Value}
use Rattle.sqlite_value.specs.declared.value.Value.TheVariants.{Null, Int, Real, Text, Blob}
use Rattle.sqlite_value.specs.declared.keys.Collation.TheVariants.{Binary}
use Rattle.sqlite_value.specs.Order.{Row, column, value_cmp}
use Rattle.sqlite_value.proofs.OrderLemmas.{value_cmp-Int}
use Rattle.sqlite_trees.specs.Tree.{Trees}
use Rattle.sqlite_trees.proofs.ListLemmas.{map-map, map-flat_map, flat_map-map, filter-map, filter_same, filter_none, flat_map_same_on, all_of}
use Rattle.sqlite_sql.specs.declared.ops.BinaryOp.TheVariants.{Compare}
use Rattle.sqlite_sql.specs.declared.ops.CompareOp.{CompareOp}
use Rattle.sqlite_sql.specs.declared.ops.CompareOp.TheVariants.{Ge, Le}
use Rattle.sqlite_sql.specs.Ops.{binary, is_true, test}
use Rattle.sqlite_sql.specs.Term.{Term, Env, eval, eval_all, holds}
use Rattle.sqlite_sql.specs.Query.{Query, IsAnswer, output, Output, output_cmp, as_count, limited}
use Rattle.sqlite_sql.specs.Program.{overlay}
use Rattle.sqlite_schema.specs.declared.schema.Schema.{Schema}
use Rattle.sqlite_schema.specs.declared.command.Command.TheVariants.{Select}
use Rattle.sqlite.specs.State.{State, Shown, Begins}
use Rattle.sqlite.proofs.Callers.{reads_as, begins_as}
use Rattle.ledger_sql.specs.Entries.{entries_when}
use Rattle.ledger_sql.specs.TableRows.{cells_from, is_own, is_blob, is_same, is_beside, is_from, is_until, transfer_rows}
use Rattle.ledger_sql.proofs.AnswerLemmas.{no_lets, truth_of, equals, equals_int, equals_text, equals_blob, sorted_shown}
use Rattle.ledger_sql.proofs.KeyLemmas.{filter_both, and_true}
use Rattle.ledger_sql.proofs.EntryTexts.{entry_terms, entry_query, IsEntryText}

-- ---- comparisons

equals_same : (a b : Value) → equals a b ≡ is_same a b
unfolding binary
equals_same Null Null = refl
equals_same (Int m) Null = refl
equals_same (Real x) Null = refl
equals_same (Text t) Null = refl
equals_same (Blob b) Null = refl
equals_same a (Int n) = equals_int a n
equals_same Null (Real y) = refl
equals_same (Int m) (Real y) = truth_of (is_eq (value_cmp (Int m) (Real y)))
equals_same (Real x) (Real y) = truth_of (is_eq (value_cmp (Real x) (Real y)))
equals_same (Text t) (Real y) = truth_of (is_eq (value_cmp (Text t) (Real y)))
equals_same (Blob b) (Real y) = truth_of (is_eq (value_cmp (Blob b) (Real y)))
equals_same a (Text t) = equals_text a t
equals_same a (Blob b) = equals_blob a b

abbrev pub compares : CompareOp → ℤ → Value → Bool
compares op n v = is_true (binary (Compare op Binary) v (Int n))

-- what SQL compares by is told by the definitions
compares_as : (op : CompareOp) (n : ℤ) (v : Value) → compares op n v ≡ is_beside (test op) n v
unfolding binary
compares_as op n Null = refl
compares_as op n (Int m) = truth_of (test op (value_cmp (Int m) (Int n))) ∙ ap (test op) (value_cmp-Int m n)
compares_as op n (Real x) = truth_of (test op (value_cmp (Real x) (Int n)))
compares_as op n (Text t) = truth_of (test op (value_cmp (Text t) (Int n)))
compares_as op n (Blob b) = truth_of (test op (value_cmp (Blob b) (Int n)))

pub compares_from : (n : ℤ) (v : Value) → compares Ge n v ≡ is_from n v
compares_from = compares_as Ge

pub compares_until : (n : ℤ) (v : Value) → compares Le n v ≡ is_until n v
compares_until = compares_as Le

-- ---- two tables

and_false : (b : Bool) → (b && false) ≡ false
and_false true = refl
and_false false = refl

pub found_each : {A B : Type 0} (p : A → Bool) (f : A → B) (xs : List A) → flat_map (λ x. cond (p x) (f x ∷ []) []) xs ≡ map f (filter p xs)
found_each p f [] = refl
found_each p f (x ∷ xs) = elim (p x) as (λ b. cond b (f x ∷ []) [] ++ flat_map (λ x. cond (p x) (f x ∷ []) []) xs ≡ map f (cond b (x ∷ filter p xs) (filter p xs))) [
  | true ↦ ap (λ l. f x ∷ l) (found_each p f xs)
  | false ↦ found_each p f xs
]

flat_filter : {A B : Type 0} (p : A → Bool) (f : A → List B) (xs : List A) → flat_map f (filter p xs) ≡ flat_map (λ x. cond (p x) (f x) []) xs
flat_filter p f [] = refl
flat_filter p f (x ∷ xs) = elim (p x) as (λ b. flat_map f (cond b (x ∷ filter p xs) (filter p xs)) ≡ cond b (f x) [] ++ flat_map (λ x. cond (p x) (f x) []) xs) [
  | true ↦ ap (λ l. f x ++ l) (flat_filter p f xs)
  | false ↦ flat_filter p f xs
]

-- the first so many of some entries, in order
pub record AreFirst (much : Option ℕ) (entries : List Row) (cmp : Row → Row → Ordering) (rows : List Row) : Type 0 where
  pub ordered : List Row
  pub all : IsPermutation entries ordered
  pub order : IsSorted cmp ordered
  pub rows_are : rows ≡ limited much ordered

module _ (tenant : ℤ) (account : List ℕ) (time : ℤ) (more : Row) (op : CompareOp) (in_time : Value → Bool) (tests : (v : Value) → compares op time v ≡ in_time v) where
  abbrev pub keys : Row
  keys = Int tenant ∷ Blob account ∷ Int time ∷ more

  abbrev history_cells : Row → Row
  history_cells = cells_from 2 6

  abbrev transfer_cells : Row → Row
  transfer_cells = cells_from 2 14

  abbrev passes : Row → Row → Bool
  passes h t = list_all (holds (keys ∷ h ∷ t ∷ [])) (entry_terms op)

  -- whether a history row is asked for, and whether a transfer is of its time
  abbrev is_asked : Row → Bool
  is_asked h = is_own tenant h && (is_blob account (column h 2) && in_time (column h 3))

  abbrev is_of : Row → Row → Bool
  is_of h t = is_own tenant t && is_same (column t 14) (column h 3)

  passes_is : (h t : Row) → passes h t ≡ (is_own tenant t && (is_same (column t 14) (column h 3) && is_asked h))
  passes_is h t =
      (λ i. equals_int (column t 1) tenant i && (equals_same (column t 14) (column h 3) i && (equals_int (column h 1) tenant i && (equals_blob (column h 2) account i && (tests (column h 3) i && true)))))
      ∙ ap (λ b. is_own tenant t && (is_same (column t 14) (column h 3) && (is_own tenant h && (is_blob account (column h 2) && b)))) (and_true (in_time (column h 3)))

  abbrev joined : Row → Row → Row
  joined h t = history_cells h ++ transfer_cells t

  -- the transfers that go with a history row
  matched_with : (h : Row) (ts : List Row) (asked : Bool) → map (joined h) (filter (λ t. is_own tenant t && (is_same (column t 14) (column h 3) && asked)) ts)
      ≡ cond asked (map (λ transfer. history_cells h ++ transfer) (filter (λ transfer. is_same (column transfer 12) (column h 3)) (map transfer_cells (filter (is_own tenant) ts)))) []
  matched_with h ts true =
      let point : (t : Row) → (is_own tenant t && (is_same (column t 14) (column h 3) && true)) ≡ is_of h t = λ t. ap (λ b. is_own tenant t && b) (and_true (is_same (column t 14) (column h 3))) in
      ap (map (joined h)) (filter_same (λ t. is_own tenant t && (is_same (column t 14) (column h 3) && true)) (is_of h) ts (all_of _ point ts))
      ∙ sym (
      ap (map (λ transfer. history_cells h ++ transfer)) (
      filter-map (λ transfer. is_same (column transfer 12) (column h 3)) transfer_cells (filter (is_own tenant) ts)
      ∙ ap (map transfer_cells) (filter_both (is_own tenant) (λ t. is_same (column t 14) (column h 3)) ts))
      ∙ map-map (λ transfer. history_cells h ++ transfer) transfer_cells (filter (is_of h) ts))
  matched_with h ts false =
      let never : (t : Row) → (is_own tenant t && (is_same (column t 14) (column h 3) && false)) ≡ false = λ t. ap (λ b. is_own tenant t && b) (and_false (is_same (column t 14) (column h 3))) ∙ and_false (is_own tenant t) in
      ap (map (joined h)) (filter_none (λ t. is_own tenant t && (is_same (column t 14) (column h 3) && false)) ts (all_of _ never ts))

  -- the entries, as the join finds them
  entries_joined : (db : Trees) → flat_map (λ h. map (joined h) (filter (passes h) (db 8))) (db 15) ≡ entries_when tenant account in_time db
  entries_joined db =
      let hs : List Row = db 15 in
      let ts : List Row = db 8 in
      let with_own : Row → List Row = λ row. map (λ transfer. row ++ transfer) (filter (λ transfer. is_same (column transfer 12) (column row 1)) (transfer_rows tenant db)) in
      let each : (h : Row) → map (joined h) (filter (passes h) ts) ≡ cond (is_asked h) (with_own (history_cells h)) [] = λ h.
      ap (map (joined h)) (filter_same (passes h) (λ t. is_own tenant t && (is_same (column t 14) (column h 3) && is_asked h)) ts (all_of _ (passes_is h) ts)) ∙ matched_with h ts (is_asked h) in
      flat_map_same_on (λ h. map (joined h) (filter (passes h) ts)) (λ h. cond (is_asked h) (with_own (history_cells h)) []) each hs
      ∙ sym (
      ap (flat_map with_own) (
      filter-map (λ row. is_blob account (column row 0) && in_time (column row 1)) history_cells (filter (is_own tenant) hs)
      ∙ ap (map history_cells) (filter_both (is_own tenant) (λ h. is_blob account (column h 2) && in_time (column h 3)) hs))
      ∙ flat_map-map with_own history_cells (filter is_asked hs)
      ∙ flat_filter is_asked (λ h. with_own (history_cells h)) hs)

  module _ (descending : Bool) (limit : Term) (db : Trees) where
    abbrev query : Query
    query = entry_query op descending limit

    abbrev seen : Row → Row → Env
    seen h t = keys ∷ h ∷ t ∷ []

    staged_is : (rows : List Row) (a : IsAnswer query (overlay db []) keys rows) → a.staged ≡ flat_map (λ h. map (seen h) (filter (passes h) (db 8))) (db 15)
    staged_is rows a =
        a.grouped
        ∙ ap (flat_map (λ h. flat_map (λ t. cond (passes h t) (seen h t ∷ []) []) (overlay db [] 8))) (no_lets db 15)
        ∙ ap (λ ts. flat_map (λ h. flat_map (λ t. cond (passes h t) (seen h t ∷ []) []) ts) (db 15)) (no_lets db 8)
        ∙ flat_map_same_on _ (λ h. map (seen h) (filter (passes h) (db 8))) (λ h. found_each (passes h) (seen h) (db 8)) (db 15)

    abbrev cut : Option ℕ
    cut = as_count (eval limit (keys ∷ []))

    ordered_all : (rows : List Row) (a : IsAnswer query (overlay db []) keys rows) → IsPermutation (entries_when tenant account in_time db) (map (λ (o : Output). o.1) a.ordered)
    ordered_all rows a =
        let show : Env → Row = λ env. eval_all query.project env in
        let kept : a.kept ≡ map (output query) a.staged = a.distinct in
        let shown : map (λ (o : Output). o.1) a.kept ≡ entries_when tenant account in_time db =
        ap (map (λ (o : Output). o.1)) kept
        ∙ map-map (λ (o : Output). o.1) (output query) a.staged
        ∙ ap (map show) (staged_is rows a)
        ∙ map-flat_map show (λ h. map (seen h) (filter (passes h) (db 8))) (db 15)
        ∙ flat_map_same_on _ (λ h. map (joined h) (filter (passes h) (db 8))) (λ h. map-map show (seen h) (filter (passes h) (db 8))) (db 15)
        ∙ entries_joined db in
        subst (λ xs. IsPermutation xs (map (λ (o : Output). o.1) a.ordered)) shown (IsPermutation-map (λ (o : Output). o.1) a.kept a.ordered a.same)

    pub entries_answered : (cmp : Row → Row → Ordering) → ((x y : Env) → output_cmp query (output query x) (output query y) ≡ cmp (output query x).1 (output query y).1)
        → (rows : List Row) → IsAnswer query (overlay db []) keys rows → AreFirst cut (entries_when tenant account in_time db) cmp rows
    entries_answered cmp same rows a = record {
      ordered = map (λ (o : Output). o.1) a.ordered;
      all = ordered_all rows a;
      order = sorted_shown query db keys cmp same a.staged a.kept a.ordered a.distinct a.same a.sorted;
      rows_are = a.shown;
    }

module _ (sql : List ℕ) (schema : Schema) (op : CompareOp) (descending : Bool) (limit : Term) (text : IsEntryText op descending limit sql schema) (old new : State) (has : old.now.schema ≡ schema)
    (tenant : ℤ) (account : List ℕ) (time : ℤ) (more : Row) (in_time : Value → Bool) (tests : (v : Value) → compares op time v ≡ in_time v) (cmp : Row → Row → Ordering)
    (same : (x y : Env) → output_cmp (entry_query op descending limit) (output (entry_query op descending limit) x) (output (entry_query op descending limit) y)
    ≡ cmp (output (entry_query op descending limit) x).1 (output (entry_query op descending limit) y).1) where
  abbrev entries : List Row
  entries = entries_when tenant account in_time old.now.trees

  abbrev given : Row
  given = Int tenant ∷ Blob account ∷ Int time ∷ more

  abbrev much : Option ℕ
  much = as_count (eval limit (given ∷ []))

  pub entries_shown : (rows : List Row) → Shown sql given old new rows → AreFirst much entries cmp rows
  entries_shown rows h =
      let got = reads_as sql given old new schema has (Select (record { lets = []; body = entry_query op descending limit }) text.names) text.is text.plain text.unlisted rows h in
      entries_answered tenant account time more op in_time tests descending limit old.now.trees cmp same rows (got.answer Null)

  pub entries_begun : (rows : List Row) → Begins sql given old rows → (tail : List Row) × AreFirst much entries cmp (rows ++ tail)
  entries_begun rows h =
      let got = begins_as sql given old new schema has (Select (record { lets = []; body = entry_query op descending limit }) text.names) text.is text.plain text.unlisted rows h in
      (got.1.0, entries_answered tenant account time more op in_time tests descending limit old.now.trees cmp same (rows ++ got.1.0) (got.1.1 Null))
