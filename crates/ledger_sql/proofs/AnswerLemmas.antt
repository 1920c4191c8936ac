-- What a query over one table answers.
use Rattle.std.proofs.Common.{◌≡◌, ℕ, ℤ, pos, negsuc, List, [], ◌∷◌, ◌++◌, map, filter, Bool, true, false, cond, ◌+◌, Some, None, Option, refl, sym, ap, subst, subst₂, ◌∙◌, get_or, arith}
use Rattle.std.specs.List.{All, flat_map, list_all}
use Rattle.std.specs.List.Sorted.{IsPermutation, IsSorted}
use Rattle.std.proofs.lemmas.List.Sorted.{IsPermutation-map, All-permutation, length_permutation}
use Rattle.std.specs.Ordering.{is_eq, is_lt}
use Rattle.std.specs.declared.cmp.Ordering.{Ordering}
use Rattle.std.proofs.lemmas.Map.Text.{is_eq-slice_cmp}
use Rattle.sqlite_value.specs.declared.value.Value.{Value}
use Rattle.sqlite_value.specs.declared.value.Value.TheVariants.{Null, Int, Real, Text, Blob}
use Rattle.sqlite_value.specs.declared.keys.Collation.TheVariants.{Binary}
use Rattle.sqlite_value.specs.declared.keys.Key.{Key}
use Rattle.sqlite_value.specs.Order.{Row, value_cmp}
use Rattle.sqlite_value.proofs.OrderLemmas.{value_cmp-Int, value_cmp-Text, value_cmp-Blob, value_cmp-apart}
use Rattle.sqlite_trees.specs.Tree.{Trees}
use Rattle.sqlite_trees.proofs.ListLemmas.{map-map}
use Rattle.sqlite_sql.specs.declared.ops.BinaryOp.TheVariants.{Compare}
use Rattle.sqlite_sql.specs.declared.ops.CompareOp.TheVariants.{Eq}
use Rattle.sqlite_sql.specs.Ops.{binary, is_true, from_truth}
use Rattle.sqlite_exec.proofs.RowsLemmas.{IsSorted-map}
use Rattle.sqlite_exec.proofs.RunLemmas.{none_given}
use Rattle.std.proofs.lemmas.List.{get_or-map, length-map}
use Rattle.sqlite_sql.specs.Term.{Term, Env, lit, eval_all, holds}
use Rattle.sqlite_sql.specs.Query.{Query, inner, end, IsAnswer, output, Output, output_cmp, key_cmp}
use Rattle.sqlite_sql.specs.Program.{overlay}
use Rattle.sqlite_schema.specs.declared.schema.Schema.{Schema}
use Rattle.sqlite_schema.specs.declared.command.Command.TheVariants.{Select}
use Rattle.sqlite.specs.Listing.{understood, reads_listing}
use Rattle.sqlite.specs.State.{State, Shown}
use Rattle.sqlite.proofs.Callers.{IsPlain, command_of, reads_as, first_as}
use Rattle.ledger_sql.specs.TableRows.{is_int, is_blob, is_text}
use Rattle.ledger_sql.specs.Effects.{Picks}
use Rattle.ledger_sql.specs.Queries.{FindsFirst}

-- ---- equality in WHERE

pub truth_of : (b : Bool) → is_true (from_truth (Some b)) ≡ b
truth_of true = refl
truth_of false = refl

abbrev pub equals : Value → Value → Bool
equals a b = is_true (binary (Compare Eq Binary) a b)

pub equals_int : (v : Value) (n : ℤ) → equals v (Int n) ≡ is_int n v
unfolding binary
equals_int Null n = refl
equals_int (Int m) n = truth_of (is_eq (value_cmp (Int m) (Int n))) ∙ ap is_eq (value_cmp-Int m n)
equals_int (Real x) n = truth_of (is_eq (value_cmp (Real x) (Int n)))
equals_int (Text t) n = truth_of (is_eq (value_cmp (Text t) (Int n))) ∙ ap is_eq (value_cmp-apart (Text t) (Int n) (λ e. cc))
equals_int (Blob b) n = truth_of (is_eq (value_cmp (Blob b) (Int n))) ∙ ap is_eq (value_cmp-apart (Blob b) (Int n) (λ e. cc))

pub equals_blob : (v : Value) (b : List ℕ) → equals v (Blob b) ≡ is_blob b v
unfolding binary
equals_blob Null b = refl
equals_blob (Int m) b = truth_of (is_eq (value_cmp (Int m) (Blob b))) ∙ ap is_eq (value_cmp-apart (Int m) (Blob b) (λ e. cc))
equals_blob (Real x) b = truth_of (is_eq (value_cmp (Real x) (Blob b))) ∙ ap is_eq (value_cmp-apart (Real x) (Blob b) (λ e. cc))
equals_blob (Text t) b = truth_of (is_eq (value_cmp (Text t) (Blob b))) ∙ ap is_eq (value_cmp-apart (Text t) (Blob b) (λ e. cc))
equals_blob (Blob c) b = truth_of (is_eq (value_cmp (Blob c) (Blob b))) ∙ ap is_eq (value_cmp-Blob c b) ∙ is_eq-slice_cmp c b

pub equals_text : (v : Value) (t : List ℕ) → equals v (Text t) ≡ is_text t v
unfolding binary
equals_text Null t = refl
equals_text (Int m) t = truth_of (is_eq (value_cmp (Int m) (Text t))) ∙ ap is_eq (value_cmp-apart (Int m) (Text t) (λ e. cc))
equals_text (Real x) t = truth_of (is_eq (value_cmp (Real x) (Text t))) ∙ ap is_eq (value_cmp-apart (Real x) (Text t) (λ e. cc))
equals_text (Text u) t = truth_of (is_eq (value_cmp (Text u) (Text t))) ∙ ap is_eq (value_cmp-Text u t) ∙ is_eq-slice_cmp u t
equals_text (Blob b) t = truth_of (is_eq (value_cmp (Blob b) (Text t))) ∙ ap is_eq (value_cmp-apart (Blob b) (Text t) (λ e. cc))

-- ---- one table

-- where no tables are computed first, a tree is the file's
pub no_lets : (db : Trees) (tree : ℕ) → overlay db [] tree ≡ db tree
no_lets db tree = ap (λ (trees : Trees). trees tree) (none_given db)

abbrev pub plain_query : ℕ → List Term → List Term → List (Term × Key) → Query
plain_query tree terms shown order = record {
  from = inner tree end;
  filter = terms;
  group = None;
  project = shown;
  distinct = false;
  collations = [];
  order = order;
  limit = lit (Int (negsuc 0));
  offset = lit (Int (pos 0));
}

-- the rows that pass, each with the parameters before it
matched : (p : Row → Bool) (params : Row) (rows : List Row) → flat_map (λ r. cond (p r) ((params ∷ r ∷ []) ∷ []) []) rows ≡ map (λ r. params ∷ r ∷ []) (filter p rows)
matched p params [] = refl
matched p params (r ∷ rows) = elim (p r) as (λ b. (cond b ((params ∷ r ∷ []) ∷ []) [] ++ flat_map (λ r. cond (p r) ((params ∷ r ∷ []) ∷ []) []) rows) ≡ map (λ r. params ∷ r ∷ []) (cond b (r ∷ filter p rows) (filter p rows))) [
  | true ↦ ap (λ xs. (params ∷ r ∷ []) ∷ xs) (matched p params rows)
  | false ↦ matched p params rows
]

module _ (tree : ℕ) (terms shown : List Term) (order : List (Term × Key)) (db : Trees) (params : Row) where
  abbrev query : Query
  query = plain_query tree terms shown order

  abbrev pub passes : Row → Bool
  passes r = list_all (holds (params ∷ r ∷ [])) terms

  abbrev pub show : Row → Row
  show r = eval_all shown (params ∷ r ∷ [])

  pub answered : (rows : List Row) → IsAnswer query (overlay db []) params rows → IsPermutation (map show (filter passes (db tree))) rows
  answered rows a =
      let staged : a.staged ≡ map (λ r. params ∷ r ∷ []) (filter passes (db tree)) = a.grouped ∙ ap (flat_map (λ r. cond (passes r) ((params ∷ r ∷ []) ∷ []) [])) (no_lets db tree) ∙ matched passes params (db tree) in
      let outputs : List Output = map (λ (r : Row). output query (params ∷ r ∷ [])) (filter passes (db tree)) in
      let kept : a.kept ≡ outputs = a.distinct ∙ ap (map (output query)) staged ∙ map-map (output query) (λ (r : Row). params ∷ r ∷ []) (filter passes (db tree)) in
      let moved = IsPermutation-map (λ (o : Output). o.1) outputs a.ordered (subst (λ k. IsPermutation k a.ordered) kept a.same) in
      subst (λ xs. IsPermutation xs rows) (map-map (λ (o : Output). o.1) (λ (r : Row). output query (params ∷ r ∷ [])) (filter passes (db tree)))
      (subst (IsPermutation (map (λ (o : Output). o.1) outputs)) (sym a.shown) moved)

-- each output is that of one way to fill the slots
made_by : {A B : Type 0} (f : A → B) (x : A) (xs : List A) → All (λ y. (z : A) × (y ≡ f z)) (map f xs)
made_by f x xs k d low = (get_or xs k x, get_or-map f xs k x d (rw length-map at low))

-- and the rows that it shows are sorted by what it is sorted by
pub sorted_shown : (q : Query) (db : Trees) (params : Row) (cmp : Row → Row → Ordering)
    → ((x y : Env) → output_cmp q (output q x) (output q y) ≡ cmp (output q x).1 (output q y).1) → (staged : List Env) (kept ordered : List Output)
    → kept ≡ map (output q) staged → IsPermutation kept ordered → IsSorted (output_cmp q) ordered → IsSorted cmp (map (λ (o : Output). o.1) ordered)
sorted_shown q db params cmp same staged kept ordered is moved sorted =
    let made = subst (All (λ (o : Output). (env : Env) × (o ≡ output q env))) (sym is) (made_by (output q) [] staged) in
    IsSorted-map cmp (λ (o : Output). o.1) ordered (λ k d low high.
    let all : All (λ (o : Output). (env : Env) × (o ≡ output q env)) ordered = All-permutation (λ (o : Output). (env : Env) × (o ≡ output q env)) kept ordered moved made in
    let next = all (k + 1) d high in
    let this = all k d (omega (arith, high)) in
    let base : is_lt (output_cmp q (output q next.0) (output q this.0)) ≡ false = subst₂ (λ a b. is_lt (output_cmp q a b) ≡ false) next.1 this.1 (sorted k d low high) in
    subst₂ (λ (a b : Output). is_lt (cmp a.1 b.1) ≡ false) (sym next.1) (sym this.1) (ap is_lt (sym (same next.0 this.0)) ∙ base))

abbrev pub IsOrderedBy : List Term → List (Term × Key) → (Row → Row → Ordering) → Type 0
IsOrderedBy shown order cmp =
    (x y : Env) → key_cmp 0 (map (λ k. k.1) order) (eval_all (map (λ k. k.0) order) x) (eval_all (map (λ k. k.0) order) y) ≡ cmp (eval_all shown x) (eval_all shown y)

none_left : (xs : List Row) → IsPermutation xs [] → xs ≡ []
none_left [] h = refl
none_left (x ∷ xs) h = absurd (omega (arith, length_permutation (x ∷ xs) [] h))

-- a text that is this query
pub record IsSelectText (sql : List ℕ) (schema : Schema) (query : Query) : Type 0 where
  pub names : List (List ℕ)
  pub is : command_of (understood schema sql) ≡ Select (record { lets = []; body = query }) names
  pub plain : IsPlain (understood schema sql)
  pub unlisted : reads_listing schema sql ≡ false

-- a plain one, over one table
abbrev pub IsPlainText : List ℕ → Schema → ℕ → List Term → List Term → List (Term × Key) → Type 0
IsPlainText sql schema tree terms shown order = IsSelectText sql schema (plain_query tree terms shown order)

module _ (sql : List ℕ) (schema : Schema) (tree : ℕ) (terms shown : List Term) (order : List (Term × Key)) (text : IsPlainText sql schema tree terms shown order) (params : Row) (old new : State)
    (has : old.now.schema ≡ schema) where
  pub all_shown : (rows : List Row) → Shown sql params old new rows → IsPermutation (map (show tree terms shown order old.now.trees params) (filter (passes tree terms shown order old.now.trees params) (old.now.trees tree))) rows
  all_shown rows h =
      let got = reads_as sql params old new schema has (Select (record { lets = []; body = plain_query tree terms shown order }) text.names) text.is text.plain text.unlisted rows h in
      answered tree terms shown order old.now.trees params rows (got.answer Null)

  pub all_ordered : (cmp : Row → Row → Ordering) → IsOrderedBy shown order cmp → (rows : List Row) → Shown sql params old new rows → IsSorted cmp rows
  all_ordered cmp same rows h =
      let got = reads_as sql params old new schema has (Select (record { lets = []; body = plain_query tree terms shown order }) text.names) text.is text.plain text.unlisted rows h in
      let a = got.answer Null in
      let q = plain_query tree terms shown order in
      subst (IsSorted cmp) (sym a.shown) (sorted_shown q old.now.trees params cmp same a.staged a.kept a.ordered a.distinct a.same a.sorted)

  -- the row that was found, or that there is none
  pub found_shown : (found : Option Row) → FindsFirst sql params old new found
      → Picks (map (show tree terms shown order old.now.trees params) (filter (passes tree terms shown order old.now.trees params) (old.now.trees tree))) found
  found_shown None h = none_left _ (all_shown [] h)
  found_shown (Some row) h =
      let got = first_as sql params old new schema has (Select (record { lets = []; body = plain_query tree terms shown order }) text.names) text.is text.plain text.unlisted row h in
      (got.1.0, answered tree terms shown order old.now.trees params (row ∷ got.1.0) (got.1.1 Null))
