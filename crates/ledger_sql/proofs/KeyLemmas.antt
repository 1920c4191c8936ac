-- What a query by tenant and id answers.
use Rattle.std.proofs.Common.{◌≡◌, ℕ, zero, suc, ℤ, ◌+◌, List, [], ◌∷◌, map, filter, Bool, true, false, cond, ◌&&◌, ◌||◌, is_some, Some, None, Option, option_map, Ok, Err, Result, IfOk, IfSome, OnOk, length, refl, sym, ap, subst, ◌∙◌, arith}
use Rattle.std.specs.List.{list_all, list_any}
use Rattle.records.specs.declared.unavailable.Unavailable.{Unavailable}
use Rattle.std.proofs.lemmas.List.Sorted.{length_permutation}
use Rattle.sqlite_value.specs.declared.value.Value.TheVariants.{Int, Text, Blob}
use Rattle.sqlite_value.specs.declared.keys.Collation.TheVariants.{Binary}
use Rattle.sqlite_value.specs.Order.{Row, column}
use Rattle.sqlite_trees.specs.Tree.{Trees}
use Rattle.sqlite_trees.proofs.ListLemmas.{filter-map, all_of, filter_same}
use Rattle.sqlite_sql.specs.declared.ops.BinaryOp.TheVariants.{Compare}
use Rattle.sqlite_sql.specs.declared.ops.CompareOp.TheVariants.{Eq}
use Rattle.sqlite_sql.specs.Term.{Term, col, op2, eval_all, holds}
use Rattle.sqlite_schema.specs.declared.schema.Schema.{Schema}
use Rattle.sqlite.specs.State.{State, HasCleanDisk, IsUnchanged}
use Rattle.ledger_sql.specs.Calls.{LeavesRead, LeavesLearnt, LeavesFound, OverLedger}
use Rattle.ledger_sql.specs.Schema.{clock_tree, tenant_tree}
use Rattle.ledger_sql.specs.TableRows.{clock_rows, numbers_with_digest, is_int, is_blob, is_text, is_own, cells_from, rows_in, directory_rows, with_name, has_id, with_id}
use Rattle.ledger_sql.specs.declared.table_fault.TableFault.{TableFault}
use Rattle.ledger_sql.specs.Effects.{IsLedger, Picks}
use Rattle.ledger_sql.specs.Queries.{FindsFirst}
use Rattle.ledger_sql.proofs.AnswerLemmas.{equals_int, equals_blob, equals_text, IsPlainText, passes, show, found_shown}

-- the place of a row equals the parameter at an index
abbrev pub is_param : ℕ → ℕ → Term
is_param place param = op2 (Compare Eq Binary) (col 1 place) (col 0 param)

-- so many columns, from a place on
abbrev pub columns_from : ℕ → ℕ → List Term
columns_from place zero = []
columns_from place (suc many) = col 1 place ∷ columns_from (place + 1) many

pub columns_shown : (place many : ℕ) (params r : Row) → eval_all (columns_from place many) (params ∷ r ∷ []) ≡ cells_from place many r
columns_shown place zero params r = refl
columns_shown place (suc many) params r = ap (λ cells. column r place ∷ cells) (columns_shown (place + 1) many params r)

pub filter_both : {A : Type 0} (p q : A → Bool) (xs : List A) → filter q (filter p xs) ≡ filter (λ x. p x && q x) xs
filter_both p q [] = refl
filter_both p q (x ∷ xs) = elim (p x) as (λ b. filter q (cond b (x ∷ filter p xs) (filter p xs)) ≡ cond (b && q x) (x ∷ filter (λ x. p x && q x) xs) (filter (λ x. p x && q x) xs)) [
  | true ↦ ap (λ xs. cond (q x) (x ∷ xs) xs) (filter_both p q xs)
  | false ↦ filter_both p q xs
]

pub map_same : {A B : Type 0} (f g : A → B) → ((x : A) → f x ≡ g x) → (xs : List A) → map f xs ≡ map g xs
map_same f g same [] = refl
map_same f g same (x ∷ xs) = (λ i. same x i ∷ map_same f g same xs i)

pub and_true : (b : Bool) → (b && true) ≡ b
and_true true = refl
and_true false = refl

by_id : List Term
by_id = is_param 1 0 ∷ is_param 2 1 ∷ []

module _ (tenant : ℤ) (id : List ℕ) where
  abbrev keys : Row
  keys = Int tenant ∷ Blob id ∷ []

  passes_id : (r : Row) → list_all (holds (keys ∷ r ∷ [])) (is_param 1 0 ∷ is_param 2 1 ∷ []) ≡ (is_own tenant r && is_blob id (column r 2))
  passes_id r = (λ i. equals_int (column r 1) tenant i && (equals_blob (column r 2) id i && true)) ∙ ap (λ b. is_own tenant r && b) (and_true (is_blob id (column r 2)))

  module _ (sql : List ℕ) (schema : Schema) (tree width : ℕ) (text : IsPlainText sql schema tree (is_param 1 0 ∷ is_param 2 1 ∷ []) (columns_from 2 (suc width)) []) (old new : State)
      (has : old.now.schema ≡ schema) where
    same_rows : map (show tree (is_param 1 0 ∷ is_param 2 1 ∷ []) (columns_from 2 (suc width)) [] old.now.trees keys)
        (filter (passes tree (is_param 1 0 ∷ is_param 2 1 ∷ []) (columns_from 2 (suc width)) [] old.now.trees keys) (old.now.trees tree))
        ≡ with_id id (rows_in tree (suc width) tenant old.now.trees)
    same_rows =
        let rows = old.now.trees tree in
        let cells : Row → Row = cells_from 2 (suc width) in
        let both : Row → Bool = λ r. is_own tenant r && is_blob id (column r 2) in
        map_same _ cells (columns_shown 2 (suc width) keys) _
        ∙ ap (map cells) (filter_same (λ r. list_all (holds (keys ∷ r ∷ [])) (is_param 1 0 ∷ is_param 2 1 ∷ [])) both rows (all_of _ passes_id rows))
        ∙ sym (filter-map (has_id id) cells (filter (is_own tenant) rows) ∙ ap (map cells) (filter_both (is_own tenant) (λ r. is_blob id (column r 2)) rows))

    pub point_found : (found : Option Row) → FindsFirst sql keys old new found → Picks (with_id id (rows_in tree (suc width) tenant old.now.trees)) found
    point_found found h =
        subst (λ rows. Picks rows found) same_rows (found_shown sql schema tree (is_param 1 0 ∷ is_param 2 1 ∷ []) (columns_from 2 (suc width)) [] text keys old new has found h)

-- what was found and then read leaves the connection as the query did
pub read_on : {A B E F : Type 0} (old new : State) (found : Result A E) (got : Result B F) → IfOk got (λ b. (a : A) × (found ≡ Ok a)) → LeavesRead old new found → LeavesRead old new got
read_on old new found (Err e) same it = record { same = λ clean. tt; kept = it.kept; follows = it.follows }
read_on old new found (Ok b) same it = record { same = λ clean. subst (λ f. OnOk f (IsUnchanged old new)) same.1 (it.same clean); kept = it.kept; follows = it.follows }

-- the contract of a function that reads the first row of a text's answer
module _ {X : Type 0} (values : X → Row) (Fits : X → Type 0) (rows : Trees → List Row) (sql : List ℕ) (key : Row) (old new : State)
    (picks : IsLedger old.now.schema → (row : Option Row) → FindsFirst sql key old new row → Picks (rows old.now.trees) row) (found : Result (Option Row) TableFault) where
  told : HasCleanDisk new → IsLedger old.now.schema → IfOk found (FindsFirst sql key old new) → (got : Result (Option X) Unavailable) → IfOk got (λ x. found ≡ Ok (option_map values x))
      → IfOk got (λ x. Picks (rows old.now.trees) (option_map values x))
  told clean ledger finds (Err e) same = tt
  told clean ledger finds (Ok x) same = picks ledger (option_map values x) (subst (λ f. IfOk f (FindsFirst sql key old new)) same finds)

  known : (got : Result (Option X) Unavailable) → IfOk got (λ x. found ≡ Ok (option_map values x)) → IfOk got (λ x. (row : Option Row) × (found ≡ Ok row))
  known (Err e) same = tt
  known (Ok x) same = (option_map values x, same)

  pub row_read : (HasCleanDisk new → IfOk found (FindsFirst sql key old new)) → LeavesRead old new found → (got : Result (Option X) Unavailable) → IfOk got (λ x. found ≡ Ok (option_map values x)) → IfOk got (λ x. IfSome x Fits)
      → LeavesFound (λ x. IfSome x Fits) (λ trees x. Picks (rows trees) (option_map values x)) old new got
  row_read finds reads got same fits = record {
    ok = λ clean ledger. told clean ledger (finds clean) got same;
    fits = fits;
    reads = read_on old new found got (known got same) reads;
  }

-- a text that finds by tenant and id
pub point_picks : (tenant : ℤ) (id : List ℕ) (sql : List ℕ) (tree width : ℕ) → ((s : Schema) → IsLedger s → IsPlainText sql s tree (is_param 1 0 ∷ is_param 2 1 ∷ []) (columns_from 2 (suc width)) []) → (old new : State) (key : Row)
    → key ≡ Int tenant ∷ Blob id ∷ [] → IsLedger old.now.schema → (row : Option Row) → FindsFirst sql key old new row → Picks (with_id id (rows_in tree (suc width) tenant old.now.trees)) row
point_picks tenant id sql tree width text old new key is ledger row finds =
    point_found tenant id sql old.now.schema tree width (text old.now.schema ledger) old new refl row (subst (λ k. FindsFirst sql k old new row) is finds)

none_passes : {A : Type 0} (p : A → Bool) (xs : List A) → list_any p xs ≡ false → filter p xs ≡ []
none_passes p [] none = refl
none_passes p (x ∷ xs) none = at (p x) refl none (none_passes p xs)
  where
    at : (b : Bool) → p x ≡ b → list_any p (x ∷ xs) ≡ false → (list_any p xs ≡ false → filter p xs ≡ []) → filter p (x ∷ xs) ≡ []
    at true is none later = absurd (let e = ap (λ b. b || list_any p xs) (sym is) ∙ none in cc)
    at false is none later = ap (λ b. cond b (x ∷ filter p xs) (filter p xs)) is ∙ later (ap (λ b. b || list_any p xs) (sym is) ∙ none)

passes_none : {A : Type 0} (p : A → Bool) (xs : List A) → filter p xs ≡ [] → list_any p xs ≡ false
passes_none p [] none = refl
passes_none p (x ∷ xs) none = at (p x) refl none (passes_none p xs)
  where
    at : (b : Bool) → p x ≡ b → filter p (x ∷ xs) ≡ [] → (filter p xs ≡ [] → list_any p xs ≡ false) → list_any p (x ∷ xs) ≡ false
    at true is none later = absurd (let e = ap (λ b. cond b (x ∷ filter p xs) (filter p xs)) (sym is) ∙ none in cc)
    at false is none later = ap (λ b. b || list_any p xs) is ∙ later (ap (λ b. cond b (x ∷ filter p xs) (filter p xs)) (sym is) ∙ none)

-- a row was found where some row passes
pub picks_any : (p : Row → Bool) (xs : List Row) (found : Option Row) → Picks (filter p xs) found → is_some found ≡ list_any p xs
picks_any p xs None none = sym (passes_none p xs none)
picks_any p xs (Some row) some = at (list_any p xs) refl
  where
    at : (b : Bool) → list_any p xs ≡ b → true ≡ b
    at true is = refl
    at false is = absurd (omega (arith, length_permutation (filter p xs) (row ∷ some.0) some.1, ap length (none_passes p xs is)))

-- the contract of a function that tells whether a text finds a row
pub there_read : (tenant : ℤ) (id : List ℕ) (sql : List ℕ) (tree width : ℕ) → ((s : Schema) → IsLedger s → IsPlainText sql s tree (is_param 1 0 ∷ is_param 2 1 ∷ []) (columns_from 2 (suc width)) []) → (old new : State) (key : Row)
    → key ≡ Int tenant ∷ Blob id ∷ [] → (found : Result (Option Row) TableFault) → (HasCleanDisk new → IfOk found (FindsFirst sql key old new)) → LeavesRead old new found → (got : Result Bool Unavailable)
    → IfOk got (λ there. (row : Option Row) × (found ≡ Ok row) × (there ≡ is_some row)) → LeavesLearnt OverLedger (λ trees there. there ≡ list_any (has_id id) (rows_in tree (suc width) tenant trees)) old new got
there_read tenant id sql tree width text old new key is found finds reads (Err e) same = record { ok = λ clean ledger. tt; reads = read_on old new found (Err e) tt reads }
there_read tenant id sql tree width text old new key is found finds reads (Ok there) same = record {
  ok = λ clean ledger.
      let picks = point_picks tenant id sql tree width text old new key is ledger same.0 (subst (λ f. IfOk f (FindsFirst sql key old new)) same.1 (finds clean)) in
      same.2 ∙ picks_any (has_id id) (rows_in tree (suc width) tenant old.now.trees) same.0 picks;
  reads = read_on old new found (Ok there) (same.0, same.1) reads;
}

-- a text over one table, whatever it looks for
pub view_picks : (rows : Trees → List Row) (sql : List ℕ) (tree : ℕ) (terms shown : List Term) (text : (s : Schema) → IsLedger s → IsPlainText sql s tree terms shown []) (good : Row) (old new : State)
    → ((db : Trees) → map (show tree terms shown [] db good) (filter (passes tree terms shown [] db good) (db tree)) ≡ rows db) → (key : Row) → key ≡ good
    → IsLedger old.now.schema → (row : Option Row) → FindsFirst sql key old new row → Picks (rows old.now.trees) row
view_picks rows sql tree terms shown text good old new is key given ledger row finds =
    let it = text old.now.schema ledger in
    subst (λ xs. Picks xs row) (is old.now.trees) (found_shown sql old.now.schema tree terms shown [] it good old new refl row (subst (λ k. FindsFirst sql k old new row) given finds))

pub clock_view : (tenant : ℤ) (db : Trees) → map (λ (r : Row). column r 2 ∷ []) (filter (λ r. list_all (holds ((Int tenant ∷ []) ∷ r ∷ [])) (is_param 0 0 ∷ [])) (db clock_tree)) ≡ clock_rows tenant db
clock_view tenant db =
    let point : (r : Row) → list_all (holds ((Int tenant ∷ []) ∷ r ∷ [])) (is_param 0 0 ∷ []) ≡ is_int tenant (column r 0) = λ r. (λ i. equals_int (column r 0) tenant i && true) ∙ and_true (is_int tenant (column r 0)) in
    ap (map (λ (r : Row). column r 2 ∷ [])) (filter_same (λ r. list_all (holds ((Int tenant ∷ []) ∷ r ∷ [])) (is_param 0 0 ∷ [])) (λ r. is_int tenant (column r 0)) (db clock_tree) (all_of _ point (db clock_tree)))

pub digest_view : (digest : List ℕ) (db : Trees) → map (λ (r : Row). column r 0 ∷ []) (filter (λ r. list_all (holds ((Blob digest ∷ []) ∷ r ∷ [])) (is_param 3 0 ∷ [])) (db tenant_tree)) ≡ numbers_with_digest digest db
digest_view digest db =
    let point : (r : Row) → list_all (holds ((Blob digest ∷ []) ∷ r ∷ [])) (is_param 3 0 ∷ []) ≡ is_blob digest (column r 3) = λ r. (λ i. equals_blob (column r 3) digest i && true) ∙ and_true (is_blob digest (column r 3)) in
    ap (map (λ (r : Row). column r 0 ∷ [])) (filter_same (λ r. list_all (holds ((Blob digest ∷ []) ∷ r ∷ [])) (is_param 3 0 ∷ [])) (λ r. is_blob digest (column r 3)) (db tenant_tree) (all_of _ point (db tenant_tree)))

pub name_view : (name : List ℕ) (db : Trees)
    → map (λ (r : Row). eval_all (col 1 0 ∷ columns_from 2 2) ((Text name ∷ []) ∷ r ∷ [])) (filter (λ r. list_all (holds ((Text name ∷ []) ∷ r ∷ [])) (is_param 2 0 ∷ [])) (db tenant_tree))
    ≡ with_name name (directory_rows db)
name_view name db =
    let point : (r : Row) → list_all (holds ((Text name ∷ []) ∷ r ∷ [])) (is_param 2 0 ∷ []) ≡ is_text name (column r 2) = λ r. (λ i. equals_text (column r 2) name i && true) ∙ and_true (is_text name (column r 2)) in
    ap (map (λ (r : Row). column r 0 ∷ cells_from 2 2 r)) (filter_same (λ r. list_all (holds ((Text name ∷ []) ∷ r ∷ [])) (is_param 2 0 ∷ [])) (λ r. is_text name (column r 2)) (db tenant_tree) (all_of _ point (db tenant_tree)))
    ∙ sym (filter-map (λ row. is_text name (column row 1)) (λ (r : Row). column r 0 ∷ cells_from 2 2 r) (db tenant_tree))

pub number_view : (number : ℤ) (db : Trees)
    → map (λ (r : Row). eval_all (col 1 0 ∷ columns_from 2 2) ((Int number ∷ []) ∷ r ∷ []))
    (filter (λ r. list_all (holds ((Int number ∷ []) ∷ r ∷ [])) (is_param 0 0 ∷ [])) (db tenant_tree))
    ≡ filter (λ row. is_int number (column row 0)) (directory_rows db)
number_view number db =
    let point : (r : Row) → list_all (holds ((Int number ∷ []) ∷ r ∷ [])) (is_param 0 0 ∷ []) ≡ is_int number (column r 0) =
    λ r. (λ i. equals_int (column r 0) number i && true) ∙ and_true (is_int number (column r 0)) in
    ap (map (λ (r : Row). column r 0 ∷ cells_from 2 2 r))
    (filter_same (λ r. list_all (holds ((Int number ∷ []) ∷ r ∷ [])) (is_param 0 0 ∷ []))
    (λ r. is_int number (column r 0)) (db tenant_tree) (all_of _ point (db tenant_tree)))
    ∙ sym (filter-map (λ row. is_int number (column row 0)) (λ (r : Row). column r 0 ∷ cells_from 2 2 r) (db tenant_tree))
