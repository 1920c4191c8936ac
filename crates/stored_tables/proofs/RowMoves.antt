-- One table's typed rows, as a database has them in any order.
use Rattle.std.proofs.Common.{◌≡◌, ℕ, ◌+◌, ◌<◌, ◌≤◌, ◌^◌, Bool, true, false, not, eqb, cond, List, [], ◌∷◌, ◌++◌, length, map, filter, Option, Some, None, option_map, IfSome, IsSome, true≢false, refl, sym, ap, subst, ◌∙◌, arith}
use Rattle.std.specs.List.{AllByRecursion, count_by}
use Rattle.std.specs.List.Sorted.{IsPermutation}
use Rattle.std.specs.Option.{option_to_list}
use Rattle.std.specs.Cmp.{both_ways}
use Rattle.std.proofs.lemmas.Bool.Decides.{Decides-eqb}
use Rattle.std.proofs.lemmas.List.{map-append}
use Rattle.std.proofs.lemmas.List.Sorted.{IsPermutation-cons, IsPermutation-map, IsPermutation-trans, IsPermutation-sym, IsPermutation-append_right, IsPermutation-append_comm, length_permutation}
use Rattle.std.proofs.lemmas.List.Sums.{sum_by-cons}
use Rattle.std.proofs.lemmas.Slice.Eq.{bytes_eq-Decides}
use Rattle.std.specs.Str.{bytes_eq}
use Rattle.amount.specs.Column.{column_of, IsOneToOne}
use Rattle.sqlite_value.specs.Order.{Row}
use Rattle.sqlite_trees.proofs.ListLemmas.{filter-map, filter_same, all_weaker, IsPermutation-filter}
use Rattle.sqlite.proofs.Callers.{one_permutation}
use Rattle.rows.specs.Keyed.{row_with, changed}
use Rattle.rows.specs.Tables.{HasDistinctKeys, without_key}
use Rattle.ledger_sql.specs.Effects.{Picks}
use Rattle.stored_tables.specs.Holds.{HasRows}

-- more rows
pub with_more : {R : Type 0} (values : R → Row) (xs more : List R) (was now : List Row) → HasRows values xs was → IsPermutation (map values more ++ was) now → HasRows values (xs ++ more) now
with_more values xs more was now held added =
    subst (λ front. IsPermutation front now) (sym (map-append values xs more))
    (IsPermutation-trans (map values xs ++ map values more) (map values more ++ map values xs) now (IsPermutation-append_comm (map values xs) (map values more))
    (IsPermutation-trans (map values more ++ map values xs) (map values more ++ was) now (IsPermutation-append_right (map values more) (map values xs) was held) added))

-- a column is that of an id exactly where it holds the id
pub tells_id : IsOneToOne → (a id : ℕ) → a < 2 ^ 128 → id < 2 ^ 128 → bytes_eq (column_of a) (column_of id) ≡ eqb a id
tells_id one a id p q = both_ways (bytes_eq (column_of a) (column_of id)) (eqb a id)
    (λ same. (Decides-eqb a id).1 (one a id p q ((bytes_eq-Decides (column_of a) (column_of id)).0 same)))
    (λ same. (bytes_eq-Decides (column_of a) (column_of id)).1 (ap column_of ((Decides-eqb a id).0 same)))

-- The test tells of a row's values whether it has this key.
module _ {R : Type 0} (values : R → Row) (key : R → ℕ) (id : ℕ) (test : Row → Bool) (xs : List R) (tells : AllByRecursion (λ x. test (values x) ≡ eqb (key x) id) xs) (was : List Row) (held : HasRows values xs was) where
  passing : filter test (map values xs) ≡ map values (filter (λ x. eqb (key x) id) xs)
  passing = filter-map test values xs ∙ ap (map values) (filter_same (λ x. test (values x)) (λ x. eqb (key x) id) xs tells)

  failing : filter (λ r. not (test r)) (map values xs) ≡ map values (without_key key id xs)
  failing =
      filter-map (λ r. not (test r)) values xs
      ∙ ap (map values) (filter_same (λ x. not (test (values x))) (λ x. not (eqb (key x) id)) xs (all_weaker _ _ (λ x (e : test (values x) ≡ eqb (key x) id). ap not e) xs tells))

  module _ (alone : filter (λ x. eqb (key x) id) xs ≡ option_to_list (row_with key id xs)) where
    picked : IsPermutation (map values (option_to_list (row_with key id xs))) (filter test was)
    picked = subst (λ front. IsPermutation front (filter test was)) (passing ∙ ap (map values) alone) (IsPermutation-filter test (map values xs) was held)

    -- one row has the key
    pub one : (row : R) → row_with key id xs ≡ Some row → filter test was ≡ values row ∷ []
    one row found = one_permutation (values row) (filter test was) (subst (λ o. IsPermutation (map values (option_to_list o)) (filter test was)) found picked)

    -- what is found of the rows with the key is the row with the key
    same_found : (fits : R → Type 0) → ((a b : R) → fits a → fits b → values a ≡ values b → a ≡ b) → (there found : Option R) → IsPermutation (map values (option_to_list there)) (filter test was) → IfSome there fits → IfSome found fits → Picks (filter test was) (option_map values found) → found ≡ there
    same_found fits same None None perm p q picks = refl
    same_found fits same None (Some b) perm p q picks = absurd (omega (arith, length_permutation [] (filter test was) perm, length_permutation (filter test was) (values b ∷ picks.0) picks.1))
    same_found fits same (Some a) None perm p q picks = absurd (omega (arith, length_permutation (values a ∷ []) (filter test was) perm, ap length picks))
    same_found fits same (Some a) (Some b) perm p q picks =
        let e : values b ∷ picks.0 ≡ values a ∷ [] = one_permutation (values a) (values b ∷ picks.0) (IsPermutation-trans (values a ∷ []) (filter test was) (values b ∷ picks.0) perm picks.1) in
        let head : values b ≡ values a = cc in
        ap Some (same b a q p head)

    pub found_row : (fits : R → Type 0) → ((a b : R) → fits a → fits b → values a ≡ values b → a ≡ b) → (found : Option R) → IfSome (row_with key id xs) fits → IfSome found fits → Picks (filter test was) (option_map values found) → found ≡ row_with key id xs
    found_row fits same found p q picks = same_found fits same (row_with key id xs) found picked p q picks

  -- the row with the key is replaced
  pub with_changed : (change : R → R) (row : R) (now : List Row) → IsPermutation (change row ∷ without_key key id xs) (changed key id change xs) → IsPermutation (values (change row) ∷ filter (λ r. not (test r)) was) now → HasRows values (changed key id change xs) now
  with_changed change row now replaced set =
      IsPermutation-trans (map values (changed key id change xs)) (values (change row) ∷ map values (without_key key id xs)) now
      (IsPermutation-sym _ _ (IsPermutation-map values (change row ∷ without_key key id xs) (changed key id change xs) replaced))
      (IsPermutation-trans _ (values (change row) ∷ filter (λ r. not (test r)) was) now
      (IsPermutation-cons (values (change row)) (map values (without_key key id xs)) (filter (λ r. not (test r)) was)
      (subst (λ front. IsPermutation front (filter (λ r. not (test r)) was)) failing (IsPermutation-filter (λ r. not (test r)) (map values xs) was held)))
      set)

-- a change that keeps keys
module _ {R : Type 0} (key : R → ℕ) (k : ℕ) (change : R → R) (keeps : (x : R) → key (change x) ≡ key x) where
  key_kept : (here : Bool) (x : R) → key (cond here (change x) x) ≡ key x
  key_kept true x = keeps x
  key_kept false x = refl

  counts_kept : (id : ℕ) (xs : List R) → count_by (λ x. eqb (key x) id) (changed key k change xs) ≡ count_by (λ x. eqb (key x) id) xs
  counts_kept id [] = refl
  counts_kept id (x ∷ xs) =
      let y = cond (eqb (key x) k) (change x) x in
      sum_by-cons (λ z. cond {A = ℕ} (eqb (key z) id) 1 0) y (changed key k change xs)
      ∙ (λ i. cond {A = ℕ} (eqb (key_kept (eqb (key x) k) x i) id) 1 0 + counts_kept id xs i)
      ∙ sym (sum_by-cons (λ z. cond {A = ℕ} (eqb (key z) id) 1 0) x xs)

  pub distinct_kept : (xs : List R) → HasDistinctKeys key xs → HasDistinctKeys key (changed key k change xs)
  distinct_kept xs once id = subst (λ n. n ≤ 1) (sym (counts_kept id xs)) (once id)

  pub all_kept : (P : ℕ → Type 0) (xs : List R) → AllByRecursion (λ x. P (key x)) xs → AllByRecursion (λ x. P (key x)) (changed key k change xs)
  all_kept P [] all = tt
  all_kept P (x ∷ xs) all = (subst P (sym (key_kept (eqb (key x) k) x)) all.0, all_kept P xs all.1)

  -- a row with a key stays one
  found_step : (mine here : Bool) (x row : R) (behind moved : Option R) → cond here (Some x) behind ≡ Some row → (behind ≡ Some row → (z : R) × (moved ≡ Some z)) → (z : R) × (cond here (Some (cond mine (change x) x)) moved ≡ Some z)
  found_step mine true x row behind moved found more = (cond mine (change x) x, refl)
  found_step mine false x row behind moved found more = more found

  pub found_kept : (id : ℕ) (xs : List R) (row : R) → row_with key id xs ≡ Some row → (z : R) × (row_with key id (changed key k change xs) ≡ Some z)
  found_kept id [] row found = absurd (cc)
  found_kept id (x ∷ xs) row found =
      let mine = eqb (key x) k in
      let it = found_step mine (eqb (key x) id) x row (row_with key id xs) (row_with key id (changed key k change xs)) found (found_kept id xs row) in
      (it.0, ap (λ n. cond (eqb n id) (Some (cond mine (change x) x)) (row_with key id (changed key k change xs))) (key_kept mine x) ∙ it.1)

-- the row that is found has the key, and what all rows have
key_here : {R : Type 0} (key : R → ℕ) (id : ℕ) (x row : R) (here : Bool) (behind : Option R) → eqb (key x) id ≡ here → cond here (Some x) behind ≡ Some row → (behind ≡ Some row → key row ≡ id) → key row ≡ id
key_here key id x row true behind is found more = let same : x ≡ row = cc in subst (λ r. key r ≡ id) same ((Decides-eqb (key x) id).0 is)
key_here key id x row false behind is found more = more found

pub found_key : {R : Type 0} (key : R → ℕ) (id : ℕ) (xs : List R) (row : R) → row_with key id xs ≡ Some row → key row ≡ id
found_key key id [] row found = absurd (cc)
found_key key id (x ∷ xs) row found = key_here key id x row (eqb (key x) id) (row_with key id xs) refl found (found_key key id xs row)

all_here : {R : Type 0} (P : R → Type 0) (x row : R) (here : Bool) (behind : Option R) → cond here (Some x) behind ≡ Some row → P x → (behind ≡ Some row → P row) → P row
all_here P x row true behind found this more = let same : x ≡ row = cc in subst P same this
all_here P x row false behind found this more = more found

pub found_all : {R : Type 0} (P : R → Type 0) (key : R → ℕ) (id : ℕ) (xs : List R) (row : R) → AllByRecursion P xs → row_with key id xs ≡ Some row → P row
found_all P key id [] row all found = absurd (cc)
found_all P key id (x ∷ xs) row all found = all_here P x row (eqb (key x) id) (row_with key id xs) found all.0 (found_all P key id xs row all.1)

pub some_of : {A : Type 0} (o : Option A) → IsSome o → (x : A) × (o ≡ Some x)
some_of None h = absurd (true≢false (sym h))
some_of (Some x) h = (x, refl)

if_of : {R : Type 0} (P : R → Type 0) (o : Option R) → ((x : R) → o ≡ Some x → P x) → IfSome o P
if_of P None has = tt
if_of P (Some x) has = has x refl

pub if_found : {R : Type 0} (P : R → Type 0) (key : R → ℕ) (id : ℕ) (xs : List R) → AllByRecursion P xs → IfSome (row_with key id xs) P
if_found P key id xs all = if_of P (row_with key id xs) (λ x found. found_all P key id xs x all found)
