-- Rows in any order, sorted, are the rows in order.
use Rattle.std.proofs.Common.{◌≡◌, ℕ, zero, suc, ◌+◌, ◌<◌, ◌≤◌, Bool, true, false, cond, List, [], ◌∷◌, length, get_or, refl, sym, ap, ◌∙◌, add-one, arith}
use Rattle.std.specs.List.{AllByRecursion}
use Rattle.std.specs.List.Sorted.{IsPermutation, IsSortedByKey}
use Rattle.std.specs.Cmp.{nat_cmp_is}
use Rattle.std.specs.Ordering.{nat_cmp, is_gt, is_lt}
use Rattle.std.specs.declared.cmp.Ordering.TheVariants.{Less, Equal, Greater}
use Rattle.std.proofs.lemmas.Bool.{cases_order}
use Rattle.std.proofs.Math.Logic.{⊎_elim}
use Rattle.std.proofs.lemmas.List.Sorted.{IsPermutation-refl, IsPermutation-cons, IsPermutation-trans, IsPermutation-sym, IsPermutation-middle}
use Rattle.sqlite_keyed.specs.Lists.{insert_sorted, sort_by}
use Rattle.sqlite_trees.proofs.ListLemmas.{all_weaker}
use Rattle.rows.specs.Tables.{IsAscendingBy}

above : (a b : ℕ) → is_gt (nat_cmp a b) ≡ true → b < a
above a b e =
    ⊎_elim
    (λ same. absurd (let o = nat_cmp_is a b Equal same in let f : is_gt Equal ≡ true = ap is_gt o ∙ e in cc))
    (⊎_elim (λ less. absurd (let o = nat_cmp_is a b Less less in let f : is_gt Less ≡ true = ap is_gt o ∙ e in cc)) (λ more. more))
    (cases_order a b)

not_above : (a b : ℕ) → is_gt (nat_cmp a b) ≡ false → a ≤ b
not_above a b e =
    ⊎_elim
    (λ same. omega arith)
    (⊎_elim (λ less. omega arith) (λ more. absurd (let o = nat_cmp_is a b Greater more in let f : is_gt Greater ≡ false = ap is_gt o ∙ e in cc)))
    (cases_order a b)

not_below : (a b : ℕ) → a ≤ b → is_lt (nat_cmp b a) ≡ false
not_below a b le =
    ⊎_elim
    (λ same. ap is_lt (sym (nat_cmp_is b a Equal same)))
    (⊎_elim (λ less. absurd (omega arith)) (λ more. ap is_lt (sym (nat_cmp_is b a Greater more))))
    (cases_order b a)

module _ {R : Type 0} (key : R → ℕ) where
  abbrev by_key : R → R → Rattle.std.specs.declared.cmp.Ordering.Ordering
  by_key a b = nat_cmp (key a) (key b)

  -- no key is below an earlier one
  abbrev Rises : List R → Type 0
  Rises [] = Unit {0}
  Rises (x ∷ xs) = AllByRecursion (λ y. key x ≤ key y) xs × Rises xs

  all_inserted : (P : R → Type 0) (new : R) (xs : List R) → P new → AllByRecursion P xs → AllByRecursion P (insert_sorted by_key new xs)
  all_inserted P new [] this all = (this, tt)
  all_inserted P new (x ∷ xs) this all =
      elim (is_gt (by_key new x)) as (λ b. AllByRecursion P (cond b (x ∷ insert_sorted by_key new xs) (new ∷ x ∷ xs))) [ true ↦ (all.0, all_inserted P new xs this all.1) | false ↦ (this, all) ]

  rises_inserted : (new : R) (xs : List R) → Rises xs → Rises (insert_sorted by_key new xs)
  rises_inserted new [] up = (tt, tt)
  rises_inserted new (x ∷ xs) up = at (is_gt (by_key new x)) refl (rises_inserted new xs up.1)
    where
      at : (b : Bool) → is_gt (by_key new x) ≡ b → Rises (insert_sorted by_key new xs) → Rises (cond b (x ∷ insert_sorted by_key new xs) (new ∷ x ∷ xs))
      at true is more = let lt = above (key new) (key x) is in (all_inserted (λ y. key x ≤ key y) new xs (omega arith) up.0, more)
      at false is more =
          let le = not_above (key new) (key x) is in
          ((le, all_weaker (λ y. key x ≤ key y) (λ y. key new ≤ key y) (λ y (h : key x ≤ key y). omega arith) xs up.0), up)

  rises_sorted : (xs : List R) → Rises (sort_by by_key xs)
  rises_sorted [] = tt
  rises_sorted (x ∷ xs) = rises_inserted x (sort_by by_key xs) (rises_sorted xs)

  rises_at : (xs : List R) (k : ℕ) (d : R) → Rises xs → k + 1 < length xs → key (get_or xs k d) ≤ key (get_or xs (suc k) d)
  rises_at [] k d up within = absurd (omega arith)
  rises_at (x ∷ []) k d up within = absurd (omega arith)
  rises_at (x ∷ y ∷ xs) zero d up within = up.0.0
  rises_at (x ∷ y ∷ xs) (suc k) d up within = rises_at (y ∷ xs) k d up.1 (omega arith)

  in_order : (xs : List R) → Rises xs → IsSortedByKey key nat_cmp xs
  in_order xs up k d low within = rw add-one (not_below (key (get_or xs k d)) (key (get_or xs (suc k) d)) (rises_at xs k d up within))

  -- ascending rows come back
  pub sorted_back : ((xs ys : List R) → IsAscendingBy key xs → IsPermutation xs ys → IsSortedByKey key nat_cmp ys → xs ≡ ys) → (xs ys : List R) → IsAscendingBy key xs → IsPermutation xs ys → sort_by by_key ys ≡ xs
  sorted_back once xs ys up same =
      sym (once xs (sort_by by_key ys) up (IsPermutation-trans xs ys (sort_by by_key ys) same (IsPermutation-sym _ _ (sorted_same ys))) (in_order (sort_by by_key ys) (rises_sorted ys)))
    where
      inserted_same : (new : R) (zs : List R) → IsPermutation (insert_sorted by_key new zs) (new ∷ zs)
      inserted_same new [] = IsPermutation-refl (new ∷ [])
      inserted_same new (z ∷ zs) =
          elim (is_gt (by_key new z)) as (λ b. IsPermutation (cond b (z ∷ insert_sorted by_key new zs) (new ∷ z ∷ zs)) (new ∷ z ∷ zs)) [
            | true ↦ IsPermutation-trans _ _ _ (IsPermutation-cons z _ _ (inserted_same new zs)) (IsPermutation-middle (z ∷ []) new zs)
            | false ↦ IsPermutation-refl _
          ]

      sorted_same : (zs : List R) → IsPermutation (sort_by by_key zs) zs
      sorted_same [] = IsPermutation-refl []
      sorted_same (z ∷ zs) = IsPermutation-trans _ _ _ (inserted_same z (sort_by by_key zs)) (IsPermutation-cons z _ _ (sorted_same zs))
