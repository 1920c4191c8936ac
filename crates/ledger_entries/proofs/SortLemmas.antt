-- Any rows can be put in the order of a walk.
use Rattle.std.proofs.Common.{◌≡◌, Bool, true, false, List, [], ◌∷◌, refl, sym, ap, ◌∙◌, IsPermutation, is_gt, Ordering, Less, Equal, Greater, true≢false}
use Rattle.std.specs.Ordering.{ordering_reverse}
use Rattle.std.proofs.lemmas.Cmp.{upto}
use Rattle.std.proofs.lemmas.List.Sorted.{IsPermutation-cons, IsPermutation-middle, IsPermutation-refl, IsPermutation-trans}
use Rattle.sqlite_value.specs.Order.{Row}
use Rattle.sqlite_trees.specs.declared.store.Direction.{Direction}
use Rattle.sqlite_trees.specs.Tree.{IsAscending}
use Rattle.sqlite_trees.proofs.ListLemmas.{all-permutation, all_weaker}
use Rattle.keyed_trees.specs.Rows.{walk_cmp}
use Rattle.ledger_layout.specs.Keys.{by_entry}
use Rattle.ledger_entries.proofs.CutLemmas.{NotAfter}
use Rattle.ledger_entries.proofs.KeyOrder.{walk_total}

module _ (d : Direction) where
  back : (o : Ordering) → is_gt o ≡ true → is_gt (ordering_reverse o) ≡ false
  back Less e = absurd (true≢false (sym e))
  back Equal e = absurd (true≢false (sym e))
  back Greater e = refl

  insert : (x : Row) (ys : List Row) → IsAscending (NotAfter d) ys → (zs : List Row) × IsPermutation (x ∷ ys) zs × IsAscending (NotAfter d) zs
  insert x [] up = (x ∷ [], IsPermutation-refl (x ∷ []), (tt, tt))
  insert x (y ∷ ys) up = at (is_gt (walk_cmp by_entry d x y)) refl (insert x ys up.1)
    where
      at : (b : Bool) → is_gt (walk_cmp by_entry d x y) ≡ b → (zs : List Row) × IsPermutation (x ∷ ys) zs × IsAscending (NotAfter d) zs → (zs : List Row) × IsPermutation (x ∷ y ∷ ys) zs × IsAscending (NotAfter d) zs
      at false is more = (x ∷ y ∷ ys, IsPermutation-refl (x ∷ y ∷ ys), ((is, all_weaker (NotAfter d y) (NotAfter d x) (λ z. upto (walk_total d) x y z is) ys up.0), up))
      at true is (zs, same, rise) =
          let first : NotAfter d y x = ap is_gt ((walk_total d).antisymm y x) ∙ back _ is in (
            y ∷ zs,
            IsPermutation-trans _ _ _ (IsPermutation-middle (x ∷ []) y ys) (IsPermutation-cons y _ _ same),
            (all-permutation (NotAfter d y) (x ∷ ys) zs same (first, up.0), rise),
          )

  pub sorted : (xs : List Row) → (ys : List Row) × IsPermutation xs ys × IsAscending (NotAfter d) ys
  sorted [] = ([], IsPermutation-refl [], tt)
  sorted (x ∷ xs) =
      let rest = sorted xs in
      let all = insert x rest.0 rest.2 in
      (all.0, IsPermutation-trans _ _ _ (IsPermutation-cons x xs rest.0 rest.1) all.1, all.2)
