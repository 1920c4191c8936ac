-- One row of a table replaced at its rowid.
use Rattle.std.proofs.Common.{◌≡◌, ℤ, List, [], ◌∷◌, map, filter, Bool, true, false, not, cond, IsTrue, refl, sym, ap, subst, ◌∙◌}
use Rattle.std.proofs.lemmas.Cmp.{tied_itself}
use Rattle.std.specs.List.{AllByRecursion}
use Rattle.std.specs.declared.cmp.Ordering.TheVariants.{Less}
use Rattle.std.specs.Ordering.{is_eq, ordering_reverse}
use Rattle.sqlite_value.specs.declared.value.Value.{Value}
use Rattle.sqlite_value.specs.declared.value.Value.TheVariants.{Null, Int, Real, Text, Blob}
use Rattle.sqlite_value.specs.Order.{Row, value_cmp}
use Rattle.sqlite_value.proofs.OrderLemmas.{value_cmp_total}
use Rattle.sqlite_trees.specs.Tree.{IsTable, rowid, has_rowid, put_row, without_rowid}
use Rattle.sqlite_trees.specs.View.{is_int}
use Rattle.sqlite_trees.proofs.ListLemmas.{ascending-filter, all-filter}
use Rattle.sqlite_trees.proofs.TreeLemmas.{IsTable-put_row, all-put_row}
use Rattle.ledger_sql.specs.Rowids.{IsNumbered}

-- where the one row that passes has this rowid, no other row has it
module _ (p : Row → Bool) (r : Row) (id : ℤ) (keyed : rowid r ≡ Int id) where
  less_apart : (x : Row) → value_cmp (rowid x) (Int id) ≡ Less → has_rowid id x ≡ false
  less_apart x e = ap is_eq e

  more_apart : (x : Row) → value_cmp (Int id) (rowid x) ≡ Less → has_rowid id x ≡ false
  more_apart x e = ap is_eq (value_cmp_total.antisymm (rowid x) (Int id) ∙ ap ordering_reverse e)

  -- behind the row itself
  none_behind : (xs : List Row) → AllByRecursion (λ y. value_cmp (Int id) (rowid y) ≡ Less) xs → filter p xs ≡ [] → filter (λ x. not (has_rowid id x)) xs ≡ filter (λ x. not (p x)) xs
  none_behind [] above none = refl
  none_behind (x ∷ xs) above none = at (p x) refl none (none_behind xs above.1)
    where
      at : (b : Bool) → p x ≡ b → filter p (x ∷ xs) ≡ [] → (filter p xs ≡ [] → filter (λ x. not (has_rowid id x)) xs ≡ filter (λ x. not (p x)) xs)
          → filter (λ x. not (has_rowid id x)) (x ∷ xs) ≡ filter (λ x. not (p x)) (x ∷ xs)
      at true is none later = absurd (let e = ap (λ b. cond b (x ∷ filter p xs) (filter p xs)) (sym is) ∙ none in cc)
      at false is none later =
          ap (λ b. cond (not b) (x ∷ filter (λ x. not (has_rowid id x)) xs) (filter (λ x. not (has_rowid id x)) xs)) (more_apart x above.0)
          ∙ ap (λ ys. x ∷ ys) (later (ap (λ b. cond b (x ∷ filter p xs) (filter p xs)) (sym is) ∙ none))
          ∙ ap (λ b. cond (not b) (x ∷ filter (λ x. not (p x)) xs) (filter (λ x. not (p x)) xs)) (sym is)

  same_out : (xs : List Row) → IsTable xs → filter p xs ≡ r ∷ [] → filter (λ x. not (has_rowid id x)) xs ≡ filter (λ x. not (p x)) xs
  same_out [] rise one = absurd (cc)
  same_out (x ∷ xs) rise one = at (p x) refl one (same_out xs rise.1)
    where
      at : (b : Bool) → p x ≡ b → filter p (x ∷ xs) ≡ r ∷ [] → (filter p xs ≡ r ∷ [] → filter (λ x. not (has_rowid id x)) xs ≡ filter (λ x. not (p x)) xs)
          → filter (λ x. not (has_rowid id x)) (x ∷ xs) ≡ filter (λ x. not (p x)) (x ∷ xs)
      at true is one later =
          let both : x ∷ filter p xs ≡ r ∷ [] = ap (λ b. cond b (x ∷ filter p xs) (filter p xs)) (sym is) ∙ one in
          let same : x ≡ r = cc in
          let none : filter p xs ≡ [] = cc in
          let id_is : rowid x ≡ Int id = ap rowid same ∙ keyed in
          let mine : has_rowid id x ≡ true = ap (λ v. is_eq (value_cmp v (Int id))) id_is ∙ ap is_eq (tied_itself value_cmp_total (Int id)) in
          ap (λ b. cond (not b) (x ∷ filter (λ x. not (has_rowid id x)) xs) (filter (λ x. not (has_rowid id x)) xs)) mine
          ∙ none_behind xs (subst (λ v. AllByRecursion (λ y. value_cmp v (rowid y) ≡ Less) xs) id_is rise.0) none
          ∙ ap (λ b. cond (not b) (x ∷ filter (λ x. not (p x)) xs) (filter (λ x. not (p x)) xs)) (sym is)
      at false is one later =
          let rest : filter p xs ≡ r ∷ [] = ap (λ b. cond b (x ∷ filter p xs) (filter p xs)) (sym is) ∙ one in
          let below : value_cmp (rowid x) (rowid r) ≡ Less = (subst (λ ys. AllByRecursion (λ y. value_cmp (rowid x) (rowid y) ≡ Less) ys) rest (all-filter (λ y. value_cmp (rowid x) (rowid y) ≡ Less) p xs rise.0)).0 in
          let other = less_apart x (ap (value_cmp (rowid x)) (sym keyed) ∙ below) in
          ap (λ b. cond (not b) (x ∷ filter (λ x. not (has_rowid id x)) xs) (filter (λ x. not (has_rowid id x)) xs)) other
          ∙ ap (λ ys. x ∷ ys) (later rest)
          ∙ ap (λ b. cond (not b) (x ∷ filter (λ x. not (p x)) xs) (filter (λ x. not (p x)) xs)) (sym is)

  pub taken_out : (xs : List Row) → IsNumbered xs → filter p xs ≡ r ∷ [] → without_rowid id xs ≡ filter (λ x. not (p x)) xs
  taken_out xs numbered one = same_out xs numbered.rise one

-- what does not pass the second test is not missed
pub not_missed : (p q : Row → Bool) (xs : List Row) → AllByRecursion (λ x. q x ≡ false) (filter p xs) → filter q (filter (λ x. not (p x)) xs) ≡ filter q xs
not_missed p q [] out = refl
not_missed p q (x ∷ xs) out = at (p x) refl out (not_missed p q xs)
  where
    at : (b : Bool) → p x ≡ b → AllByRecursion (λ x. q x ≡ false) (filter p (x ∷ xs)) → (AllByRecursion (λ x. q x ≡ false) (filter p xs) → filter q (filter (λ x. not (p x)) xs) ≡ filter q xs)
        → filter q (filter (λ x. not (p x)) (x ∷ xs)) ≡ filter q (x ∷ xs)
    at true is out later =
        let parts = subst (λ b. AllByRecursion (λ x. q x ≡ false) (cond b (x ∷ filter p xs) (filter p xs))) is out in
        ap (λ b. filter q (cond (not b) (x ∷ filter (λ x. not (p x)) xs) (filter (λ x. not (p x)) xs))) is ∙ later parts.1 ∙ ap (λ b. cond b (x ∷ filter q xs) (filter q xs)) (sym parts.0)
    at false is out later =
        let parts = subst (λ b. AllByRecursion (λ x. q x ≡ false) (cond b (x ∷ filter p xs) (filter p xs))) is out in
        ap (λ b. filter q (cond (not b) (x ∷ filter (λ x. not (p x)) xs) (filter (λ x. not (p x)) xs))) is ∙ ap (λ ys. cond (q x) (x ∷ ys) ys) (later parts)

-- a row at a free rowid keeps the rowids in order
pub numbered_put : (n : Row) (xs : List Row) → IsTrue (is_int (rowid n)) → IsNumbered xs → IsNumbered (put_row n xs)
numbered_put n xs whole numbered = record { rise = IsTable-put_row n xs numbered.rise; whole = all-put_row (λ r. IsTrue (is_int (rowid r))) n xs whole numbered.whole }

pub numbered_out : (id : ℤ) (xs : List Row) → IsNumbered xs → IsNumbered (without_rowid id xs)
numbered_out id xs numbered = record { rise = ascending-filter (λ a b. value_cmp (rowid a) (rowid b) ≡ Less) (λ r. not (has_rowid id r)) xs numbered.rise; whole = all-filter (λ r. IsTrue (is_int (rowid r))) (λ r. not (has_rowid id r)) xs numbered.whole }

pub one_mapped : {A B : Type 0} (f : A → B) (xs : List A) (y : B) → map f xs ≡ y ∷ [] → (x : A) × (xs ≡ x ∷ []) × (f x ≡ y)
one_mapped f [] y e = absurd (cc)
one_mapped f (x ∷ []) y e = (x, refl, let same : f x ≡ y = cc in same)
one_mapped f (x ∷ z ∷ xs) y e = absurd (let none : map f (z ∷ xs) ≡ [] = cc in cc)

pub int_of : (v : Value) → IsTrue (is_int v) → (id : ℤ) × (v ≡ Int id)
int_of Null h = absurd (cc)
int_of (Int n) h = (n, refl)
int_of (Real x) h = absurd (cc)
int_of (Text t) h = absurd (cc)
int_of (Blob b) h = absurd (cc)
