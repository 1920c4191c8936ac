-- A row that is put into a table at a rowid that no row has.
use Rattle.std.proofs.Common.{◌≡◌, ℤ, Bool, true, false, cond, List, [], ◌∷◌, filter, refl, sym, ap, ◌∙◌, IsPermutation, Ordering, Less, Equal, Greater, is_eq, IsTrue}
use Rattle.std.specs.Ordering.{match_ordering}
use Rattle.std.proofs.lemmas.List.Sorted.{IsPermutation-refl, IsPermutation-trans, IsPermutation-cons, IsPermutation-middle}
use Rattle.sqlite_value.specs.declared.value.Value.TheVariants.{Int}
use Rattle.sqlite_value.specs.Order.{Row, value_cmp}
use Rattle.sqlite_trees.specs.Tree.{rowid, has_rowid, put_row}
use Rattle.sqlite_trees.specs.View.{is_int}
use Rattle.sqlite_trees.proofs.TreeLemmas.{IsTable-put_row, all-put_row}
use Rattle.ledger_sql.specs.Rowids.{IsNumbered}

none_first : (p : Row → Bool) (x : Row) (xs : List Row) → filter p (x ∷ xs) ≡ [] → (p x ≡ false) × (filter p xs ≡ [])
none_first p x xs none = at (p x) refl
  where
    at : (b : Bool) → p x ≡ b → (p x ≡ false) × (filter p xs ≡ [])
    at true is = absurd (let e = ap (λ b. cond b (x ∷ filter p xs) (filter p xs)) (sym is) ∙ none in cc)
    at false is = (is, ap (λ b. cond b (x ∷ filter p xs) (filter p xs)) (sym is) ∙ none)

module _ (id : ℤ) (columns : Row) where
  abbrev new : Row
  new = Int id ∷ columns

  pub put_free : (rows : List Row) → filter (has_rowid id) rows ≡ [] → IsPermutation (new ∷ rows) (put_row new rows)
  put_free [] free = IsPermutation-refl (new ∷ [])
  put_free (r ∷ rows) free =
      let parts = none_first (has_rowid id) r rows free in
      at (value_cmp (rowid r) (Int id)) parts.0 (put_free rows parts.1)
    where
      at : (o : Ordering) → is_eq o ≡ false → IsPermutation (new ∷ rows) (put_row new rows) → IsPermutation (new ∷ r ∷ rows) (match_ordering o (r ∷ put_row new rows) (new ∷ rows) (new ∷ r ∷ rows))
      at Less other later = IsPermutation-trans (new ∷ r ∷ rows) (r ∷ new ∷ rows) (r ∷ put_row new rows) (IsPermutation-middle (new ∷ []) r rows) (IsPermutation-cons r (new ∷ rows) (put_row new rows) later)
      at Equal other later = absurd (cc)
      at Greater other later = IsPermutation-refl (new ∷ r ∷ rows)

  -- a test that the row does not pass finds the same rows
  pub put_aside : (q : Row → Bool) (rows : List Row) → q new ≡ false → filter (has_rowid id) rows ≡ [] → filter q (put_row new rows) ≡ filter q rows
  put_aside q [] out free = ap (λ b. cond b (new ∷ []) []) out
  put_aside q (r ∷ rows) out free =
      let parts = none_first (has_rowid id) r rows free in
      at (value_cmp (rowid r) (Int id)) parts.0 (put_aside q rows out parts.1)
    where
      at : (o : Ordering) → is_eq o ≡ false → filter q (put_row new rows) ≡ filter q rows → filter q (match_ordering o (r ∷ put_row new rows) (new ∷ rows) (new ∷ r ∷ rows)) ≡ filter q (r ∷ rows)
      at Less other later = ap (λ xs. cond (q r) (r ∷ xs) xs) later
      at Equal other later = absurd (cc)
      at Greater other later = ap (λ b. cond b (new ∷ filter q (r ∷ rows)) (filter q (r ∷ rows))) out

  pub numbered_put : (rows : List Row) → IsNumbered rows → IsNumbered (put_row new rows)
  numbered_put rows numbered = record {
    rise = IsTable-put_row new rows numbered.rise;
    whole = all-put_row (λ r. IsTrue (is_int (rowid r))) new rows refl numbered.whole;
  }
