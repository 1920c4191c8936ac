-- Rows that are put into a table at free rowids.
use Rattle.std.proofs.Common.{◌≡◌, ℤ, List, [], ◌∷◌, ◌++◌, map, filter, Bool, true, false, not, cond, ◌&&◌, ◌||◌, refl, ap, ◌∙◌}
use Rattle.std.specs.List.{AllByRecursion}
use Rattle.std.specs.List.Sorted.{IsPermutation}
use Rattle.std.proofs.lemmas.List.Sorted.{IsPermutation-refl, IsPermutation-sym, IsPermutation-trans, IsPermutation-cons, IsPermutation-middle, IsPermutation-append_right}
use Rattle.std.specs.declared.cmp.Ordering.{Ordering}
use Rattle.std.specs.declared.cmp.Ordering.TheVariants.{Less, Equal, Greater}
use Rattle.std.specs.Ordering.{is_eq, match_ordering}
use Rattle.sqlite_value.specs.declared.value.Value.TheVariants.{Null, Int}
use Rattle.sqlite_value.specs.Order.{Row, value_cmp}
use Rattle.sqlite_trees.specs.Tree.{rowid, put_row}
use Rattle.sqlite_rules.specs.declared.error.Rowids.TheVariants.{Chosen}
use Rattle.sqlite_rules.specs.Edit.{is_taken, are_fresh, put_all, numbered, with_rowid}

split_or : (a b : Bool) → (a || b) ≡ false → (a ≡ false) × (b ≡ false)
split_or true b h = absurd (cc)
split_or false b h = (refl, h)

split_and : (a b : Bool) → (a && b) ≡ true → (a ≡ true) × (b ≡ true)
split_and true b h = (refl, h)
split_and false b h = absurd (cc)

not_true : (b : Bool) → not b ≡ true → b ≡ false
not_true true h = absurd (cc)
not_true false h = refl

swap_two : {X : Type 0} (a b : X) (xs : List X) → IsPermutation (a ∷ b ∷ xs) (b ∷ a ∷ xs)
swap_two a b xs = IsPermutation-middle (a ∷ []) b xs

put_one : (n : Row) (rows : List Row) → is_taken rows n ≡ false → IsPermutation (n ∷ rows) (put_row n rows)
put_one n [] free = IsPermutation-refl (n ∷ [])
put_one n (r ∷ rows) free =
    let parts = split_or (is_eq (value_cmp (rowid r) (rowid n))) (is_taken rows n) free in
    at (value_cmp (rowid r) (rowid n)) parts.0 (put_one n rows parts.1)
  where
    at : (o : Ordering) → is_eq o ≡ false → IsPermutation (n ∷ rows) (put_row n rows) → IsPermutation (n ∷ r ∷ rows) (match_ordering o (r ∷ put_row n rows) (n ∷ rows) (n ∷ r ∷ rows))
    at Less other later = IsPermutation-trans (n ∷ r ∷ rows) (r ∷ n ∷ rows) (r ∷ put_row n rows) (swap_two n r rows) (IsPermutation-cons r (n ∷ rows) (put_row n rows) later)
    at Equal other later = absurd (cc)
    at Greater other later = IsPermutation-refl (n ∷ r ∷ rows)

put_beside : (p : Row → Bool) (n : Row) (rows : List Row) → p n ≡ false → is_taken rows n ≡ false → filter p (put_row n rows) ≡ filter p rows
put_beside p n [] out free = ap (λ b. cond b (n ∷ []) []) out
put_beside p n (r ∷ rows) out free =
    let parts = split_or (is_eq (value_cmp (rowid r) (rowid n))) (is_taken rows n) free in
    at (value_cmp (rowid r) (rowid n)) parts.0 (put_beside p n rows out parts.1)
  where
    at : (o : Ordering) → is_eq o ≡ false → filter p (put_row n rows) ≡ filter p rows → filter p (match_ordering o (r ∷ put_row n rows) (n ∷ rows) (n ∷ r ∷ rows)) ≡ filter p (r ∷ rows)
    at Less other later = ap (λ xs. cond (p r) (r ∷ xs) xs) later
    at Equal other later = absurd (cc)
    at Greater other later = ap (λ b. cond b (n ∷ filter p (r ∷ rows)) (filter p (r ∷ rows))) out

pub put_more : (news rows : List Row) → are_fresh rows news ≡ true → IsPermutation (news ++ rows) (put_all rows news)
put_more [] rows fresh = IsPermutation-refl rows
put_more (n ∷ news) rows fresh =
    let parts = split_and (not (is_taken rows n)) (are_fresh (put_row n rows) news) fresh in
    let one = put_one n rows (not_true (is_taken rows n) parts.0) in
    let first : IsPermutation (n ∷ (news ++ rows)) (news ++ n ∷ rows) = IsPermutation-sym (news ++ n ∷ rows) (n ∷ (news ++ rows)) (IsPermutation-middle news n rows) in
    let second : IsPermutation (news ++ n ∷ rows) (news ++ put_row n rows) = IsPermutation-append_right news (n ∷ rows) (put_row n rows) one in
    IsPermutation-trans (n ∷ (news ++ rows)) (news ++ n ∷ rows) (put_all (put_row n rows) news) first
    (IsPermutation-trans (news ++ n ∷ rows) (news ++ put_row n rows) (put_all (put_row n rows) news) second (put_more news (put_row n rows) parts.1))

pub put_aside : (p : Row → Bool) (news rows : List Row) → are_fresh rows news ≡ true → AllByRecursion (λ n. p n ≡ false) news → filter p (put_all rows news) ≡ filter p rows
put_aside p [] rows fresh out = refl
put_aside p (n ∷ news) rows fresh out =
    let parts = split_and (not (is_taken rows n)) (are_fresh (put_row n rows) news) fresh in
    put_aside p news (put_row n rows) parts.1 out.1 ∙ put_beside p n rows out.0 (not_true (is_taken rows n) parts.0)

-- ---- rowids that the table chooses

-- each new row has the columns of its source, at some rowid
abbrev pub AreNumbered : List Row → List Row → Type 0
AreNumbered [] [] = Unit {0}
AreNumbered [] (s ∷ sources) = ⊥
AreNumbered (n ∷ news) [] = ⊥
AreNumbered (n ∷ news) (s ∷ sources) = ((id : ℤ) × (n ≡ Int id ∷ s)) × AreNumbered news sources

pub chosen : (rows sources : List Row) → AreNumbered (numbered Chosen rows (map (λ s. Null ∷ s) sources)) sources
chosen rows [] = tt
chosen rows (s ∷ sources) = ((_, refl), chosen (put_row (with_rowid Chosen rows (Null ∷ s)) rows) sources)
