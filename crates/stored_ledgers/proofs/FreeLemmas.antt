-- Numbers that no tenant has.
use Rattle.std.proofs.Common.{◌≡◌, ◌≢◌, ◌||◌, ℕ, ◌≤◌, pos, Bool, true, false, cond, Option, Some, None, is_some, Result, IfOk, IfSome, List, [], ◌∷◌, map, filter, length, refl, sym, ap, subst, arith}
use Rattle.std.specs.List.{list_any}
use Rattle.std.specs.Option.{ok_or}
use Rattle.std.specs.List.Sorted.{IsPermutation}
use Rattle.std.specs.Ordering.{int_eq}
use Rattle.std.specs.String.{string_bytes}
use Rattle.std.proofs.lemmas.List.Sorted.{length_permutation}
use Rattle.rows.specs.declared.all_rows.DirectoryRow.{DirectoryRow}
use Rattle.sqlite_value.specs.Order.{Row, column}
use Rattle.sqlite_trees.specs.Tree.{Trees}
use Rattle.sqlite_trees.proofs.ListLemmas.{filter-map, IsPermutation-filter}
use Rattle.ledger_sql.specs.Reading.{ReadsRows, directory_cmp}
use Rattle.ledger_sql.specs.TableRows.{directory_rows, is_int}
use Rattle.ledger_sql.specs.Values.{directory_values}
use Rattle.stored_ledgers.specs.Directory.{with_number, IsLeastMissing, IsLeastFree}
use Rattle.stored_ledgers.proofs.TakenLemmas.{only_row}

pub no_row : (rows : List Row) → IsPermutation [] rows → rows ≡ []
no_row [] none = refl
no_row (row ∷ rows) none = absurd (omega (arith, length_permutation _ _ none))

-- at most one row in any order is the same
pub same_short : (rows other : List Row) → IsPermutation rows other → length rows ≤ 1 → other ≡ rows
same_short [] other perm few = no_row other perm
same_short (row ∷ []) other perm few = only_row row other perm
same_short (row ∷ another ∷ rows) other perm few = absurd (omega arith)

any_none : {X : Type 0} (p : X → Bool) (xs : List X) → list_any p xs ≡ false → filter p xs ≡ []
any_none p [] none = refl
any_none p (x ∷ xs) none = elim (p x) as (λ b. (b || list_any p xs) ≡ false
    → cond b (x ∷ filter p xs) (filter p xs) ≡ []) [
      | true ↦ λ e. absurd (cc)
      | false ↦ λ e. any_none p xs e
    ] none

any_some : {X : Type 0} (p : X → Bool) (xs : List X) → list_any p xs ≡ true → filter p xs ≢ []
any_some p [] some none = absurd (cc)
any_some p (x ∷ xs) some none = elim (p x) as (λ b. (b || list_any p xs) ≡ true
    → cond b (x ∷ filter p xs) (filter p xs) ≡ [] → ⊥) [
      | true ↦ λ e f. absurd (cc)
      | false ↦ λ e f. any_some p xs e f
    ] some none

-- the least number that no row has is free
pub least_free : (trees : Trees) (rows : List DirectoryRow) (number : ℕ)
    → ReadsRows (λ row. directory_values row.number (string_bytes row.name) row.digest) directory_cmp
    (directory_rows trees) rows
    → IsLeastMissing rows number → IsLeastFree number trees
least_free trees rows number reads least =
    let values : DirectoryRow → Row = λ row. directory_values row.number (string_bytes row.name) row.digest in
    let same : (n : ℕ) → IsPermutation (with_number (pos n) trees)
    (map values (filter (λ row. int_eq row.number (pos n)) rows)) = λ n.
    subst (IsPermutation (with_number (pos n) trees))
    (filter-map (λ row. is_int (pos n) (column row 0)) values rows)
    (IsPermutation-filter (λ row. is_int (pos n) (column row 0)) _ _ reads.all) in
    record {
      positive = least.positive;
      free =
          let none = any_none (λ row. int_eq row.number (pos number)) rows least.missing in
          let count = length_permutation _ _ (same number) in
          let nothing : length (map values (filter (λ row. int_eq row.number (pos number)) rows)) ≡ 0 =
          ap (λ found. length (map values found)) none in
          empty (with_number (pos number) trees) (omega (arith, count, nothing));
      least = λ other above below free.
          let some = any_some (λ row. int_eq row.number (pos other)) rows (least.least other above below) in
          some (unmapped values _ (no_row _ (subst (λ found. IsPermutation found
          (map values (filter (λ row. int_eq row.number (pos other)) rows))) free (same other))));
    }
  where
    empty : (xs : List Row) → length xs ≡ 0 → xs ≡ []
    empty [] none = refl
    empty (x ∷ xs) none = absurd (omega arith)

    unmapped : (f : DirectoryRow → Row) (xs : List DirectoryRow) → map f xs ≡ [] → xs ≡ []
    unmapped f [] none = refl
    unmapped f (x ∷ xs) none = absurd (cc)

-- what is found of an answer
pub if_ok_or : {X E : Type 0} (P Q : X → Type 0) (found : Option X) (why : E) (r : Result X E)
    → r ≡ ok_or found why → IfSome found P → ((x : X) → P x → Q x) → IfOk r Q
if_ok_or P Q None why r is some weaker = subst (λ r. IfOk r Q) (sym is) tt
if_ok_or P Q (Some x) why r is some weaker = subst (λ r. IfOk r Q) (sym is) (weaker x some)

pub none_there : {X : Type 0} (found : Option X) → is_some found ≡ false → found ≡ None
none_there None there = refl
none_there (Some x) there = absurd (cc)
