-- What the first entry from a key on tells of the rows that have the key.
use Rattle.std.proofs.Common.{◌≡◌, ℕ, ℤ, zero, suc, Bool, true, false, List, [], ◌∷◌, map, filter, length, remove, get_or, refl, sym, ap, subst, ◌∙◌, arith, ◌≤◌, cond, Ordering, Less, Equal, Greater, is_lt, is_gt, is_eq, true≢false, IsTrue, Contains, IsPermutation}
use Rattle.std.specs.List.{AllByRecursion}
use Rattle.std.proofs.lemmas.List.{nil_from_length}
use Rattle.std.proofs.lemmas.List.Elements.{All-from_recursion, All-contains}
use Rattle.std.proofs.lemmas.List.Sorted.{IsPermutation-sym, IsPermutation-remove, Contains-permutation, length_permutation}
use Rattle.std.proofs.lemmas.Cmp.{tied_itself}
use Rattle.sqlite_value.specs.declared.value.Value.TheVariants.{Int}
use Rattle.sqlite_value.specs.Order.{Row, column, value_cmp}
use Rattle.sqlite_value.specs.declared.keys.Order.{Order}
use Rattle.sqlite_value.specs.Keys.{prefix_cmp}
use Rattle.sqlite_value.proofs.OrderLemmas.{value_cmp_total}
use Rattle.sqlite_trees.specs.Tree.{rowid, from_key, has_rowid}
use Rattle.sqlite_trees.specs.View.{Finds, is_int}
use Rattle.sqlite_trees.proofs.ListLemmas.{all_weaker, filter_none, filter-map, IsPermutation-filter}
use Rattle.sqlite_trees.proofs.TreeLemmas.{IsSortedTree, prefix_cmp_follows}
use Rattle.sqlite_sql.specs.Catalog.{entry_of, IsIndexOf}
use Rattle.sqlite_exec.proofs.CheckLemmas.{head_is_there}
use Rattle.sqlite_exec.proofs.ScanLemmas.{rowid-entry_of}
use Rattle.sqlite_rules.specs.Edit.{id_in}
use Rattle.sqlite_rules.proofs.TableLemmas.{int_is}
use Rattle.keyed_trees.specs.Layout.{KeyShape}
use Rattle.keyed_trees.specs.Rows.{has_key, FindsRow}
use Rattle.keyed_trees.specs.StoreCalls.{FindsEntry}

less_is_other : (o : Ordering) → is_lt o ≡ true → is_eq o ≡ false
less_is_other Less e = refl
less_is_other Equal e = absurd (true≢false (sym e))
less_is_other Greater e = refl

greater_is_other : (o : Ordering) → is_gt o ≡ true → is_eq o ≡ false
greater_is_other Less e = refl
greater_is_other Equal e = absurd (true≢false (sym e))
greater_is_other Greater e = refl

other_is_greater : (o : Ordering) → is_lt o ≡ false → is_eq o ≡ false → is_gt o ≡ true
other_is_greater Less e f = absurd (true≢false e)
other_is_greater Equal e f = absurd (true≢false f)
other_is_greater Greater e f = refl

-- where nothing stands from a key on, no entry begins with it
pub none_from : (o : Order) (key : Row) (entries : List Row) → from_key o key entries ≡ [] → AllByRecursion (λ e. is_eq (prefix_cmp o e key) ≡ false) entries
none_from o key [] none = tt
none_from o key (e ∷ entries) none = go (is_lt (prefix_cmp o e key)) refl none (none_from o key entries)
  where
    go : (b : Bool) → is_lt (prefix_cmp o e key) ≡ b → cond b (from_key o key entries) (e ∷ entries) ≡ []
        → (from_key o key entries ≡ [] → AllByRecursion (λ x. is_eq (prefix_cmp o x key) ≡ false) entries) → AllByRecursion (λ x. is_eq (prefix_cmp o x key) ≡ false) (e ∷ entries)
    go true below none more = (less_is_other _ below, more none)
    go false here none more = absurd (cc)

-- where the first entry from a key on does not begin with it, none does
other_first : (o : Order) (key : Row) (entries : List Row) (first : Row) (left : List Row) → IsSortedTree o entries → from_key o key entries ≡ first ∷ left → is_eq (prefix_cmp o first key) ≡ false
    → AllByRecursion (λ e. is_eq (prefix_cmp o e key) ≡ false) entries
other_first o key [] first left rise from other = tt
other_first o key (e ∷ entries) first left rise from other = go (is_lt (prefix_cmp o e key)) refl from (λ later. other_first o key entries first left rise.1 later other)
  where
    go : (b : Bool) → is_lt (prefix_cmp o e key) ≡ b → cond b (from_key o key entries) (e ∷ entries) ≡ first ∷ left
        → (from_key o key entries ≡ first ∷ left → AllByRecursion (λ x. is_eq (prefix_cmp o x key) ≡ false) entries) → AllByRecursion (λ x. is_eq (prefix_cmp o x key) ≡ false) (e ∷ entries)
    go true below from more = (less_is_other _ below, more from)
    go false here from more =
        let is_first : e ≡ first = cc in
        let differs : is_eq (prefix_cmp o e key) ≡ false = rw is_first other in
        let above : is_gt (prefix_cmp o e key) ≡ true = other_is_greater _ here differs in
        (differs, all_weaker _ (λ x. is_eq (prefix_cmp o x key) ≡ false) (λ x h. greater_is_other _ ((prefix_cmp_follows o key e x h).1 above)) entries rise.0)

-- the first entry from a key on tells whether any begins with it
pub entry_tells : (o : Order) (key : Row) (entries : List Row) (first : Row) (left : List Row) → IsSortedTree o entries → from_key o key entries ≡ first ∷ left → (b : Bool) → b ≡ is_eq (prefix_cmp o first key)
    → FindsEntry o key entries first b
entry_tells o key entries first left rise from true is = (head_is_there o key entries left first from, sym is)
entry_tells o key entries first left rise from false is = other_first o key entries first left rise from (sym is)

-- what a list contains can stand first
first_of : {X : Type 0} (xs : List X) (x : X) → Contains xs x → (rest : List X) × IsPermutation xs (x ∷ rest)
first_of xs x there = (remove xs there.0, IsPermutation-remove xs there.0 x there.1 (sym there.2))

module _ {X : Type 0} (p : X → Bool) where
  further : (b : Bool) (y : X) (ys : List X) (x : X) → Contains (filter p ys) x → Contains (cond b (y ∷ filter p ys) (filter p ys)) x
  further true y ys x it = (suc it.0, omega (arith, it.1), it.2)
  further false y ys x it = it

  passes : (xs : List X) (x : X) → Contains xs x → p x ≡ true → Contains (filter p xs) x
  passes [] x there is = absurd (omega (arith, there.1))
  passes (y ∷ ys) x there is = go there.0 there.1 there.2 (p y) refl (λ later. passes ys x later is)
    where
      go : (k : ℕ) → suc k ≤ length (y ∷ ys) → get_or (y ∷ ys) k x ≡ x → (b : Bool) → p y ≡ b → (Contains ys x → Contains (filter p ys) x)
          → Contains (cond b (y ∷ filter p ys) (filter p ys)) x
      go zero within same true at more = (0, omega arith, same)
      go zero within same false at more = absurd (true≢false (sym is ∙ ap p (sym same) ∙ at))
      go (suc k) within same b at more = further b y ys x (more (k, omega arith, same))

pub from_map : {X Y : Type 0} (f : X → Y) (xs : List X) (y : Y) → Contains (map f xs) y → (x : X) × Contains xs x × (f x ≡ y)
from_map f [] y there = absurd (omega (arith, there.1))
from_map {X} {Y} f (x ∷ xs) y there = go there.0 there.1 there.2 (from_map f xs y)
  where
    go : (k : ℕ) → suc k ≤ length (f x ∷ map f xs) → get_or (f x ∷ map f xs) k y ≡ y → (Contains (map f xs) y → (z : X) × Contains xs z × (f z ≡ y))
        → (z : X) × Contains (x ∷ xs) z × (f z ≡ y)
    go zero within is more = (x, (0, omega arith, refl), is)
    go (suc k) within is more = let it = more (k, omega arith, is) in (it.0, (suc it.1.0, omega (arith, it.1.1), it.1.2), it.2)

pub only_one : {X : Type 0} (x y : X) → Contains (x ∷ []) y → x ≡ y
only_one x y there = go there.0 there.1 there.2
  where
    go : (k : ℕ) → suc k ≤ 1 → get_or (x ∷ []) k y ≡ y → x ≡ y
    go zero within is = is
    go (suc k) within is = absurd (omega arith)

not_in_none : {X : Type 0} (y : X) → Contains [] y → ⊥
not_in_none y there = omega (arith, there.1)

-- a list of one row is no other row's
pub the_one : (row found : Row) (rest : List Row) → IsPermutation (row ∷ []) (found ∷ rest) → row ≡ found
the_one row found rest same = only_one row found (Contains-permutation (found ∷ rest) (row ∷ []) found (IsPermutation-sym _ _ same) (zero, omega arith, refl))

module _ (k : KeyShape) (key : Row) (rows entries : List Row) (whole : IsIndexOf k.columns rows entries) where
  abbrev begins : Row → Bool
  begins e = is_eq (prefix_cmp k.order e key)

  same_found : IsPermutation (map (entry_of k.columns) (filter (has_key k key) rows)) (filter begins entries)
  same_found = subst (λ xs. IsPermutation xs (filter begins entries)) (filter-map begins (entry_of k.columns) rows) (IsPermutation-filter begins _ entries whole)

  empty_if : (xs : List Row) → map (entry_of k.columns) xs ≡ [] → xs ≡ []
  empty_if [] e = refl
  empty_if (x ∷ xs) e = absurd (cc)

  -- no entry begins with the key, so no row has it
  pub no_row : AllByRecursion (λ e. begins e ≡ false) entries → filter (has_key k key) rows ≡ []
  no_row none =
      let nothing : filter begins entries ≡ [] = filter_none begins entries none in
      empty_if _ (nil_from_length _ (omega (arith, length_permutation _ _ same_found, ap length nothing)))

  -- the row to which an entry with the key leads has the key
  pub row_found : AllByRecursion (λ r. IsTrue (is_int (rowid r))) rows → (e : Row) (id : ℤ) → Contains entries e → begins e ≡ true → id ≡ id_in (column e (length k.columns))
      → (row : Row) (found : Bool) → Finds rows id row found → FindsRow (has_key k key) rows row true
  row_found numbers e id there begins_so at row found finds =
      let columns = k.columns in
      let source = from_map (entry_of columns) rows e (Contains-permutation _ _ e (IsPermutation-sym _ _ whole) there) in
      let last : rowid source.0 ≡ column e (length columns) = sym (rowid-entry_of columns source.0) ∙ ap (λ x. column x (length columns)) source.2 in
      let number : rowid source.0 ≡ Int id = int_is (rowid source.0) (All-contains (λ r. IsTrue (is_int (rowid r))) rows source.0 (All-from_recursion _ rows numbers) source.1) ∙ ap Int (ap id_in last ∙ sym at) in
      let has : has_rowid id source.0 ≡ true = ap (λ v. is_eq (value_cmp v (Int id))) number ∙ ap is_eq (tied_itself value_cmp_total (Int id)) in
      let keyed : has_key k key source.0 ≡ true = ap (λ x. is_eq (prefix_cmp k.order x key)) source.2 ∙ begins_so in
      go source.0 source.1 keyed found (subst (λ xs. Contains xs source.0) finds (passes (has_rowid id) rows source.0 source.1 has))
    where
      go : (r : Row) → Contains rows r → has_key k key r ≡ true → (b : Bool) → Contains (cond b (row ∷ []) []) r → FindsRow (has_key k key) rows row true
      go r inside keyed false one = absurd (not_in_none r one)
      go r inside keyed true one =
          let same : r ≡ row = sym (only_one row r one) in
          first_of _ row (passes (has_key k key) rows row (subst (Contains rows) same inside) (ap (has_key k key) (sym same) ∙ keyed))
