-- What the rows that were read of a range of a key tell of a tenant's table.
use Rattle.std.proofs.Common.{◌≡◌, ℕ, ℤ, zero, suc, Bool, true, false, ◌&&◌, List, [], ◌∷◌, filter, map, take, refl, sym, ap, subst, ◌∙◌, IsPermutation, IsSorted, Ordering, Less, Equal, Greater, is_lt}
use Rattle.std.specs.List.{AllByRecursion}
use Rattle.std.specs.Ordering.{ordering_then}
use Rattle.std.proofs.lemmas.List.Sorted.{IsPermutation-map}
use Rattle.sqlite_value.specs.declared.value.Value.{Value}
use Rattle.sqlite_value.specs.declared.value.Value.TheVariants.{Int}
use Rattle.sqlite_value.specs.Order.{Row, column, row_cmp, value_cmp}
use Rattle.sqlite_value.specs.Keys.{entry_cmp, plain}
use Rattle.sqlite_value.proofs.KeyLemmas.{entry_cmp-plain}
use Rattle.sqlite_trees.specs.declared.store.Direction.{Direction}
use Rattle.sqlite_trees.specs.declared.store.Direction.TheVariants.{Forward, Backward}
use Rattle.sqlite_trees.specs.Tree.{Trees}
use Rattle.sqlite_trees.proofs.ListLemmas.{all_of, all-permutation, filter-map, filter_same}
use Rattle.sqlite_sql.specs.Catalog.{entry_of}
use Rattle.sqlite_exec.proofs.PartitionLemmas.{IsSorted-from_map}
use Rattle.keyed_trees.specs.Layout.{KeyShape}
use Rattle.keyed_trees.specs.Rows.{ReadsAll, ReadsRange, is_in_range, row_of}
use Rattle.ledger_sql.specs.Entries.{ReadsUpTo}
use Rattle.ledger_sql.specs.Reading.{ReadsRows}
use Rattle.ledger_sql.specs.Spans.{AscendAt, DescendAt, rows_between}
use Rattle.ledger_sql.specs.TableRows.{cells_from, is_from, is_own, is_until, rows_in}
use Rattle.ledger_layout.proofs.KeyLemmas.{filter_both}
use Rattle.ledger_spans.proofs.ListLemmas.{passing, sorted_map, sorted_weaker}
use Rattle.ledger_spans.proofs.OwnLemmas.{in_span, in_span_back, in_whole, walk_backward, walk_forward}

first_rises : (o rest : Ordering) → is_lt (ordering_then o rest) ≡ false → is_lt o ≡ false
first_rises Less rest h = h
first_rises Equal rest h = refl
first_rises Greater rest h = refl

first_then : (o rest : Ordering) → is_lt (ordering_then o rest) ≡ false → is_lt (ordering_then o Equal) ≡ false
first_then Less rest h = h
first_then Equal rest h = refl
first_then Greater rest h = refl

two_then : (o p rest : Ordering) → is_lt (ordering_then o (ordering_then p rest)) ≡ false → is_lt (ordering_then o (ordering_then p Equal)) ≡ false
two_then Less p rest h = h
two_then Equal p rest h = first_then p rest h
two_then Greater p rest h = refl

-- a row of a tenant is read as its number and the values of its other columns
module _ {R C : Type 0} (number : R → ℤ) (part : R → C) (values : C → Row) (others : ℕ) (shows : (it : C) (rowid tenant : Value) → cells_from 2 (suc others) (rowid ∷ tenant ∷ values it) ≡ values it) where
  abbrev cells : Row → Row
  cells = cells_from 2 (suc others)

  abbrev columns : R → Row
  columns r = Int (number r) ∷ values (part r)

  abbrev part_of : (ℤ × R) → Row
  part_of it = values (part it.1)

  shown : (read : List (ℤ × R)) → map cells (map (row_of columns) read) ≡ map part_of read
  shown [] = refl
  shown (it ∷ read) = λ i. shows (part it.1) (Int it.0) (Int (number it.1)) i ∷ shown read i

  module _ (tree table : ℕ) (tenant : ℤ) (trees : Trees) where
    abbrev rows : List Row
    rows = trees table

    -- all rows of a range that a tenant has whole are its rows of the table
    module _ (keys : List ℕ) (read : List (ℤ × R)) where
      abbrev key : KeyShape
      key = record { tree = tree; table = table; columns = 1 ∷ keys; order = plain }

      abbrev Whole : Type 0
      Whole = ReadsAll columns key Forward (Int tenant ∷ []) (Int tenant ∷ []) rows read

      own_is : filter (is_in_range key Forward (Int tenant ∷ []) (Int tenant ∷ [])) rows ≡ filter (is_own tenant) rows
      own_is = filter_same _ (is_own tenant) rows (all_of _ (in_whole tree table keys tenant) rows)

      same : Whole → IsPermutation (filter (is_own tenant) rows) (map (row_of columns) read)
      same it = subst (λ xs. IsPermutation xs (map (row_of columns) read)) own_is it.all

      pub all_read : Whole → IsPermutation (rows_in table (suc others) tenant trees) (map part_of read)
      all_read it = subst (IsPermutation (map cells (filter (is_own tenant) rows))) (shown read) (IsPermutation-map cells _ _ (same it))

      in_order : Whole → IsSorted (λ a b. entry_cmp plain (entry_of keys a) (entry_of keys b)) (map (row_of columns) read)
      in_order it = walk_forward tree table keys tenant (map (row_of columns) read) (all-permutation (λ r. is_own tenant r ≡ true) _ _ (same it) (passing (is_own tenant) rows)) it.order

      read_in_order : (cmp : Row → Row → Ordering) → ((a b : Row) → is_lt (entry_cmp plain (entry_of keys a) (entry_of keys b)) ≡ false → is_lt (cmp (cells a) (cells b)) ≡ false)
          → Whole → IsSorted (λ a b. cmp (part_of a) (part_of b)) read
      read_in_order cmp rises it =
          IsSorted-from_map cmp part_of read (subst (IsSorted cmp) (shown read)
          (sorted_map cmp cells (map (row_of columns) read) (sorted_weaker (λ a b. entry_cmp plain (entry_of keys a) (entry_of keys b)) (λ a b. cmp (cells a) (cells b)) (map (row_of columns) read) rises (in_order it))))

    -- the rows by the key (tenant, id), in the order of ids
    pub reads_by_id : (read : List (ℤ × R)) → ReadsAll columns (record { tree = tree; table = table; columns = 1 ∷ 2 ∷ []; order = plain }) Forward (Int tenant ∷ []) (Int tenant ∷ []) rows read
        → ReadsRows part_of (λ a b. row_cmp (take 1 (part_of a)) (take 1 (part_of b))) (rows_in table (suc others) tenant trees) read
    reads_by_id read it = record {
      all = all_read (2 ∷ []) read it;
      order = read_in_order (2 ∷ []) read (λ a b. row_cmp (take 1 a) (take 1 b)) (λ a b. ids a b) it;
    }
      where
        ids : (a b : Row) → is_lt (entry_cmp plain (entry_of (2 ∷ []) a) (entry_of (2 ∷ []) b)) ≡ false → is_lt (row_cmp (take 1 (cells a)) (take 1 (cells b))) ≡ false
        ids a b rises = first_then (value_cmp (column a 2) (column b 2)) (row_cmp (column a 0 ∷ []) (column b 0 ∷ [])) (ap is_lt (sym (entry_cmp-plain (entry_of (2 ∷ []) a) (entry_of (2 ∷ []) b))) ∙ rises)

  -- the first rows of a range that lies between two times of a tenant are its first rows of that span
  module _ (tree table place : ℕ) (timed : (row : Row) → column (cells row) place ≡ column row (suc (suc place))) (tenant first last : ℤ) (most : ℕ) (trees : Trees) (read : List (ℤ × R)) where
    abbrev by_time : KeyShape
    by_time = record { tree = tree; table = table; columns = 1 ∷ suc (suc place) ∷ []; order = plain }

    abbrev time : ℕ
    time = suc (suc place)

    abbrev timed_rows : List Row
    timed_rows = trees table

    abbrev is_within : Row → Bool
    is_within row = is_own tenant row && (is_from first (column row time) && is_until last (column row time))

    abbrev in_cells : Row → Bool
    in_cells row = is_from first (column row place) && is_until last (column row place)

    abbrev Read : Direction → Row → Row → Type 0
    Read direction start stop = ReadsRange columns by_time direction start stop most timed_rows read

    rows_are : map cells (filter is_within timed_rows) ≡ rows_between place first last (rows_in table (suc others) tenant trees)
    rows_are =
        ap (map cells) (filter_same is_within (λ r. is_own tenant r && in_cells (cells r)) timed_rows (all_of _ (λ r i. is_own tenant r && (is_from first (sym (timed r) i) && is_until last (sym (timed r) i))) timed_rows))
        ∙ sym (filter-map in_cells cells (filter (is_own tenant) timed_rows) ∙ ap (map cells) (filter_both (is_own tenant) (λ r. in_cells (cells r)) timed_rows))

    owned : (xs : List Row) → AllByRecursion (λ r. is_within r ≡ true) xs → AllByRecursion (λ r. is_own tenant r ≡ true) xs
    owned [] all = tt
    owned (r ∷ xs) all = (first_holds (is_own tenant r) (is_from first (column r time) && is_until last (column r time)) all.0, owned xs all.1)
      where
        first_holds : (a b : Bool) → (a && b) ≡ true → a ≡ true
        first_holds true b e = refl
        first_holds false b e = e

    module _ (direction : Direction) (start stop : Row) (in_range : (row : Row) → is_in_range by_time direction start stop row ≡ is_within row) where
      same_rows : (it : Read direction start stop) → IsPermutation (filter is_within timed_rows) it.ordered
      same_rows it = subst (λ xs. IsPermutation xs it.ordered) (filter_same _ is_within timed_rows (all_of _ in_range timed_rows)) it.all

      all_own : (it : Read direction start stop) → AllByRecursion (λ r. is_own tenant r ≡ true) it.ordered
      all_own it = owned it.ordered (all-permutation (λ r. is_within r ≡ true) _ _ (same_rows it) (passing is_within timed_rows))

      upto : (InOrder : List Row → Type 0) (it : Read direction start stop) → InOrder (map cells it.ordered) → ReadsUpTo part_of most (rows_between place first last (rows_in table (suc others) tenant trees)) InOrder read
      upto InOrder it order = record {
        ordered = map cells it.ordered;
        all = subst (λ xs. IsPermutation xs (map cells it.ordered)) rows_are (IsPermutation-map cells _ _ (same_rows it));
        order = order;
        read_is = sym (shown read) ∙ ap (map cells) it.read_is ∙ map_take most it.ordered;
      }
        where
          map_take : (n : ℕ) (xs : List Row) → map cells (take n xs) ≡ take n (map cells xs)
          map_take zero xs = refl
          map_take (suc n) [] = refl
          map_take (suc n) (x ∷ xs) = ap (λ ys. cells x ∷ ys) (map_take n xs)

    rises : (a b : Row) → is_lt (entry_cmp plain (entry_of (time ∷ []) a) (entry_of (time ∷ []) b)) ≡ false → is_lt (value_cmp (column (cells a) place) (column (cells b) place)) ≡ false
    rises a b h =
        ap is_lt (λ i. value_cmp (timed a i) (timed b i))
        ∙ first_rises (value_cmp (column a time) (column b time)) (row_cmp (column a 0 ∷ []) (column b 0 ∷ [])) (ap is_lt (sym (entry_cmp-plain (entry_of (time ∷ []) a) (entry_of (time ∷ []) b))) ∙ h)

    pub reads_oldest : Read Forward (Int tenant ∷ Int first ∷ []) (Int tenant ∷ Int last ∷ []) → ReadsUpTo part_of most (rows_between place first last (rows_in table (suc others) tenant trees)) (AscendAt place) read
    reads_oldest it =
        let within = in_span tree table time [] tenant first last in
        upto Forward _ _ within (AscendAt place) it
        (sorted_map (λ a b. value_cmp (column a place) (column b place)) cells it.ordered
        (sorted_weaker _ (λ a b. value_cmp (column (cells a) place) (column (cells b) place)) it.ordered rises
        (walk_forward tree table (time ∷ []) tenant it.ordered (all_own Forward _ _ within it) it.order)))

    pub reads_newest : Read Backward (Int tenant ∷ Int last ∷ []) (Int tenant ∷ Int first ∷ []) → ReadsUpTo part_of most (rows_between place first last (rows_in table (suc others) tenant trees)) (DescendAt place) read
    reads_newest it =
        let within = in_span_back tree table time [] tenant first last in
        upto Backward _ _ within (DescendAt place) it
        (sorted_map (λ a b. value_cmp (column b place) (column a place)) cells it.ordered
        (sorted_weaker _ (λ a b. value_cmp (column (cells b) place) (column (cells a) place)) it.ordered (λ a b. rises b a)
        (walk_backward tree table (time ∷ []) tenant it.ordered (all_own Backward _ _ within it) it.order)))

-- ---- the same, where the ends of the range are known to be these keys

module _ {R C : Type 0} (number : R → ℤ) (part : R → C) (values : C → Row) (others : ℕ) (shows : (it : C) (rowid tenant : Value) → cells_from 2 (suc others) (rowid ∷ tenant ∷ values it) ≡ values it) (tree table : ℕ) (tenant : ℤ) (trees : Trees)
    (read : List (ℤ × R)) (start stop : Row) where
  abbrev cells_at : R → Row
  cells_at r = Int (number r) ∷ values (part r)

  pub own_by_id : ReadsAll cells_at (record { tree = tree; table = table; columns = 1 ∷ 2 ∷ []; order = plain }) Forward start stop (trees table) read → start ≡ Int tenant ∷ [] → stop ≡ Int tenant ∷ []
      → ReadsRows (λ it. values (part it.1)) (λ a b. row_cmp (take 1 (values (part a.1))) (take 1 (values (part b.1)))) (rows_in table (suc others) tenant trees) read
  own_by_id it from to =
      let k : KeyShape = record { tree = tree; table = table; columns = 1 ∷ 2 ∷ []; order = plain } in
      reads_by_id number part values others shows tree table tenant trees read
      (subst (λ x. ReadsAll cells_at k Forward x (Int tenant ∷ []) (trees table) read) from (subst (λ x. ReadsAll cells_at k Forward start x (trees table) read) to it))

  module _ (place : ℕ) (timed : (row : Row) → column (cells_from 2 (suc others) row) place ≡ column row (suc (suc place))) (first last : ℤ) (most : ℕ) where
    abbrev at_time : KeyShape
    at_time = record { tree = tree; table = table; columns = 1 ∷ suc (suc place) ∷ []; order = plain }

    pub own_oldest : ReadsRange cells_at at_time Forward start stop most (trees table) read → start ≡ Int tenant ∷ Int first ∷ [] → stop ≡ Int tenant ∷ Int last ∷ []
        → ReadsUpTo (λ it. values (part it.1)) most (rows_between place first last (rows_in table (suc others) tenant trees)) (AscendAt place) read
    own_oldest it from to =
        reads_oldest number part values others shows tree table place timed tenant first last most trees read
        (subst (λ x. ReadsRange cells_at at_time Forward x (Int tenant ∷ Int last ∷ []) most (trees table) read) from (subst (λ x. ReadsRange cells_at at_time Forward start x most (trees table) read) to it))

    pub own_newest : ReadsRange cells_at at_time Backward start stop most (trees table) read → start ≡ Int tenant ∷ Int last ∷ [] → stop ≡ Int tenant ∷ Int first ∷ []
        → ReadsUpTo (λ it. values (part it.1)) most (rows_between place first last (rows_in table (suc others) tenant trees)) (DescendAt place) read
    own_newest it from to =
        reads_newest number part values others shows tree table place timed tenant first last most trees read
        (subst (λ x. ReadsRange cells_at at_time Backward x (Int tenant ∷ Int first ∷ []) most (trees table) read) from (subst (λ x. ReadsRange cells_at at_time Backward start x most (trees table) read) to it))

-- the rows by the key (tenant, account, timestamp), in that order
pub own_by_entry : {R C : Type 0} (number : R → ℤ) (part : R → C) (values : C → Row) (more : ℕ) (shows : (it : C) (rowid tenant : Value) → cells_from 2 (suc (suc more)) (rowid ∷ tenant ∷ values it) ≡ values it) (tree table : ℕ) (tenant : ℤ) (trees : Trees)
    (read : List (ℤ × R)) (start stop : Row) → ReadsAll (λ r. Int (number r) ∷ values (part r)) (record { tree = tree; table = table; columns = 1 ∷ 2 ∷ 3 ∷ []; order = plain }) Forward start stop (trees table) read → start ≡ Int tenant ∷ [] → stop ≡ Int tenant ∷ []
    → ReadsRows (λ it. values (part it.1)) (λ a b. row_cmp (take 2 (values (part a.1))) (take 2 (values (part b.1)))) (rows_in table (suc (suc more)) tenant trees) read
own_by_entry {R} {C} number part values more shows tree table tenant trees read start stop it from to =
    let k : KeyShape = record { tree = tree; table = table; columns = 1 ∷ 2 ∷ 3 ∷ []; order = plain } in
    let columns : R → Row = λ r. Int (number r) ∷ values (part r) in
    let is = subst (λ x. ReadsAll columns k Forward x (Int tenant ∷ []) (trees table) read) from (subst (λ x. ReadsAll columns k Forward start x (trees table) read) to it) in
    record {
      all = all_read number part values (suc more) shows tree table tenant trees (2 ∷ 3 ∷ []) read is;
      order = read_in_order number part values (suc more) shows tree table tenant trees (2 ∷ 3 ∷ []) read (λ a b. row_cmp (take 2 a) (take 2 b)) entries is;
    }
  where
    entries : (a b : Row) → is_lt (entry_cmp plain (entry_of (2 ∷ 3 ∷ []) a) (entry_of (2 ∷ 3 ∷ []) b)) ≡ false
        → is_lt (row_cmp (take 2 (cells_from 2 (suc (suc more)) a)) (take 2 (cells_from 2 (suc (suc more)) b))) ≡ false
    entries a b rises =
        two_then (value_cmp (column a 2) (column b 2)) (value_cmp (column a 3) (column b 3)) (row_cmp (column a 0 ∷ []) (column b 0 ∷ []))
        (ap is_lt (sym (entry_cmp-plain (entry_of (2 ∷ 3 ∷ []) a) (entry_of (2 ∷ 3 ∷ []) b))) ∙ rises)
