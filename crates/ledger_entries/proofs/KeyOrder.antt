-- What the key of entries says of rows of the history: whose they are, and how their times stand.
use Rattle.std.proofs.Common.{◌≡◌, ℕ, ℤ, Bool, true, false, not, ◌&&◌, List, [], ◌∷◌, refl, sym, ap, ◌∙◌, Ordering, Less, Equal, Greater, is_eq, is_lt, is_gt, true≢false}
use Rattle.std.specs.Cmp.{IsTotalOrder}
use Rattle.std.specs.List.{AllByRecursion}
use Rattle.std.specs.Ordering.{int_cmp, is_ge, is_le, ordering_reverse, ordering_then}
use Rattle.std.proofs.lemmas.Cmp.{back_total, on_total}
use Rattle.sqlite_value.specs.declared.value.Value.{Value}
use Rattle.sqlite_value.specs.declared.value.Value.TheVariants.{Null, Int, Real, Text, Blob}
use Rattle.sqlite_value.specs.Keys.{by_key, entry_cmp, plain}
use Rattle.sqlite_value.specs.Order.{Row, column, value_cmp}
use Rattle.sqlite_value.proofs.KeyLemmas.{entry_cmp-plain, entry_cmp_total, first_key-plain}
use Rattle.sqlite_value.proofs.OrderLemmas.{value_cmp-Int, value_cmp_total}
use Rattle.sqlite_trees.specs.declared.store.Direction.{Direction}
use Rattle.sqlite_trees.specs.declared.store.Direction.TheVariants.{Forward, Backward}
use Rattle.sqlite_trees.specs.Tree.{IsAscending, rowid}
use Rattle.sqlite_sql.specs.Catalog.{entry_of}
use Rattle.sqlite_sql.specs.Ops.{is_null}
use Rattle.keyed_trees.specs.Rows.{is_in_range, walk_cmp}
use Rattle.ledger_layout.specs.Keys.{by_entry, by_time}
use Rattle.ledger_sql.specs.Schema.{transfer_tree}
use Rattle.ledger_sql.specs.TableRows.{is_int, is_own}
use Rattle.ledger_layout.proofs.KeyLemmas.{is_int_is}
use Rattle.ledger_entries.specs.Walks.{in_time}

pub both_are : (a b : Bool) → (a && b) ≡ true → (a ≡ true) × (b ≡ true)
both_are true b e = (refl, e)
both_are false b e = absurd (true≢false (sym e))

pub equal : (o : Ordering) → is_eq o ≡ true → o ≡ Equal
equal Less e = absurd (true≢false (sym e))
equal Equal e = refl
equal Greater e = absurd (true≢false (sym e))

-- the order of a walk along the key
pub walk_total : (d : Direction) → IsTotalOrder (walk_cmp by_entry d)
walk_total Forward = on_total (entry_of by_entry.columns) (entry_cmp_total plain)
walk_total Backward = back_total (on_total (entry_of by_entry.columns) (entry_cmp_total plain))

-- how two rows compare by their timestamps, in a walk
abbrev pub time_cmp : Direction → Row → Row → Ordering
time_cmp Forward a b = value_cmp (column a 3) (column b 3)
time_cmp Backward a b = value_cmp (column b 3) (column a 3)

abbrev pub columns_cmp : Row → Row → Ordering
columns_cmp a b =
    ordering_then (value_cmp (column a 1) (column b 1)) (ordering_then (value_cmp (column a 2) (column b 2))
    (ordering_then (value_cmp (column a 3) (column b 3)) (ordering_then (value_cmp (rowid a) (rowid b)) Equal)))

pub columns_compared : (a b : Row) → entry_cmp plain (entry_of by_entry.columns a) (entry_of by_entry.columns b) ≡ columns_cmp a b
columns_compared a b = entry_cmp-plain (entry_of by_entry.columns a) (entry_of by_entry.columns b)

first_decides : (o p : Ordering) → is_gt (ordering_then o p) ≡ false → is_gt o ≡ false
first_decides Less p h = h
first_decides Equal p h = refl
first_decides Greater p h = h

-- how a time compares with that where a walk starts
abbrev pub is_reached : Direction → Ordering → Bool
is_reached Forward o = not (is_lt o)
is_reached Backward o = not (is_gt o)

module _ (tenant : ℤ) (account : List ℕ) where
  -- the row is one of this account of this tenant
  pub record IsOfAccount (row : Row) : Type 0 where
    pub tenant_is : value_cmp (column row 1) (Int tenant) ≡ Equal
    pub account_is : value_cmp (column row 2) (Blob account) ≡ Equal

  tied : (k v w : Value) → value_cmp v k ≡ Equal → value_cmp w k ≡ Equal → value_cmp v w ≡ Equal
  tied k v w a b = value_cmp_total.congr v k w a ∙ value_cmp_total.antisymm k w ∙ ap ordering_reverse b

  -- of rows of one account, the one that is no later in the key has no later time
  times_follow : (a b : Row) → IsOfAccount a → IsOfAccount b → is_gt (entry_cmp plain (entry_of by_entry.columns a) (entry_of by_entry.columns b)) ≡ false → is_gt (value_cmp (column a 3) (column b 3)) ≡ false
  times_follow a b of_a of_b h =
      let rest = ordering_then (value_cmp (rowid a) (rowid b)) Equal in
      let time = value_cmp (column a 3) (column b 3) in
      let e : columns_cmp a b ≡ ordering_then time rest =
      (λ i. ordering_then (tied (Int tenant) (column a 1) (column b 1) of_a.tenant_is of_b.tenant_is i) (ordering_then (tied (Blob account) (column a 2) (column b 2) of_a.account_is of_b.account_is i) (ordering_then time rest))) in
      first_decides time rest (sym (ap is_gt (columns_compared a b ∙ e)) ∙ h)

  pub by_times : (d : Direction) (a b : Row) → IsOfAccount a → IsOfAccount b → is_gt (walk_cmp by_entry d a b) ≡ false → is_gt (time_cmp d a b) ≡ false
  by_times Forward a b of_a of_b h = times_follow a b of_a of_b h
  by_times Backward a b of_a of_b h = times_follow b a of_b of_a h

  all_by_times : (d : Direction) (a : Row) (rows : List Row) → IsOfAccount a → AllByRecursion IsOfAccount rows → AllByRecursion (λ b. is_gt (walk_cmp by_entry d a b) ≡ false) rows
      → AllByRecursion (λ b. is_gt (time_cmp d a b) ≡ false) rows
  all_by_times d a [] of_a all up = tt
  all_by_times d a (b ∷ rows) of_a all up = (by_times d a b of_a all.0 up.0, all_by_times d a rows of_a all.1 up.1)

  pub ascending_by_times : (d : Direction) (rows : List Row) → AllByRecursion IsOfAccount rows → IsAscending (λ a b. is_gt (walk_cmp by_entry d a b) ≡ false) rows → IsAscending (λ a b. is_gt (time_cmp d a b) ≡ false) rows
  ascending_by_times d [] all up = tt
  ascending_by_times d (a ∷ rows) all up = (all_by_times d a rows all.0 all.1 up.0, ascending_by_times d rows all.1 up.1)

  abbrev pub the_stop : Row
  the_stop = Int tenant ∷ Blob account ∷ []

  module _ (time : ℤ) where
    abbrev pub the_start : Row
    the_start = Int tenant ∷ Blob account ∷ Int time ∷ []

    forward : (a b c : Ordering) → (not (is_lt (ordering_then a (ordering_then b (ordering_then c Equal)))) && not (is_gt (ordering_then a (ordering_then b Equal)))) ≡ (is_eq a && (is_eq b && not (is_lt c)))
    forward Less b c = refl
    forward Greater b c = refl
    forward Equal Less c = refl
    forward Equal Greater c = refl
    forward Equal Equal Less = refl
    forward Equal Equal Equal = refl
    forward Equal Equal Greater = refl

    backward : (a b c : Ordering) → (not (is_gt (ordering_then a (ordering_then b (ordering_then c Equal)))) && not (is_lt (ordering_then a (ordering_then b Equal)))) ≡ (is_eq a && (is_eq b && not (is_gt c)))
    backward Less b c = refl
    backward Greater b c = refl
    backward Equal Less c = refl
    backward Equal Greater c = refl
    backward Equal Equal Less = refl
    backward Equal Equal Equal = refl
    backward Equal Equal Greater = refl

    pub range_is : (d : Direction) (r : Row)
        → is_in_range by_entry d the_start the_stop r ≡ (is_eq (value_cmp (column r 1) (Int tenant)) && (is_eq (value_cmp (column r 2) (Blob account)) && is_reached d (value_cmp (column r 3) (Int time))))
    range_is Forward r =
        ap (λ k. not (is_lt (ordering_then (by_key k (column r 1) (Int tenant)) (ordering_then (by_key k (column r 2) (Blob account)) (ordering_then (by_key k (column r 3) (Int time)) Equal))))
        && not (is_gt (ordering_then (by_key k (column r 1) (Int tenant)) (ordering_then (by_key k (column r 2) (Blob account)) Equal)))) first_key-plain
        ∙ forward (value_cmp (column r 1) (Int tenant)) (value_cmp (column r 2) (Blob account)) (value_cmp (column r 3) (Int time))
    range_is Backward r =
        ap (λ k. not (is_gt (ordering_then (by_key k (column r 1) (Int tenant)) (ordering_then (by_key k (column r 2) (Blob account)) (ordering_then (by_key k (column r 3) (Int time)) Equal))))
        && not (is_lt (ordering_then (by_key k (column r 1) (Int tenant)) (ordering_then (by_key k (column r 2) (Blob account)) Equal)))) first_key-plain
        ∙ backward (value_cmp (column r 1) (Int tenant)) (value_cmp (column r 2) (Blob account)) (value_cmp (column r 3) (Int time))

    pub of_account : (d : Direction) (r : Row) → is_in_range by_entry d the_start the_stop r ≡ true → IsOfAccount r
    of_account d r within =
        let one = both_are _ _ (sym (range_is d r) ∙ within) in
        let two = both_are _ _ one.1 in
        record { tenant_is = equal _ one.0; account_is = equal _ two.0 }

and_true : (b : Bool) → (b && true) ≡ b
and_true true = refl
and_true false = refl

and_false : (b : Bool) → (b && false) ≡ false
and_false true = refl
and_false false = refl

no_less : (o : Ordering) → (not (is_lt o) && true) ≡ is_ge o
no_less Less = refl
no_less Equal = refl
no_less Greater = refl

no_more : (o : Ordering) → (not (is_gt o) && true) ≡ is_le o
no_more Less = refl
no_more Equal = refl
no_more Greater = refl

-- a time that is no NULL is reached by a walk where it is in time
pub reached_is : (time : ℤ) (d : Direction) (v : Value) → (is_reached d (value_cmp v (Int time)) && not (is_null v)) ≡ in_time d time v
reached_is time Forward Null = and_false _
reached_is time Forward (Int m) = ap (λ o. not (is_lt o) && true) (value_cmp-Int m time) ∙ no_less (int_cmp m time)
reached_is time Forward (Real x) = no_less _
reached_is time Forward (Text t) = no_less _
reached_is time Forward (Blob b) = no_less _
reached_is time Backward Null = and_false _
reached_is time Backward (Int m) = ap (λ o. not (is_gt o) && true) (value_cmp-Int m time) ∙ no_more (int_cmp m time)
reached_is time Backward (Real x) = no_more _
reached_is time Backward (Text t) = no_more _
reached_is time Backward (Blob b) = no_more _

-- the range of one time in the key of transfers by time
module _ (tenant time : ℤ) where
  abbrev pub time_key : Row
  time_key = Int tenant ∷ Int time ∷ []

  both_equal : (a b : Ordering) → (not (is_lt (ordering_then a (ordering_then b Equal))) && not (is_gt (ordering_then a (ordering_then b Equal)))) ≡ (is_eq a && is_eq b)
  both_equal Less b = refl
  both_equal Greater b = refl
  both_equal Equal Less = refl
  both_equal Equal Equal = refl
  both_equal Equal Greater = refl

  pub at_time : (r : Row) → is_in_range (by_time transfer_tree 12) Forward time_key time_key r ≡ (is_own tenant r && is_int time (column r 14))
  at_time r =
      ap (λ k. not (is_lt (ordering_then (by_key k (column r 1) (Int tenant)) (ordering_then (by_key k (column r 14) (Int time)) Equal)))
      && not (is_gt (ordering_then (by_key k (column r 1) (Int tenant)) (ordering_then (by_key k (column r 14) (Int time)) Equal)))) first_key-plain
      ∙ both_equal (value_cmp (column r 1) (Int tenant)) (value_cmp (column r 14) (Int time))
      ∙ (λ j. is_int_is tenant (column r 1) j && is_int_is time (column r 14) j)
