-- The entries that are taken of those behind a span's beginning are the machine's within it.
use Rattle.std.proofs.Common.{◌≡◌, ◌≢◌, ℕ, ◌<◌, ◌≤◌, ◌^◌, ℤ, pos, Bool, true, false, ◌&&◌, cond, leb, List, [], ◌∷◌, map, filter, reverse, take, Ok, refl, sym, ap, subst, ◌∙◌, arith, inl, inr}
use Rattle.std.specs.Prelude.{min}
use Rattle.std.specs.List.{AllByRecursion}
use Rattle.std.proofs.lemmas.Bool.{cases_Bool}
use Rattle.std.proofs.lemmas.Bool.Decides.{nat_tests}
use Rattle.std.proofs.lemmas.List.{take-map}
use Rattle.records.specs.declared.filter.Order.{Order}
use Rattle.records.specs.declared.filter.Order.TheVariants.{Oldest, Newest}
use Rattle.records.specs.declared.query.Span.{Span}
use Rattle.records.specs.declared.unavailable.Unavailable.{Unavailable}
use Rattle.records.specs.Machine.{Machine}
use Rattle.records.specs.Queries.{is_within}
use Rattle.records.specs.Reads.{Entry, entries_of, is_entry_of, in_order}
use Rattle.chain.specs.declared.account_entry.AccountEntry.{AccountEntry}
use Rattle.chain.specs.AccountEntries.{account_entry, account_entries_within}
use Rattle.sqlite_value.specs.declared.value.Value.{Value}
use Rattle.sqlite_value.specs.declared.value.Value.TheVariants.{Int}
use Rattle.sqlite_trees.specs.Tree.{IsAscending}
use Rattle.sqlite_trees.proofs.ListLemmas.{all_weaker, ascending_weaker, filter-map}
use Rattle.ledger_sql.specs.TableRows.{is_from, is_until}
use Rattle.stored_tables.specs.declared.entries_within.EntriesWithin.{EntriesWithin}
use Rattle.stored_tables.specs.declared.entries_within.Progress.TheVariants.{Failed}
use Rattle.stored_tables.specs.Bounds.{begin_in, begin_of, max_time}
use Rattle.stored_tables.specs.Entries.{account_entries}
use Rattle.stored_tables.specs.Handing.{HandsAccount, entries_behind}
use Rattle.stored_tables.specs.Taken.{TakesEntry, HasNone, is_closed}
use Rattle.stored_tables.proofs.AccountEntries.{turned, bounded}
use Rattle.stored_tables.proofs.AccountRows.{is_timed}
use Rattle.stored_tables.proofs.BoundTimes.{ascending_taken, filter-reverse, map-reverse, passing, bounded_left, from_bound, until_bound, behind_from, behind_until, and_right}
use Rattle.stored_tables.proofs.TakenEntries.{here, Stops, those, cut_taken, grown, finished}

-- ---- lists

-- what a second test keeps, where two tests agree on it
module _ {A : Type 0} (p q r : A → Bool) where
  kept : (x : A) (ys : List A) → p x ≡ true → (b : Bool) → filter p (cond b (x ∷ ys) ys) ≡ cond b (x ∷ filter p ys) (filter p ys)
  kept x ys is true = rw is refl
  kept x ys is false = refl

  dropped : (x : A) (ys : List A) → p x ≡ false → (b : Bool) → filter p (cond b (x ∷ ys) ys) ≡ filter p ys
  dropped x ys is true = rw is refl
  dropped x ys is false = refl

  same_kept : (xs : List A) → AllByRecursion (λ x. p x ≡ true → q x ≡ r x) xs → filter p (filter q xs) ≡ filter p (filter r xs)
  same_kept [] all = refl
  same_kept (x ∷ xs) all = elim (cases_Bool (p x)) [
    | inl is ↦ kept x (filter q xs) is (q x) ∙ (λ i. cond (all.0 is i) (x ∷ same_kept xs all.1 i) (same_kept xs all.1 i)) ∙ sym (kept x (filter r xs) is (r x))
    | inr is ↦ dropped x (filter q xs) is (q x) ∙ same_kept xs all.1 ∙ sym (dropped x (filter r xs) is (r x))
  ]

and_true : (a b : Bool) → b ≡ true → (a && b) ≡ a
and_true true b is = is
and_true false b is = refl

ordered_map : {A B : Type 0} (f : A → B) (order : Order) (xs : List A) → in_order order (map f xs) ≡ map f (in_order order xs)
ordered_map f Oldest xs = refl
ordered_map f Newest xs = sym (map-reverse f xs)

-- ---- times

-- past the span, going forwards and going backwards
stops_forwards : (first last d e : ℕ) → d < e → e < 2 ^ 63 → min first max_time ≤ d → (leb first d && leb d last) ≡ false → (leb first e && leb e last) ≡ false
stops_forwards first last d e lt fits from late = grind (arith, nat_tests)

stops_backwards : (first last d e : ℕ) → e < d → d ≤ min last max_time → (leb first d && leb d last) ≡ false → (leb first e && leb e last) ≡ false
stops_backwards first last d e lt until late = grind (arith, nat_tests)

from_begin : (first last time : ℕ) → (leb first time && leb time last) ≡ true → min first max_time ≤ time
from_begin first last time is = grind (arith, nat_tests)

until_begin : (first last time : ℕ) → (leb first time && leb time last) ≡ true → time < 2 ^ 63 → time ≤ min last max_time
until_begin first last time is fits = grind (arith, nat_tests)

-- ---- an account's entries

module _ (m : Machine) (account : ℕ) (span : Span) (all_fit : AllByRecursion (λ (e : Entry). e.transfer.timestamp < 2 ^ 63) (entries_of m))
    (ordered : (in_time : Value → Bool) → IsAscending (λ d e. (d.transfer.timestamp < e.transfer.timestamp) × (e.transfer.timestamp < 2 ^ 63)) (account_entries m account in_time)) where
  abbrev own : List Entry
  own = filter (λ (e : Entry). is_entry_of account e.transfer) (entries_of m)

  timed : (in_time : Value → Bool) → ((time : ℕ) → time < 2 ^ 63 → is_within span time ≡ true → in_time (Int (pos time)) ≡ true) → filter (here span) (account_entries m account in_time) ≡ filter (here span) own
  timed in_time passes =
      same_kept (here span) (is_timed account in_time) (λ e. is_entry_of account e.transfer) (entries_of m)
      (all_weaker (λ (e : Entry). e.transfer.timestamp < 2 ^ 63) (λ e. here span e ≡ true → is_timed account in_time e ≡ is_entry_of account e.transfer)
      (λ e fit is. and_true (is_entry_of account e.transfer) (in_time (Int (pos e.transfer.timestamp))) (passes e.transfer.timestamp fit is))
      (entries_of m) all_fit)

  abbrev behind : Order → List Entry
  behind order = entries_behind m account order (pos (min (begin_in order span) max_time))

  here_behind : (order : Order) → filter (here span) (behind order) ≡ in_order order (filter (here span) own)
  here_behind Oldest = timed (is_from (pos (min span.first max_time))) (λ time fit is. from_bound (min span.first max_time) time (from_begin span.first span.last time is))
  here_behind Newest =
      filter-reverse (here span) (account_entries m account (is_until (pos (min span.last max_time))))
      ∙ ap (λ (es : List Entry). reverse es) (timed (is_until (pos (min span.last max_time))) (λ time fit is. until_bound (min span.last max_time) time (until_begin span.first span.last time is fit)))

  stops_behind : (order : Order) → IsAscending (Stops span) (behind order)
  stops_behind Oldest =
      let test = is_from (pos (min span.first max_time)) in
      let es = account_entries m account test in
      ascending_weaker (λ (d e : Entry). ((d.transfer.timestamp < e.transfer.timestamp) × (e.transfer.timestamp < 2 ^ 63)) × (is_timed account test d ≡ true)) (Stops span)
      (λ d e h late. stops_forwards span.first span.last d.transfer.timestamp e.transfer.timestamp h.0.0 h.0.1 (behind_from (min span.first max_time) d.transfer.timestamp (and_right (is_entry_of account d.transfer) (test (Int (pos d.transfer.timestamp))) h.1)) late)
      es (bounded_left (λ (d e : Entry). (d.transfer.timestamp < e.transfer.timestamp) × (e.transfer.timestamp < 2 ^ 63)) (λ d. is_timed account test d ≡ true) es (ordered test) (passing (is_timed account test) (entries_of m)))
  stops_behind Newest =
      let test = is_until (pos (min span.last max_time)) in
      let es = account_entries m account test in
      turned (Stops span) es
      (ascending_weaker (λ (d e : Entry). ((d.transfer.timestamp < e.transfer.timestamp) × (e.transfer.timestamp < 2 ^ 63)) × (is_timed account test e ≡ true)) (λ d e. Stops span e d)
      (λ d e h late. stops_backwards span.first span.last e.transfer.timestamp d.transfer.timestamp h.0.0 (behind_until (min span.last max_time) e.transfer.timestamp (and_right (is_entry_of account e.transfer) (test (Int (pos e.transfer.timestamp))) h.1)) late)
      es (bounded (λ (d e : Entry). (d.transfer.timestamp < e.transfer.timestamp) × (e.transfer.timestamp < 2 ^ 63)) (λ e. is_timed account test e ≡ true) es (ordered test) (passing (is_timed account test) (entries_of m))))

  those_within : those span account (take span.most (behind span.order)) ≡ account_entries_within m account span
  those_within =
      ap (map (account_entry account)) (cut_taken span span.most (behind span.order) (stops_behind span.order) ∙ ap (take span.most) (here_behind span.order))
      ∙ sym (take-map (account_entry account) span.most (in_order span.order (filter (here span) own)))
      ∙ ap (take span.most) (sym (ordered_map (account_entry account) span.order (filter (here span) own)))
      ∙ ap (λ found. take span.most (in_order span.order found)) (sym (filter-map (λ (it : AccountEntry). is_within span it.transfer.timestamp) (account_entry account) own))

  pub taken_items :
      (H : Type 0) (honest : H) (bound : ℤ) → bound ≡ begin_of span → (old new : EntriesWithin) (u : Unit {0}) →
      HandsAccount {E = Unavailable} TakesEntry (λ taken. is_closed taken.progress) H account (take span.most (entries_behind m account span.order bound)) old new (Ok u) →
      HasNone span old → ((why : Unavailable) → new.progress ≢ Failed why) → new.entries.items ≡ account_entries_within m account span
  taken_items H honest bound bound_is old new u handed none went =
      let es = take span.most (behind span.order) in
      let here = subst (λ z. HandsAccount {E = Unavailable} TakesEntry (λ taken. is_closed taken.progress) H account (take span.most (entries_behind m account span.order z)) old new (Ok u)) bound_is handed in
      finished span account es here.handed new.entries.items new.progress
      (grown span account es here.handed [] old new none.span_is none.empty none.is_open (ascending_taken (Stops span) span.most (behind span.order) (stops_behind span.order)) (here.first honest) here.taken)
      (here.ended honest) went
      ∙ those_within
