-- What the due times are with one status more, with one that is not open any more, and which is next.
use Rattle.std.proofs.Common.{◌≡◌, ◌≤◌, ◌<◌, ◌+◌, ℕ, Bool, true, false, not, ◌&&◌, ◌||◌, eqb, cond, nat_le, List, [], ◌∷◌, ◌++◌, Option, Some, None, inl, inr, refl, sym, ap, ap₂, ◌∙◌, subst, arith}
use Rattle.std.specs.Option.{option_map}
use Rattle.std.specs.BTreeMap as tree
use Rattle.std.specs.BTreeSet as sorted
use Rattle.std.specs.declared.cmp.Ordering.{Ordering}
use Rattle.std.specs.Ordering.{nat_cmp, ordering_then, is_gt}
use Rattle.std.specs.BTreeMap.{is_at}
use Rattle.std.proofs.lemmas.Bool.{cases_Bool, both_ways, eqb-true}
use Rattle.std.proofs.lemmas.Bool.Decides.{nat_tests}
use Rattle.records.specs.declared.facts.PendingState.{PendingState}
use Rattle.records.specs.FirstOf.{or_else}
use Rattle.records.specs.Due.{has_come}
use Rattle.records.specs.Fate.{is_open}
use Rattle.rows.specs.declared.status_row.StatusRow.{StatusRow}
use Rattle.rows.specs.Settling.{is_due_row}
use Rattle.rows.specs.Changes.{set_state}
use Rattle.running.specs.declared.statuses.Statuses.{Statuses}
use Rattle.running.specs.Holds.{HoldsStatuses, status_with, key_cmp, is_time, waits_until}
use Rattle.running.proofs.KeyedRows.{found_push, found_changed, changed_none}
use Rattle.running.proofs.HeldMaps.{flip, held_push, held_changed}

abbrev transfer_of : StatusRow → ℕ
transfer_of row = row.transfer

-- one more
open_row : (opened time : Bool) → opened ≡ true → (time && true || false) ≡ (opened && time)
open_row true true h = refl
open_row true false h = refl
open_row false time h = absurd (both_ways false refl h)

another : (time waits : Bool) → (time && false || waits) ≡ waits
another true waits = refl
another false waits = refl

waits_push : (here : Bool) (time : ℕ) (row : StatusRow) (found : Option StatusRow) → is_open row.state ≡ true → (here ≡ true → found ≡ None) → (is_time row.due time && here || waits_until time found) ≡ waits_until time (or_else found (cond here (Some row) None))
waits_push true time row found opened none = subst (λ (o : Option StatusRow). (is_time row.due time && true || waits_until time o) ≡ waits_until time (or_else o (Some row))) (sym (none refl)) (open_row (is_open row.state) (is_time row.due time) opened)
waits_push false time row None opened none = another (is_time row.due time) false
waits_push false time row (Some other) opened none = another (is_time row.due time) (waits_until time (Some other))

pub statuses_push : (rows : List StatusRow) (row : StatusRow) (old new : Statuses) → HoldsStatuses rows old → status_with row.transfer rows ≡ None → is_open row.state ≡ true → ((q : ℕ) → tree.get nat_cmp new.rows q ≡ cond (is_at (nat_cmp row.transfer) q) (Some row) (tree.get nat_cmp old.rows q)) → ((key : ℕ × ℕ) → sorted.contains key_cmp new.due key ≡ (is_time row.due key.0 && eqb row.transfer key.1 || sorted.contains key_cmp old.due key)) → HoldsStatuses (rows ++ row ∷ []) new
statuses_push rows row old new holds none opened found due = record {
  found = held_push transfer_of rows row old.rows new.rows holds.found none found;
  due = λ key.
      due key ∙ ap (λ (b : Bool). is_time row.due key.0 && eqb row.transfer key.1 || b) (holds.due key)
      ∙ waits_push (eqb row.transfer key.1) key.0 row (status_with key.1 rows) opened (λ same. subst (λ (k : ℕ). status_with k rows ≡ None) (eqb-true row.transfer key.1 same) none)
      ∙ sym (ap (waits_until key.0) (found_push transfer_of key.1 rows row));
}

-- one that is not open any more
closed_row : (opened time after : Bool) → after ≡ false → (not (time && true) && (opened && time)) ≡ (after && time)
closed_row opened time true h = absurd (both_ways true h refl)
closed_row opened true false h = refl
closed_row true false false h = refl
closed_row false false false h = refl

not_another : (time waits : Bool) → (not (time && false) && waits) ≡ waits
not_another true waits = refl
not_another false waits = refl

waits_end : (there : Bool) (time : ℕ) (row : StatusRow) (state : PendingState) (found : Option StatusRow) → is_open state ≡ false → (there ≡ true → found ≡ Some row) → (not (is_time row.due time && there) && waits_until time found) ≡ waits_until time (cond there (option_map (λ (r : StatusRow). record r { state = state }) found) found)
waits_end true time row state found closed is = subst (λ (o : Option StatusRow). (not (is_time row.due time && true) && waits_until time o) ≡ waits_until time (option_map (λ (r : StatusRow). record r { state = state }) o)) (sym (is refl)) (closed_row (is_open row.state) (is_time row.due time) (is_open state) closed)
waits_end false time row state found closed is = not_another (is_time row.due time) (waits_until time found)

pub statuses_end : (rows : List StatusRow) (k : ℕ) (state : PendingState) (row : StatusRow) (old new : Statuses) → HoldsStatuses rows old → status_with k rows ≡ Some row → is_open state ≡ false → ((q : ℕ) → tree.get nat_cmp new.rows q ≡ cond (is_at (nat_cmp k) q) (Some (record row { state = state })) (tree.get nat_cmp old.rows q)) → ((key : ℕ × ℕ) → sorted.contains key_cmp new.due key ≡ (not (is_time row.due key.0 && eqb k key.1) && sorted.contains key_cmp old.due key)) → HoldsStatuses (set_state k state rows) new
statuses_end rows k state row old new holds is closed found due =
    let change = λ (r : StatusRow). record r { state = state } in
    record {
      found = held_changed transfer_of change (λ r. refl) k rows row old.rows new.rows holds.found is found;
      due = λ key.
          due key
          ∙ ap₂ (λ (there b : Bool). not (is_time row.due key.0 && there) && b) (flip k key.1) (holds.due key)
          ∙ waits_end (eqb key.1 k) key.0 row state (status_with key.1 rows) closed (λ same. subst (λ (n : ℕ). status_with n rows ≡ Some row) (sym (eqb-true key.1 k same)) is)
          ∙ sym (ap (waits_until key.0) (found_changed transfer_of change (λ r. refl) k key.1 rows));
    }

pub statuses_end_none : (rows : List StatusRow) (k : ℕ) (state : PendingState) (s : Statuses) → HoldsStatuses rows s → status_with k rows ≡ None → HoldsStatuses (set_state k state rows) s
statuses_end_none rows k state s holds none = subst (λ (xs : List StatusRow). HoldsStatuses xs s) (sym (changed_none transfer_of k (λ (r : StatusRow). record r { state = state }) rows none)) holds

-- what waits is open, and has that due time
both : (a b : Bool) → (a && b) ≡ true → (a ≡ true) × (b ≡ true)
both true b h = (refl, h)
both false b h = absurd (both_ways false refl h)

time_is : (due : Option ℕ) (time : ℕ) → is_time due time ≡ true → due ≡ Some time
time_is None time h = absurd (both_ways false refl h)
time_is (Some due) time h = ap (λ (n : ℕ). Some n) (eqb-true due time h)

-- the row of a transfer that waits until this time
pub record Waits (time : ℕ) (found : Option StatusRow) : Type 0 where
  pub row : StatusRow
  pub is : found ≡ Some row
  pub opened : is_open row.state ≡ true
  pub due : row.due ≡ Some time

pub waiting : (time : ℕ) (found : Option StatusRow) → waits_until time found ≡ true → Waits time found
waiting time None h = absurd (both_ways false refl h)
waiting time (Some row) h =
    let parts = both (is_open row.state) (is_time row.due time) h in
    record { row = row; is = refl; opened = parts.0; due = time_is row.due time parts.1 }

le_test : (a b : ℕ) → a ≤ b → nat_le a b ≡ true
le_test a b h = grind (arith, nat_tests)

test_le : (a b : ℕ) → nat_le a b ≡ true → a ≤ b
test_le a b h = grind (arith, nat_tests)

pub waits_past : (time clock : ℕ) (found : Option StatusRow) (w : Waits time found) → time ≤ clock → is_due_row clock w.row ≡ true
waits_past time clock found w le = ap₂ (λ (a : Bool) (due : Option ℕ). a && has_come due clock) w.opened w.due ∙ le_test time clock le

-- what is due waits until a time that has come
come_parts : (due : Option ℕ) (clock : ℕ) → has_come due clock ≡ true → (time : ℕ) × (due ≡ Some time) × (time ≤ clock)
come_parts None clock h = absurd (both_ways false refl h)
come_parts (Some time) clock h = (time, refl, test_le time clock h)

same_time : (time : ℕ) → eqb time time ≡ true
same_time time = grind (arith, nat_tests)

pub due_waits : (rows : List StatusRow) (s : Statuses) (clock id : ℕ) (row : StatusRow) → HoldsStatuses rows s → status_with id rows ≡ Some row → is_due_row clock row ≡ true → (time : ℕ) × (time ≤ clock) × (sorted.contains key_cmp s.due (time, id) ≡ true)
due_waits rows s clock id row holds found due =
    let parts = both (is_open row.state) (has_come row.due clock) due in
    let come = come_parts row.due clock parts.1 in
    (come.0, come.2, holds.due (come.0, id) ∙ ap (waits_until come.0) found ∙ ap₂ (λ (a : Bool) (o : Option ℕ). a && is_time o come.0) parts.0 come.1 ∙ same_time come.0)

pub none_waits : (rows : List StatusRow) (s : Statuses) (clock : ℕ) → HoldsStatuses rows s → ((key : ℕ × ℕ) → key.0 ≤ clock → sorted.contains key_cmp s.due key ≡ true → ⊥) → (id : ℕ) (row : StatusRow) → status_with id rows ≡ Some row → is_due_row clock row ≡ false
none_waits rows s clock holds none id row found = elim (cases_Bool (is_due_row clock row)) [
  | inl is ↦ let w = due_waits rows s clock id row holds found is in absurd (none (w.0, id) w.1 w.2)
  | inr not ↦ not
]

-- a key that is not below the first comes no earlier
not_below : (time other : ℕ) (o : Ordering) → is_gt (ordering_then (nat_cmp time other) o) ≡ false → time ≤ other
not_below time other o h = grind (arith, nat_tests)

pub not_before : (time clock other : ℕ) (o : Ordering) → clock < time → is_gt (ordering_then (nat_cmp time other) o) ≡ false → other ≤ clock → ⊥
not_before time clock other o later h le = let no_less = not_below time other o h in omega (arith, later, le, no_less)

-- what is removed was there
pub removed : (was : Bool) (new old : ℕ) → was ≡ true → new + cond was 1 0 ≡ old → new + 1 ≡ old
removed true new old h is = is
removed false new old h is = absurd (both_ways false refl h)
