-- Due times that are past are dropped.
use Rattle.std.proofs.Common.{◌≡◌, ℕ, ◌<◌, ◌≤◌, Bool, true, false, cond, Option, Some, None, List, [], ◌∷◌, map, filter, IsTrue, refl, arith}
use Rattle.std.specs.List.{AllByRecursion, list_any}
use Rattle.std.specs.BTreeSet.{BTreeSet, contains}
use Rattle.std.specs.Ordering.{nat_cmp, ordering_then}
use Rattle.std.specs.declared.cmp.Ordering.{Ordering}
use Rattle.std.proofs.lemmas.List.Elements.{All-from_recursion, recursion_from_All}
use Rattle.records.specs.declared.facts.PendingState.TheVariants.{Open, Posted, Voided, Expired}
use Rattle.records.specs.declared.transfer.Transfer.{Transfer}
use Rattle.records.specs.Due.{due_of, has_come, is_due}
use Rattle.records.specs.Fate.{posts, voids}
use Rattle.records.specs.Flags.{is_pending}
use Rattle.records.specs.Machine.{Machine}
use Rattle.rows.specs.declared.status_row.StatusRow.{StatusRow}
use Rattle.rows.specs.Prescribed.{rows_for, status_row}
use Rattle.stored_tables.specs.Covers.{DueTest, IsCovered, Covers}

-- by due time, and then by id
abbrev pub entry_cmp : ℕ × ℕ → ℕ × ℕ → Ordering
entry_cmp a b = ordering_then (nat_cmp a.0 b.0) (nat_cmp a.1 b.1)

-- what is due later is kept
abbrev pub KeepsLater : ℕ → BTreeSet (ℕ × ℕ) → BTreeSet (ℕ × ℕ) → Type 0
KeepsLater clock old new = (q : ℕ × ℕ) → clock < q.0 → IsTrue (contains entry_cmp old q) → IsTrue (contains entry_cmp new q)

-- an open transfer is due later than the clock
not_come : (o : Option ℕ) (clock due : ℕ) → o ≡ Some due → has_come o clock ≡ false → clock < due
not_come None clock due is away = absurd (cc)
not_come (Some d) clock due is away = let same : d ≡ due = cc in grind (arith, away)

open_later : (posted voided past : Bool) → cond posted Posted (cond voided Voided (cond past Expired Open)) ≡ Open → past ≡ false
open_later true voided past e = absurd (cc)
open_later false true past e = absurd (cc)
open_later false false true e = absurd (cc)
open_later false false false e = refl

abbrev pub IsLater : ℕ → StatusRow → Type 0
IsLater clock row = (due : ℕ) → row.state ≡ Open → row.due ≡ Some due → clock < due

open_is_later : (m : Machine) (ts : List Transfer) → AllByRecursion (IsLater m.clock) (map (status_row m) ts)
open_is_later m [] = tt
open_is_later m (t ∷ ts) = (
  λ due opens is. not_come (due_of t) m.clock due is (open_later (list_any (posts t.id) m.transfers) (list_any (voids t.id) m.transfers) (is_due m.clock t) opens),
  open_is_later m ts,
)

-- every open row of a machine is due later than its clock
pub all_later : (m : Machine) → AllByRecursion (IsLater m.clock) (rows_for 3 m).statuses
unfolding rows_for
all_later m = open_is_later m (filter (λ (t : Transfer). is_pending t.flags) m.transfers)

still_covered : (had has : DueTest) (clock now : ℕ) → clock ≤ now → ((q : ℕ × ℕ) → clock < q.0 → IsTrue (had q) → IsTrue (has q)) → (rows : List StatusRow) → AllByRecursion (IsLater now) rows → AllByRecursion (IsCovered had) rows → AllByRecursion (IsCovered has) rows
still_covered had has clock now le keeps [] later covers = tt
still_covered had has clock now le keeps (row ∷ rows) later covers = (
  λ due opens is. let after : now < due = later.0 due opens is in keeps (due, row.transfer) (omega arith) (covers.0 due opens is),
  still_covered had has clock now le keeps rows later.1 covers.1,
)

pub later_covers : (old new : BTreeSet (ℕ × ℕ)) (clock : ℕ) → KeepsLater clock old new → (m : Machine) → clock ≤ m.clock → Covers (contains entry_cmp old) m → Covers (contains entry_cmp new) m
unfolding rows_for
later_covers old new clock keeps m le covers =
    let rows = map (status_row m) (filter (λ (t : Transfer). is_pending t.flags) m.transfers) in
    All-from_recursion (IsCovered (contains entry_cmp new)) rows
    (still_covered (contains entry_cmp old) (contains entry_cmp new) clock m.clock le keeps rows (open_is_later m (filter (λ (t : Transfer). is_pending t.flags) m.transfers)) (recursion_from_All (IsCovered (contains entry_cmp old)) rows covers))
