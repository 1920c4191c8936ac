-- A tenant's clock is set behind the releases.
use Rattle.std.proofs.Common.{◌≡◌, ℕ, ◌≤◌, ℤ, pos, true, List, Result, OnOk, sym, subst, ◌∙◌}
use Rattle.std.specs.List.Sorted.{IsPermutation}
use Rattle.std.proofs.lemmas.Result.{on_ok_weaker}
use Rattle.sqlite.specs.State.{State}
use Rattle.records.specs.declared.unavailable.Unavailable.{Unavailable}
use Rattle.records.specs.Machine.{Machine}
use Rattle.records.specs.Step.{at_clock}
use Rattle.records.specs.Valid.{IsValid}
use Rattle.rows.specs.Prescribed.{rows_for}
use Rattle.rows.specs.Settling.{rows_released, due_ids}
use Rattle.rows.specs.TypedRows.{TypedRows}
use Rattle.ledger_sql.specs.Effects.{IsInside, SetsOne}
use Rattle.ledger_sql.specs.TableRows.{clock_rows}
use Rattle.ledger_sql.specs.Values.{clock_values}
use Rattle.stored_tables.specs.Covers.{DueTest, Covers}
use Rattle.stored_tables.specs.Holds.{HoldsRows}
use Rattle.stored_tables.specs.Releasing.{ReleasesDue, MovesClock}
use Rattle.stored_tables.specs.BatchLaws.{others_then}
use Rattle.stored_tables.proofs.Statements.{clock_set}
use Rattle.stored_tables.proofs.Writing.{inside_then, still_inside}

-- what is known of the rows at a later clock
abbrev pub AtLaterClock : Type 0
AtLaterClock = (m : Machine) (clock : ℕ) (ids : List ℕ) → IsValid m → m.clock ≤ clock → IsPermutation (due_ids clock (rows_for 3 m)) ids → rows_for 3 (at_clock m clock) ≡ record (rows_released m ids) { clock = clock }

pub clock_moved : AtLaterClock → (tenant : ℤ) (past clock : ℕ) (has : DueTest) (s0 s1 s2 : State) (r : Result (Unit {0}) Unavailable) → IsInside s0 → ReleasesDue tenant past clock has s0 s1 → OnOk r (SetsOne clock_rows 4 tenant (λ row. true) (clock_values (pos clock)) s1 s2) → OnOk r (MovesClock tenant past clock has s0 s2)
clock_moved later tenant past clock has s0 s1 s2 r inside due sets =
    on_ok_weaker r
    (λ (one : SetsOne clock_rows 4 tenant (λ row. true) (clock_values (pos clock)) s1 s2) (m : Machine) (valid : IsValid m) (after : past ≤ m.clock) (le : m.clock ≤ clock) (covers : Covers has m).
    let set = clock_set tenant s1 s2 (still_inside s0 s1 inside due.inside).schema clock one in
    record {
      inside = inside_then s0 s1 s2 due.inside set.inside;
      moves = λ rows can num held.
          let released = due.all m valid after covers num (subst (λ (rows : TypedRows). HoldsRows tenant rows s0.now.trees) can held) in
          let first = released.2 in
          let second = set.moves (rows_released m released.0) tt first.numbered first.rows in
          record {
            numbered = second.numbered;
            others = others_then tenant s0.now.trees s1.now.trees s2.now.trees first.others second.others;
            strangers = second.strangers ∙ first.strangers;
            rows = subst (λ (rows : TypedRows). HoldsRows tenant rows s2.now.trees) (sym (later m clock released.0 valid le released.1)) second.rows;
          };
    })
    sets
