use Rattle.std.proofs.Common.{◌≡◌, ℕ, not, ◌&&◌, ◌==◌, Option, Some, refl, sym, ap, ◌∙◌}
use Rattle.std.specs.BTreeSet as sorted
use Rattle.std.proofs.lemmas.Bool.{both_ways}
use Rattle.std.proofs.lemmas.Option.{same_Some}
use Rattle.records.specs.declared.facts.PendingState.TheVariants.{Expired}
use Rattle.rows.specs.declared.status_row.StatusRow.{StatusRow}
use Rattle.running.specs.Holds.{status_with, key_cmp, is_time}
use Rattle.running.proofs.HeldStatuses.{none_waits, not_before, waiting, waits_past, statuses_end}
use Rattle.running.proofs.statuses.Statuses.expire_next.Goals as goal

pub returns-in_default-clause-none : goal.returns-in_default-clause-none
returns-in_default-clause-none c rows holds =
    (holds, none_waits rows c.args.self.now c.args.clock holds (λ key le has. both_ways _ (c.in_default.ensures.none key) has))

pub returns-then-clock-time-clause-none : goal.returns-then-clock-time-clause-none
returns-then-clock-time-clause-none c rows holds =
    (holds, none_waits rows c.args.self.now c.args.clock holds (λ key le has. not_before c.in-Some.time c.args.clock key.0 _ c.if-clock-time.true (c.in-Some.ensures.least key has) le))

pub returns-clause-expired : goal.returns-clause-expired
returns-clause-expired c rows holds =
    let time = c.in-Some.time in
    let transfer = c.in-Some.transfer in
    let w = waiting time (status_with transfer rows) (sym (holds.due (time, transfer)) ∙ c.in-Some.ensures.member) in
    let row = c.unwrap-row.result in
    let found : status_with transfer rows ≡ Some row = sym (holds.found transfer) ∙ sym c.get.ensures.value ∙ sym c.copied.ensures ∙ c.unwrap-row.ensures in
    let due : row.due ≡ Some time = ap (λ (r : StatusRow). r.due) (same_Some row w.row (sym found ∙ w.is)) ∙ w.due in (
      w.row,
      w.is,
      waits_past time c.args.clock (status_with transfer rows) w c.if-clock-time.false,
      statuses_end rows transfer Expired row c.args.self.now _ holds found refl c.in_ok-insert.ensures.updates.0
          (λ key. c.forget.ensures.left key ∙ ap (λ (d : Option ℕ). not (is_time d key.0 && (transfer == key.1)) && sorted.contains key_cmp c.args.self.now.due key) (sym due)),
    )
