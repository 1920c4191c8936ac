use Rattle.std.proofs.Common.{◌≤◌, ℕ, sym, ap, ◌∙◌, subst}
use Rattle.records.specs.Machine.{Machine}
use Rattle.records.specs.Step.{at_clock, max_clock}
use Rattle.rows.specs.Prescribed.{history_rows}
use Rattle.rows.specs.TypedRows.{lists_of}
use Rattle.running.specs.Entries.{machine_of}
use Rattle.running.specs.Running.{IsRunning}
use Rattle.audit.specs.Told.{entries_told}
use Rattle.audit.proofs.newer.sound_machine.Goals as goal

pub read-requires : goal.read-requires
read-requires c = c.sound_rows_lead.ensures.read c.args.version (lists_of c.args.rows.now) c.requires.0 c.requires.1 c.requires.2

pub replay_sound-requires : goal.replay_sound-requires
replay_sound-requires c =
    let rows = lists_of c.args.rows.now in
    let held = c.in_ok-told.ensures in
    let times = c.sound_rows_lead.ensures.times c.args.version rows held.0 c.requires.0 c.requires.1 c.requires.2 held.1 in
    let leads = c.sound_rows_lead.ensures.lead c.args.version rows held.0 c.requires.0 c.requires.1 c.requires.2 held.1 in
    (entries_told held.0, (held.0, held.1, c.in_ok-places.ensures held.0 held.2 times), leads.next)

pub settle_to-requires : goal.settle_to-requires
settle_to-requires c =
    let rows = lists_of c.args.rows.now in
    let held = c.in_ok-told.ensures in
    let times = c.sound_rows_lead.ensures.times c.args.version rows held.0 c.requires.0 c.requires.1 c.requires.2 held.1 in
    let leads = c.sound_rows_lead.ensures.lead c.args.version rows held.0 c.requires.0 c.requires.1 c.requires.2 held.1 in
    let m = machine_of (entries_told held.0) in (
      m,
      (c.in_ok-running.ensures (entries_told held.0) (held.0, held.1, c.in_ok-places.ensures held.0 held.2 times)).0,
      subst (λ (n : ℕ). m.clock ≤ n) (sym held.2.clock) leads.can_come.later,
      subst (λ (n : ℕ). n ≤ max_clock) (sym held.2.clock) leads.can_come.bounded,
    )

pub returns : goal.returns
returns c m valid are =
    let rows = lists_of c.args.rows.now in
    let held = c.in_ok-told.ensures in
    let times = c.sound_rows_lead.ensures.times c.args.version rows held.0 m valid are held.1 in
    let leads = c.sound_rows_lead.ensures.lead c.args.version rows held.0 m valid are held.1 in
    let all = machine_of (entries_told held.0) in
    let made = c.in_ok-running.ensures (entries_told held.0) (held.0, held.1, c.in_ok-places.ensures held.0 held.2 times) in
    let settled = c.in_ok-settle_to.ensures all made.0 in (
      subst (λ (x : Machine). IsRunning x c.settle_to.new.self) leads.same (subst (λ (n : ℕ). IsRunning (at_clock all n) c.settle_to.new.self) held.2.clock settled),
      made.1 ∙ ap history_rows leads.same,
    )
