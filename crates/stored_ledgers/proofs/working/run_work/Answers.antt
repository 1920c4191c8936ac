use Rattle.std.proofs.Common.{◌≡◌, refl, rules}
use Rattle.sqlite.specs.State.{HasCleanDisk}
use Rattle.ledger_sql.specs.Frames.{Live}
use Rattle.stored_tables.specs.BatchLaws.{live_before, calls_then_for}
use Rattle.stored_ledgers.proofs.BatchLemmas.{workable_batch, shown_unmarked, covers_start, covers_from, has_worked}
use Rattle.stored_ledgers.proofs.working.run_work.Goals as goal

pub clock-requires : goal.clock-requires
clock-requires g c =
    let old = g.T.LedgerTables.state c.args.tables.now in (
      λ clean. workable_batch c.args.tenant.0 c.args.due.now old (c.requires clean),
      λ live. covers_start c.args.due.now c.args.tenant.0 old (c.requires live.0).unmarked
          (c.requires live.0).can.covered,
    )

pub returns-in_err-clock-clause-grows : goal.returns-in_err-clock-clause-grows
returns-in_err-clock-clause-grows g c key has =
    let grown = c.in_err-clock.ensures.leaves.follows.3 key has in
    search rules

pub run-requires-clause-usable : goal.run-requires-clause-usable
run-requires-clause-usable g c = (
  c.in_ok-clock.ensures.leaves.usable.0,
  λ live.
      let before = live_before _ _ c.in_ok-clock.ensures.leaves.follows.4.calls live in
      covers_from _ _ _ _ c.in_ok-clock.clock
      (c.in_ok-clock.ensures.leaves.state live) (c.in_ok-clock.ensures.value live)
      (shown_unmarked c.args.tenant.0 (g.T.LedgerTables.state c.args.tables.now) (c.requires before.0).unmarked)
      (c.in_ok-clock.ensures.leaves.usable.1 live),
)

pub returns-in_err-output-clause-grows : goal.returns-in_err-output-clause-grows
returns-in_err-output-clause-grows g c key has =
    let grown = c.run.ensures.over.follows.3 key (c.in_ok-clock.ensures.leaves.follows.3 key has) in
    search rules

pub returns-clause-grows : goal.returns-clause-grows
returns-clause-grows g c key has =
    let grown = c.run.ensures.over.follows.3 key (c.in_ok-clock.ensures.leaves.follows.3 key has) in
    search rules

pub returns-clause-worked : goal.returns-clause-worked
returns-clause-worked g c clean =
    let old = g.T.LedgerTables.state c.args.tables.now in
    let read = g.T.LedgerTables.state c.clock.new.self.tables.now in
    let new = g.T.LedgerTables.state c.run.new.tables.tables.now in
    let clean2 : HasCleanDisk new = search rules in
    let live2 : Live new = (clean2, (c.in_ok-output.ensures.over.usable.0 clean2).is_open) in
    let live1 : Live read = live_before _ _ c.run.ensures.over.follows.4.calls live2 in
    let before : HasCleanDisk old = (live_before _ _ c.in_ok-clock.ensures.leaves.follows.4.calls live1).0 in
    let one : c.clock.new.self.tenant.0 ≡ c.args.tenant.0 =
    let e = c.in_ok-clock.ensures.leaves.follows.2 in cc in
    let two : c.run.new.tables.tenant.0 ≡ c.clock.new.self.tenant.0 =
    let e = c.run.ensures.over.follows.2 in cc in
    let at : c.run.new.tables.past ≡ c.in_ok-clock.clock = c.run.ensures.over.follows.5 in
    let done = has_worked (g.W.Work.gives c.args.work) c.args.tenant.0
    c.clock.new.self.tenant.0 c.run.new.tables.tenant.0 c.run.new.tables.due.now old read new
    c.in_ok-output.output (record { tenant = c.args.tenant; clock = c.in_ok-clock.clock })
    c.run.new.tables.past one two refl at live2
    (c.in_ok-clock.ensures.leaves.state live1) (c.in_ok-clock.ensures.value live1)
    (calls_then_for _ _ old read new one c.in_ok-clock.ensures.leaves.follows.4 c.run.ensures.over.follows.4)
    (c.in_ok-output.ensures.gives live2) c.in_ok-output.ensures.over.usable
    (c.in_ok-output.ensures.over.unmarked live2) in
    search rules
