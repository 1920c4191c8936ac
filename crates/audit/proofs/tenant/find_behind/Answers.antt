use Rattle.std.proofs.Common.{◌≡◌, ℕ, true, Option, Some, None, refl, subst, ◌∙◌}
use Rattle.std.specs.Bool.{Decides}
use Rattle.std.proofs.lemmas.Bool.{both_ways}
use Rattle.rows.specs.TypedRows.{FileRows, lists_of}
use Rattle.running.specs.Entries.{CanCome, machine_of}
use Rattle.running.specs.Running.{IsRunning}
use Rattle.audit.specs.declared.damage.DamageKind.TheVariants as kind
use Rattle.audit.specs.declared.tenant.Found.{Found}
use Rattle.audit.specs.Order.{IsFirstPlace}
use Rattle.audit.specs.Stages.{IsClearBelow, FindsBelow}
use Rattle.audit.specs.Table.{IsWrong}
use Rattle.audit.specs.Told.{entries_told, machine_told}
use Rattle.audit.proofs.BehindEntries.{settled, comes, bad_clock, clear_of_clock, bad_failed}
use Rattle.audit.proofs.SoundRows.{sound_if_clear}
use Rattle.audit.proofs.Stages.{all_clear, answers_found, still_clear}
use Rattle.audit.proofs.tenant.find_behind.Goals.{After-first_bad_history}
use Rattle.audit.proofs.tenant.find_behind.Goals as goal

pub find_in_sums-requires-clause-running : goal.find_in_sums-requires-clause-running
find_in_sums-requires-clause-running c =
    let held = c.requires.running in
    (held.0, held.1, settled held.0 c.args.told.now c.settle_if_it_can.new.running held.2 (c.in_ok-came.ensures.settled (machine_of (entries_told held.0)) held.3))

pub first_bad_history-requires-clause-met : goal.first_bad_history-requires-clause-met
first_bad_history-requires-clause-met c =
    let held = c.requires.running in
    let runs = settled held.0 c.args.told.now c.settle_if_it_can.new.running held.2 (c.in_ok-came.ensures.settled (machine_of (entries_told held.0)) held.3) in
    (held.0, held.1, held.2, runs.valid, held.4)

-- neither sums nor history are wrong
clear_of_tables : (version : ℕ) (rows : FileRows) (in_sums : Option Found) (history : Option ℕ) → FindsBelow version rows 6 in_sums → in_sums ≡ None → IsFirstPlace (IsWrong version rows kind.History) history → history ≡ None → IsClearBelow version rows 7
clear_of_tables version rows in_sums history sums none first no_history = still_clear version rows kind.History history (subst (FindsBelow version rows 6) none sums) first no_history

-- the machine at the clock, and the failed ids beside it
module _ (c : After-first_bad_history) where
  came : Decides c.in_ok-came.came (CanCome (machine_of (entries_told c.requires.running.0)) c.requires.running.0.clock)
  came = let held = c.requires.running in comes held.0 c.args.told.now c.in_ok-came.came held.2 (c.in_ok-came.ensures.came (machine_of (entries_told held.0)) held.3)

  runs : IsRunning (machine_told c.requires.running.0) c.settle_if_it_can.new.running
  runs = let held = c.requires.running in settled held.0 c.args.told.now c.settle_if_it_can.new.running held.2 (c.in_ok-came.ensures.settled (machine_of (entries_told held.0)) held.3)

  clear : c.in_ok-came.came ≡ true → IsClearBelow c.args.version (lists_of c.args.rows.now) 7 → IsClearBelow c.args.version (lists_of c.args.rows.now) 8
  clear is below = clear_of_clock c.known_laws.ensures.reading c.args.version (lists_of c.args.rows.now) c.requires.running.0 c.requires.running.1 (came.0 is) below

  failed : IsFirstPlace (IsWrong c.args.version (lists_of c.args.rows.now) kind.FailedId) c.first_bad_failed-bad_failed.result
  failed =
      let held = c.requires.running in
      bad_failed c.known_laws.ensures.reading c.args.version (lists_of c.args.rows.now) held.0 c.deref.result.now c.first_bad_failed-bad_failed.result held.1 (c.deref.ensures.value ∙ held.2.failed) (c.first_bad_failed-bad_failed.ensures (machine_told held.0) runs)

pub returns-in-Some-clause-first : goal.returns-in-Some-clause-first
returns-in-Some-clause-first c = subst (FindsBelow c.args.version (lists_of c.args.rows.now) 6) c.in-Some.is c.in_ok-in_sums.ensures

pub returns-in-Some-history-clause-first : goal.returns-in-Some-history-clause-first
returns-in-Some-history-clause-first c =
    let rows = lists_of c.args.rows.now in
    let v = c.args.version in
    let clear = subst (FindsBelow v rows 6) c.in_default.is c.in_ok-in_sums.ensures in
    answers_found v rows kind.History c.in-Some-history.place c.in_ok-history.history c.damage_at.result clear c.in_ok-history.ensures c.in-Some-history.is c.damage_at.ensures

pub returns-then-not-came-clause-first : goal.returns-then-not-came-clause-first
returns-then-not-came-clause-first c =
    let behind = (goal.at.returns-then-not-came-clause-first c).After-first_bad_history in
    let rows = lists_of c.args.rows.now in
    let v = c.args.version in
    let below = clear_of_tables v rows _ _ c.in_ok-in_sums.ensures c.in_default.is c.in_ok-history.ensures c.in_default-history.is in
    let first = bad_clock c.known_laws.ensures.reading v rows c.requires.running.0 c.requires.running.1 (λ can. both_ways c.in_ok-came.came c.if-not-came.true ((came behind).1 can)) in
    answers_found v rows kind.Clock 0 (Some 0) c.damage_at-then-not-came.result below first refl c.damage_at-then-not-came.ensures

pub returns-in-Some-bad_failed-clause-first : goal.returns-in-Some-bad_failed-clause-first
returns-in-Some-bad_failed-clause-first c =
    let behind = (goal.at.returns-in-Some-bad_failed-clause-first c).After-first_bad_history in
    let rows = lists_of c.args.rows.now in
    let v = c.args.version in
    let below = clear_of_tables v rows _ _ c.in_ok-in_sums.ensures c.in_default.is c.in_ok-history.ensures c.in_default-history.is in
    answers_found v rows kind.FailedId c.in-Some-bad_failed.place c.first_bad_failed-bad_failed.result c.damage_at-in-Some-bad_failed.result (clear behind c.if-not-came.false below) (failed behind) c.in-Some-bad_failed.is c.damage_at-in-Some-bad_failed.ensures

pub returns-in-None-clause-first : goal.returns-in-None-clause-first
returns-in-None-clause-first c =
    let behind = (goal.at.returns-in-None-clause-first c).After-first_bad_history in
    let rows = lists_of c.args.rows.now in
    let v = c.args.version in
    let below = clear_of_tables v rows _ _ c.in_ok-in_sums.ensures c.in_default.is c.in_ok-history.ensures c.in_default-history.is in
    all_clear v rows (still_clear v rows kind.FailedId c.first_bad_failed-bad_failed.result (clear behind c.if-not-came.false below) (failed behind) c.in-None.is)

pub returns-in-None-clause-sound : goal.returns-in-None-clause-sound
returns-in-None-clause-sound c =
    let behind = (goal.at.returns-in-None-clause-sound c).After-first_bad_history in
    sound_if_clear c.known_laws.ensures.keys c.failed_ids_stand_apart.ensures c.args.version (lists_of c.args.rows.now) c.requires.running.0 c.requires.running.1 (runs behind).valid (returns-in-None-clause-first c)
