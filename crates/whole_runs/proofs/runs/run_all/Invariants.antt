use Rattle.std.proofs.Common.{◌≡◌, take, length, vec_len, vec_capacity}
use Rattle.std.specs.List.{AllZip}
use Rattle.whole_runs.specs.Reopenings.{HasNamed, HasRun, IsInOrder, IsAnswerTo, OpensNothing, RunsThrough}
use Rattle.whole_runs.proofs.runs.run_all.Given as goal

-- The steps so far have run, and there is room for the answers to all.
abbrev pub invariant-loop-step : goal.invariant-loop-step
invariant-loop-step g l = record {
  run :
      g.L.Reopening.means.is_live l.fn.ledgers
      → HasRun g.L.Reopening.means l.fn.ledgers (take l.step-index l.steps) l.answers.items
      l.ledgers;
  through :
      g.L.Reopening.means.is_live l.fn.ledgers
      → RunsThrough g.L.Reopening.means g.L.Reopening.names g.L.Reopening.has_failed
      g.L.Reopening.refuses l.fn.ledgers (take l.step-index l.steps) l.answers.items l.ledgers;
  failed :
      g.L.Reopening.has_failed l.fn.ledgers → OpensNothing (take l.step-index l.steps)
      → l.ledgers ≡ l.fn.ledgers;
  named :
      g.L.Reopening.means.is_live l.fn.ledgers
      → HasNamed g.L.Reopening.means g.L.Reopening.names l.fn.ledgers (take l.step-index l.steps)
      l.answers.items l.ledgers;
  answered : AllZip IsAnswerTo (take l.step-index l.steps) l.answers.items;
  count : vec_len l.answers ≡ l.step-index;
  room : vec_capacity l.answers ≡ length l.steps;
  settled : IsInOrder g.L.Reopening.means g.L.Reopening.names l.ledgers;
}
