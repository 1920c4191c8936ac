use Rattle.std.proofs.Common.{[]}
use Rattle.ledger_sql.proofs.RunLemmas.{done_err}
use Rattle.ledger_sql.proofs.StageLemmas.{commit_text, committed, commit_survives}
use Rattle.ledger_sql.proofs.stages.commit.Goals as goal

pub returns-clause-ok : goal.returns-clause-ok
returns-clause-ok g c clean = rw c.done.ensures (committed _ _ c.execute.result (c.execute.ensures.runs clean))

pub returns-clause-err : goal.returns-clause-err
returns-clause-err g c clean = rw c.done.ensures (done_err commit_text [] _ _ c.execute.result (c.execute.ensures.runs clean))

pub returns-clause-survives : goal.returns-clause-survives
returns-clause-survives g c = commit_survives _ _ c.execute.ensures.survives
