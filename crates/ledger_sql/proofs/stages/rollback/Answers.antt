use Rattle.ledger_sql.proofs.StageLemmas.{undone, rollback_follows}
use Rattle.ledger_sql.proofs.stages.rollback.Goals as goal

pub returns-clause-undone : goal.returns-clause-undone
returns-clause-undone g c clean inside = undone _ _ inside c.execute.result (c.execute.ensures.runs clean)

pub returns-clause-follows : goal.returns-clause-follows
returns-clause-follows g c = rollback_follows _ _ c.execute.result c.execute.ensures.runs c.execute.ensures.survives
