use Rattle.std.proofs.Common.{Bool, true, false, Result, ℕ, [], Err, ◌≡◌, IsTrue, refl, subst}
use Rattle.sqlite.specs.declared.error.Error.{Error}
use Rattle.sqlite.specs.declared.error.Error.TheVariants.{SqliteFailure}
use Rattle.sqlite.specs.declared.error.ErrorCode.TheVariants.{TransactionState}
use Rattle.sqlite.specs.State.{State, Executes}
use Rattle.ledger_sql.specs.Stages.{TellsOpen}
use Rattle.ledger_sql.proofs.StageLemmas.{rollback_text, told_outside, rollback_follows}
use Rattle.ledger_sql.proofs.stages.is_open.Goals as goal

tells : (told : Bool) (old new : State) (r : Result ℕ Error) → (IsTrue told → r ≡ Err (SqliteFailure TransactionState)) → Executes rollback_text [] old new r → TellsOpen told old new
tells true old new r is h = told_outside old new (subst (Executes rollback_text [] old new) (is refl) h)
tells false old new r is h = tt

pub returns-clause-tells : goal.returns-clause-tells
returns-clause-tells g c clean = tells c.is_refused_outside.result _ _ c.execute.result c.is_refused_outside.ensures (c.execute.ensures.runs clean)

pub returns-clause-follows : goal.returns-clause-follows
returns-clause-follows g c = rollback_follows _ _ c.execute.result c.execute.ensures.runs c.execute.ensures.survives
