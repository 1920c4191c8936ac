use Rattle.records.specs.Step.{transfer_rules}
use Rattle.engine.proofs.FailedRetries.{stays_failed, told_of_runs}
use Rattle.engine.proofs.retry_laws.failed_stays_failed.Goals as goal

pub returns-clause-failed : goal.returns-clause-failed
returns-clause-failed c = stays_failed

pub returns-clause-told : goal.returns-clause-told
returns-clause-told c = told_of_runs transfer_rules
