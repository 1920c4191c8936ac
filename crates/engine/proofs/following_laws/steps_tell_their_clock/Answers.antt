use Rattle.records.specs.Step.{account_rules, transfer_rules}
use Rattle.engine.proofs.Following.{step_tells_clock, accounts_keep_clock, transfers_keep_clock}
use Rattle.engine.proofs.following_laws.steps_tell_their_clock.Goals as goal

pub returns-clause-accounts : goal.returns-clause-accounts
returns-clause-accounts c = step_tells_clock account_rules accounts_keep_clock

pub returns-clause-transfers : goal.returns-clause-transfers
returns-clause-transfers c = step_tells_clock transfer_rules transfers_keep_clock
