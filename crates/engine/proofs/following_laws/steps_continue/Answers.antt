use Rattle.records.specs.Step.{account_rules, transfer_rules}
use Rattle.engine.proofs.Following.{step_continues, accounts_go_on, transfers_go_on}
use Rattle.engine.proofs.following_laws.steps_continue.Goals as goal

pub returns-clause-accounts : goal.returns-clause-accounts
returns-clause-accounts c = step_continues account_rules accounts_go_on

pub returns-clause-transfers : goal.returns-clause-transfers
returns-clause-transfers c = step_continues transfer_rules transfers_go_on
