use Rattle.records.specs.Step.{account_rules, transfer_rules}
use Rattle.engine.proofs.LaterSteps.{later_step, accounts_grow, transfers_grow}
use Rattle.engine.proofs.step_laws.steps_lead_to_later.Goals as goal

pub returns-clause-accounts : goal.returns-clause-accounts
returns-clause-accounts c = later_step account_rules accounts_grow

pub returns-clause-transfers : goal.returns-clause-transfers
returns-clause-transfers c = later_step transfer_rules transfers_grow
