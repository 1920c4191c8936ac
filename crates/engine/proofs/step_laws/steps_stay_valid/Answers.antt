use Rattle.records.specs.Step.{account_rules, transfer_rules}
use Rattle.records.specs.Widths.{IsAccountEventInWidth, IsTransferEventInWidth}
use Rattle.engine.proofs.ValidSteps.{step_stays, accounts_keep, transfers_keep}
use Rattle.engine.proofs.step_laws.steps_stay_valid.Goals as goal

pub returns-clause-accounts : goal.returns-clause-accounts
returns-clause-accounts c = step_stays account_rules IsAccountEventInWidth accounts_keep

pub returns-clause-transfers : goal.returns-clause-transfers
returns-clause-transfers c = step_stays transfer_rules IsTransferEventInWidth transfers_keep
