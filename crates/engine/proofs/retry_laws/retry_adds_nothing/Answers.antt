use Rattle.records.specs.declared.account_result.AccountResult.TheVariants as account_answer
use Rattle.records.specs.declared.transfer_result.TransferResult.TheVariants as transfer_answer
use Rattle.records.specs.Step.{account_rules, transfer_rules}
use Rattle.engine.proofs.RetriedBatches.{batch_retried, accounts_retriable, transfers_retriable}
use Rattle.engine.proofs.retry_laws.retry_adds_nothing.Goals as goal

pub returns-clause-accounts : goal.returns-clause-accounts
returns-clause-accounts c = batch_retried account_rules account_answer.Exists accounts_retriable

pub returns-clause-transfers : goal.returns-clause-transfers
returns-clause-transfers c = batch_retried transfer_rules transfer_answer.Exists transfers_retriable
