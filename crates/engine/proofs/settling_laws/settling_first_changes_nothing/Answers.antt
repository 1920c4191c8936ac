use Rattle.std.proofs.Common.{refl}
use Rattle.records.specs.Step.{account_rules, transfer_rules}
use Rattle.engine.proofs.SettledFirst.{settled_by_none, settles_first}
use Rattle.engine.proofs.settling_laws.settling_first_changes_nothing.Goals as goal

pub returns-clause-piece : goal.returns-clause-piece
returns-clause-piece c = settled_by_none

pub returns-clause-pieces : goal.returns-clause-pieces
returns-clause-pieces c = λ m time clock early. refl

pub returns-clause-accounts : goal.returns-clause-accounts
returns-clause-accounts c = settles_first account_rules

pub returns-clause-transfers : goal.returns-clause-transfers
returns-clause-transfers c = settles_first transfer_rules
