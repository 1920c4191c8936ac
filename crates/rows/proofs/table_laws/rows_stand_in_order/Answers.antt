use Rattle.std.proofs.Common.{◌≡◌, false, eqb}
use Rattle.std.proofs.lemmas.List.Elements.{All-weaker}
use Rattle.records.specs.declared.transfer.Transfer.{Transfer}
use Rattle.engine.proofs.ValidMachineLemmas.{IsEntrySound, sound}
use Rattle.rows.specs.Prescribed.{rows_for}
use Rattle.rows.proofs.InOrder.{accounts_ascend, transfers_ascend, failed_ascend}
use Rattle.rows.proofs.Histories.{account_history_ascends}
use Rattle.rows.proofs.table_laws.rows_stand_in_order.Goals as goal

pub returns-clause-accounts : goal.returns-clause-accounts
unfolding rows_for
returns-clause-accounts c m valid = accounts_ascend m valid

pub returns-clause-transfers : goal.returns-clause-transfers
unfolding rows_for
returns-clause-transfers c m valid = transfers_ascend m valid

pub returns-clause-history : goal.returns-clause-history
unfolding rows_for
returns-clause-history c m account valid =
    account_history_ascends m account valid
    (All-weaker (IsEntrySound m.accounts m.transfers) (λ (t : Transfer). eqb t.debit_account_id t.credit_account_id ≡ false) (λ t h. h.differ) m.transfers (sound m valid).entries)

pub returns-clause-failed : goal.returns-clause-failed
unfolding rows_for
returns-clause-failed c m valid = failed_ascend m valid
