use Rattle.std.proofs.Common.{◌≡◌, Some, ap}
use Rattle.ledger_sql.specs.declared.entry_cells.EntryCells.{EntryCells}
use Rattle.rows.specs.Prescribed.{history_row}
use Rattle.stored_tables.proofs.entries_within.entry_in.Goals as goal

pub returns-in_err-history : goal.returns-in_err-history
returns-in_err-history c account entry are =
    let there = c.in_err-history.ensures.undoes (history_row account entry) are.history
    (ap (λ (cells : EntryCells). cells.history) are.are) in
    cc

pub returns-in_err-transfer : goal.returns-in_err-transfer
returns-in_err-transfer c account entry are =
    let there = c.in_err-transfer.ensures.undoes entry.transfer are.transfer
    (ap (λ (cells : EntryCells). cells.transfer) are.are) in
    cc

pub returns : goal.returns
returns c account entry are =
    let row : Some c.in_ok-history.history ≡ Some (history_row account entry) =
    c.in_ok-history.ensures.undoes (history_row account entry) are.history
    (ap (λ (cells : EntryCells). cells.history) are.are) in
    let transfer : Some c.in_ok-transfer.transfer ≡ Some entry.transfer =
    c.in_ok-transfer.ensures.undoes entry.transfer are.transfer
    (ap (λ (cells : EntryCells). cells.transfer) are.are) in
    let row_is : c.in_ok-history.history ≡ history_row account entry = cc in
    let transfer_is : c.in_ok-transfer.transfer ≡ entry.transfer = cc in
    λ i. Some (record { transfer = transfer_is i; balances = (row_is i).balances })
