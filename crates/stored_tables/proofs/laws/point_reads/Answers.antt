use Rattle.std.proofs.Common.{refl, sym, ◌∙◌, map}
use Rattle.std.proofs.lemmas.List.Elements.{recursion_from_All}
use Rattle.std.proofs.lemmas.List.Sorted.{list_any-IsPermutation}
use Rattle.amount.specs.Column.{column_of}
use Rattle.rows.specs.Cells.{account_cells, transfer_cells, status_cells}
use Rattle.rows.specs.Prescribed.{rows_for}
use Rattle.rows.specs.Widths.{IsStorableAccount, IsStorableTransfer, IsStorableStatus}
use Rattle.ledger_sql.specs.TableRows.{account_rows, transfer_rows, status_rows, failed_rows, has_id}
use Rattle.ledger_sql.specs.Values.{account_values, transfer_values, status_values, id_values}
use Rattle.stored_tables.proofs.PointReads.{clock_read, tells_rows, id_read, same_account, same_transfer}
use Rattle.stored_tables.proofs.RowsTell.{same_themselves}
use Rattle.stored_tables.proofs.SameValues.{same_status}
use Rattle.stored_tables.proofs.laws.point_reads.Goals as goal

pub returns-clause-clock : goal.returns-clause-clock
unfolding rows_for
returns-clause-clock c tenant m trees found held picks = clock_read m.clock _ found held.rows.clock picks

pub returns-clause-account : goal.returns-clause-account
unfolding rows_for
returns-clause-account c =
    tells_rows (λ x. account_values (account_cells x)) (λ x. x.id) IsStorableAccount (λ x id. refl) (λ x fit. fit.widths.id) same_account c.columns_keep_order.ensures.one_to_one account_rows (λ rows. rows.accounts)
    (λ m valid. (c.keys_are_distinct.ensures m (rows_for 3 m) valid (same_themselves _)).accounts) c.found_by_key.ensures.alone (λ m valid. (c.rows_fit.ensures 3 m valid).accounts) (λ tenant rows trees held. held.accounts)

pub returns-clause-transfer : goal.returns-clause-transfer
unfolding rows_for
returns-clause-transfer c =
    tells_rows (λ x. transfer_values (transfer_cells x)) (λ x. x.id) IsStorableTransfer (λ x id. refl) (λ x fit. fit.widths.id) same_transfer c.columns_keep_order.ensures.one_to_one transfer_rows (λ rows. rows.transfers)
    (λ m valid. (c.keys_are_distinct.ensures m (rows_for 3 m) valid (same_themselves _)).transfers) c.found_by_key-2.ensures.alone (λ m valid. (c.rows_fit.ensures 3 m valid).transfers) (λ tenant rows trees held. held.transfers)

pub returns-clause-status : goal.returns-clause-status
unfolding rows_for
returns-clause-status c =
    tells_rows (λ x. status_values (status_cells x)) (λ x. x.transfer) IsStorableStatus (λ x id. refl) (λ x fit. fit.transfer) (same_status c.cells_tell_rows.ensures) c.columns_keep_order.ensures.one_to_one status_rows (λ rows. rows.statuses)
    (λ m valid. (c.keys_are_distinct.ensures m (rows_for 3 m) valid (same_themselves _)).statuses) c.found_by_key-3.ensures.alone (λ m valid. (c.rows_fit.ensures 3 m valid).statuses) (λ tenant rows trees held. held.statuses)

pub returns-clause-failed : goal.returns-clause-failed
unfolding rows_for
returns-clause-failed c tenant m trees id held fits =
    let all = recursion_from_All _ m.failed (c.rows_fit.ensures 3 m held.valid).failed in
    sym (list_any-IsPermutation (has_id (column_of id)) (map (λ other. id_values (column_of other)) m.failed) (failed_rows tenant trees) held.rows.failed)
    ∙ id_read c.columns_keep_order.ensures.one_to_one id fits m.failed all
