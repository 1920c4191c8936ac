use Rattle.std.proofs.Common.{ℤ, SFits, rules, to_z-of_z, w64}
use Rattle.rows.specs.Cells.{transfer_cells}
use Rattle.rows.specs.Widths.{IsStorableTransfer}
use Rattle.rows.specs.declared.transfer_cells.TransferCells.{TransferCells}
use Rattle.ledger_layout.specs.declared.kind.TenantRow.{TenantRow}
use Rattle.ledger_sql.specs.Spans.{AscendAt, transfers_between}
use Rattle.ledger_sql.specs.Values.{transfer_values}
use Rattle.ledger_spans.proofs.FoundLemmas.{found}
use Rattle.ledger_spans.proofs.spans.oldest_transfers.Goals as goal

pub returns : goal.returns
returns g c =
    let tenant : SFits w64 c.args.tenant = search rules in
    let first : SFits w64 c.args.first = search rules in
    let last : SFits w64 c.args.last = search rules in
    found (λ (row : ℤ × TenantRow TransferCells). row.1.cells) transfer_cells transfer_values (λ read. read.items) c.args.most (transfers_between c.args.tenant c.args.first c.args.last) (AscendAt 12) IsStorableTransfer _ _ c.in_ok-rows.rows.items c.as_slice.result.now c.in_ok-rows.rows
    c.transfers_of.result (λ clean. simp to_z-of_z at (c.in_ok-rows.ensures.read clean)) c.in_ok-rows.ensures.reads c.as_slice.ensures.value c.transfers_of.ensures.cells c.transfers_of.ensures.fits
