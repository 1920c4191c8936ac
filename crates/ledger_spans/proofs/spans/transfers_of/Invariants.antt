use Rattle.std.proofs.Common.{◌≡◌, All, map, take}
use Rattle.rows.specs.Cells.{transfer_cells}
use Rattle.rows.specs.Widths.{IsStorableTransfer}
use Rattle.ledger_spans.proofs.spans.transfers_of.Given as goal

abbrev pub invariant-loop-row : goal.invariant-loop-row
invariant-loop-row l = All IsStorableTransfer l.transfers.items × (map transfer_cells l.transfers.items ≡ map (λ row. row.1.cells) (take l.row-index l.rows))
