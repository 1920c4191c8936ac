use Rattle.std.proofs.Common.{◌≡◌, All, map, take}
use Rattle.rows.specs.Cells.{account_cells}
use Rattle.rows.specs.Widths.{IsStorableAccount}
use Rattle.ledger_spans.proofs.spans.accounts_of.Given as goal

abbrev pub invariant-loop-row : goal.invariant-loop-row
invariant-loop-row l = All IsStorableAccount l.accounts.items × (map account_cells l.accounts.items ≡ map (λ row. row.1.cells) (take l.row-index l.rows))
