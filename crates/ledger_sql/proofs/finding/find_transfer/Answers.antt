use Rattle.std.proofs.Common.{rules}
use Rattle.amount.specs.Column.{column_of}
use Rattle.rows.specs.Cells.{transfer_cells}
use Rattle.ledger_sql.specs.Values.{transfer_values}
use Rattle.ledger_sql.proofs.KeyLemmas.{row_read, point_picks}
use Rattle.ledger_sql.proofs.ReadingTexts.{ledger_means}
use Rattle.ledger_sql.proofs.SelectTexts.{finding}
use Rattle.ledger_sql.proofs.finding.find_transfer.Goals as goal

pub first_row-requires : goal.first_row-requires
first_row-requires g c = finding.transfer.reads

pub returns : goal.returns
unfolding column_of
returns g c = row_read (λ row. transfer_values (transfer_cells row)) _ _ _ _ _ _ (point_picks c.args.tenant (column_of c.args.id) _ 8 13 (ledger_means finding.transfer) _ _ _ (search rules)) c.first_row.result c.first_row.ensures.ok c.first_row.ensures.reads c.read_found.result c.read_found.ensures.values c.read_found.ensures.fits
