use Rattle.std.proofs.Common.{rules}
use Rattle.amount.specs.Column.{column_of}
use Rattle.rows.specs.Cells.{status_cells}
use Rattle.ledger_sql.specs.Values.{status_values}
use Rattle.ledger_sql.proofs.KeyLemmas.{row_read, point_picks}
use Rattle.ledger_sql.proofs.ReadingTexts.{ledger_means}
use Rattle.ledger_sql.proofs.SelectTexts.{finding}
use Rattle.ledger_sql.proofs.finding.find_status.Goals as goal

pub first_row-requires : goal.first_row-requires
first_row-requires g c = finding.status.reads

pub returns : goal.returns
unfolding column_of
returns g c = row_read (λ row. status_values (status_cells row)) _ _ _ _ _ _ (point_picks c.args.tenant (column_of c.args.transfer) _ 13 2 (ledger_means finding.status) _ _ _ (search rules)) c.first_row.result c.first_row.ensures.ok c.first_row.ensures.reads c.read_found.result c.read_found.ensures.values c.read_found.ensures.fits
