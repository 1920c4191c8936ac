use Rattle.std.proofs.Common.{rules}
use Rattle.amount.specs.Column.{column_of}
use Rattle.rows.specs.Cells.{account_cells}
use Rattle.ledger_sql.specs.Values.{account_values}
use Rattle.ledger_sql.proofs.KeyLemmas.{row_read, point_picks}
use Rattle.ledger_sql.proofs.ReadingTexts.{ledger_means}
use Rattle.ledger_sql.proofs.SelectTexts.{finding}
use Rattle.ledger_sql.proofs.finding.find_account.Goals as goal

pub first_row-requires : goal.first_row-requires
first_row-requires g c = finding.account.reads

pub returns : goal.returns
unfolding column_of
returns g c = row_read (λ row. account_values (account_cells row)) _ _ _ _ _ _ (point_picks c.args.tenant (column_of c.args.id) _ 5 7 (ledger_means finding.account) _ _ _ (search rules)) c.first_row.result c.first_row.ensures.ok c.first_row.ensures.reads c.read_found.result c.read_found.ensures.values c.read_found.ensures.fits
