use Rattle.std.proofs.Common.{[], ◌∷◌, filter, rules}
use Rattle.std.specs.Prelude.{string_bytes}
use Rattle.sqlite_value.specs.declared.value.Value.TheVariants.{Int}
use Rattle.sqlite_value.specs.Order.{column}
use Rattle.sqlite_sql.specs.Term.{col}
use Rattle.ledger_sql.specs.TableRows.{directory_rows, is_int}
use Rattle.ledger_sql.specs.Values.{directory_values}
use Rattle.ledger_sql.proofs.KeyLemmas.{is_param, columns_from, row_read, view_picks, number_view}
use Rattle.ledger_sql.proofs.ReadingTexts.{ledger_means}
use Rattle.ledger_sql.proofs.SelectTexts.{finding}
use Rattle.ledger_sql.proofs.finding.find_tenant_by_number.Goals as goal

pub first_row-requires : goal.first_row-requires
first_row-requires g c = finding.number.reads

pub returns : goal.returns
returns g c = row_read (λ row. directory_values row.number (string_bytes row.name) row.digest) _ _ _ _ _ _ (view_picks (λ trees. filter (λ row. is_int c.args.number (column row 0)) (directory_rows trees)) _ 1 (is_param 0 0 ∷ []) (col 1 0 ∷ columns_from 2 2) (ledger_means finding.number) (Int c.args.number ∷ []) _ _ (number_view c.args.number) _ (search rules)) c.first_row.result c.first_row.ensures.ok c.first_row.ensures.reads c.read_found.result c.read_found.ensures.values c.read_found.ensures.fits
