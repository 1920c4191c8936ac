use Rattle.std.proofs.Common.{[], ◌∷◌, rules}
use Rattle.std.specs.Prelude.{string_bytes}
use Rattle.sqlite_value.specs.declared.value.Value.TheVariants.{Text}
use Rattle.sqlite_sql.specs.Term.{col}
use Rattle.ledger_sql.specs.TableRows.{directory_rows, with_name}
use Rattle.ledger_sql.specs.Values.{directory_values}
use Rattle.ledger_sql.proofs.KeyLemmas.{is_param, columns_from, row_read, view_picks, name_view}
use Rattle.ledger_sql.proofs.ReadingTexts.{ledger_means}
use Rattle.ledger_sql.proofs.SelectTexts.{finding}
use Rattle.ledger_sql.proofs.finding.find_tenant_by_name.Goals as goal

pub first_row-requires : goal.first_row-requires
first_row-requires g c = finding.name.reads

pub returns : goal.returns
returns g c = row_read (λ row. directory_values row.number (string_bytes row.name) row.digest) _ _ _ _ _ _ (view_picks (λ trees. with_name c.args.name.now (directory_rows trees)) _ 1 (is_param 2 0 ∷ []) (col 1 0 ∷ columns_from 2 2) (ledger_means finding.name) (Text c.args.name.now ∷ []) _ _ (name_view c.args.name.now) _ (search rules)) c.first_row.result c.first_row.ensures.ok c.first_row.ensures.reads c.read_found.result c.read_found.ensures.values c.read_found.ensures.fits
