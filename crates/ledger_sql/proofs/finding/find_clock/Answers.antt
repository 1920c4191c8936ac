use Rattle.std.proofs.Common.{pos, [], ◌∷◌, rules}
use Rattle.sqlite_value.specs.declared.value.Value.TheVariants.{Int}
use Rattle.sqlite_sql.specs.Term.{col}
use Rattle.ledger_sql.specs.TableRows.{clock_rows}
use Rattle.ledger_sql.specs.Values.{clock_values}
use Rattle.ledger_sql.proofs.KeyLemmas.{is_param, row_read, view_picks, clock_view}
use Rattle.ledger_sql.proofs.ReadingTexts.{ledger_means}
use Rattle.ledger_sql.proofs.SelectTexts.{finding}
use Rattle.ledger_sql.proofs.finding.find_clock.Goals as goal

pub first_row-requires : goal.first_row-requires
first_row-requires g c = finding.clock.reads

pub returns : goal.returns
returns g c = row_read (λ clock. clock_values (pos clock)) _ _ _ _ _ _ (view_picks (clock_rows c.args.tenant) _ 4 (is_param 0 0 ∷ []) (col 1 2 ∷ []) (ledger_means finding.clock) (Int c.args.tenant ∷ []) _ _ (clock_view c.args.tenant) _ (search rules)) c.first_row.result c.first_row.ensures.ok c.first_row.ensures.reads c.read_found.result c.read_found.ensures.values c.read_found.ensures.fits
