use Rattle.std.proofs.Common.{[], ◌∷◌, rules}
use Rattle.sqlite_value.specs.declared.value.Value.TheVariants.{Int, Blob}
use Rattle.sqlite_sql.specs.Term.{col}
use Rattle.ledger_sql.specs.TableRows.{numbers_with_digest}
use Rattle.ledger_sql.proofs.KeyLemmas.{is_param, row_read, view_picks, digest_view}
use Rattle.ledger_sql.proofs.ReadingTexts.{ledger_means}
use Rattle.ledger_sql.proofs.SelectTexts.{finding}
use Rattle.ledger_sql.proofs.finding.find_tenant.Goals as goal

pub first_row-requires : goal.first_row-requires
first_row-requires g c = finding.tenant.reads

pub returns : goal.returns
returns g c = row_read (λ number. Int number ∷ []) _ _ _ _ _ _ (view_picks (numbers_with_digest c.args.digest.now) _ 1 (is_param 3 0 ∷ []) (col 1 0 ∷ []) (ledger_means finding.tenant) (Blob c.args.digest.now ∷ []) _ _ (digest_view c.args.digest.now) _ (search rules)) c.first_row.result c.first_row.ensures.ok c.first_row.ensures.reads c.read_found.result c.read_found.ensures.values c.read_found.ensures.fits
