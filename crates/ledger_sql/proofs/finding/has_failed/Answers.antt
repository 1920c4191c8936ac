use Rattle.std.proofs.Common.{rules}
use Rattle.amount.specs.Column.{column_of}
use Rattle.ledger_sql.proofs.KeyLemmas.{there_read}
use Rattle.ledger_sql.proofs.ReadingTexts.{ledger_means}
use Rattle.ledger_sql.proofs.SelectTexts.{finding}
use Rattle.ledger_sql.proofs.finding.has_failed.Goals as goal

pub first_row-requires : goal.first_row-requires
first_row-requires g c = finding.failed.reads

pub returns : goal.returns
unfolding column_of
returns g c = there_read c.args.tenant (column_of c.args.id) _ 17 0 (ledger_means finding.failed) _ _ _ (search rules) c.first_row.result c.first_row.ensures.ok c.first_row.ensures.reads c.was_found.result c.was_found.ensures
