use Rattle.std.proofs.Common.{true, refl, rules}
use Rattle.sqlite_value.proofs.OrderLemmas.{then-Equal}
use Rattle.rows.specs.Cells.{transfer_cells}
use Rattle.ledger_sql.specs.Values.{transfer_values}
use Rattle.ledger_sql.proofs.ReadingTexts.{ledger_means}
use Rattle.ledger_sql.proofs.SpanTexts.{span_transfers}
use Rattle.ledger_sql.proofs.SpanLemmas.{span_read}
use Rattle.ledger_sql.proofs.spans.newest_transfers.Goals as goal

pub in_span-requires : goal.in_span-requires
in_span-requires g c = (span_transfers true).reads

pub returns : goal.returns
returns g c = span_read 8 14 14 12 (λ _. refl) c.args.tenant c.args.first c.args.last c.args.most (λ row. transfer_values (transfer_cells row)) (λ v. v.items) _ _ true (ledger_means (span_transfers true)) (λ x y. then-Equal _) _ _ _ (search rules) c.in_span.result c.in_span.ensures.ok c.in_span.ensures.fits c.in_span.ensures.reads
