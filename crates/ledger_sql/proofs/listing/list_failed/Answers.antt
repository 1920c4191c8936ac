use Rattle.std.proofs.Common.{refl, rules}
use Rattle.ledger_sql.specs.Reading.{id_cmp}
use Rattle.ledger_sql.specs.Schema.{ledger_schema}
use Rattle.ledger_sql.specs.Values.{id_values}
use Rattle.ledger_sql.proofs.OwnLemmas.{own_listed, by_id}
use Rattle.ledger_sql.proofs.ReadingTexts.{table_means}
use Rattle.ledger_sql.proofs.OwnTexts.{listing}
use Rattle.ledger_sql.proofs.listing.list_failed.Goals as goal

pub all_rows-requires : goal.all_rows-requires
all_rows-requires g c = listing.failed.reads

pub returns : goal.returns
returns g c =
    own_listed id_values id_cmp (λ v. v.items) ledger_schema c.args.tenant _ 17 1 1 _ (table_means listing.failed) 1 (λ _ _. refl) by_id _ _ _ (search rules) c.all_rows.result c.all_rows.ensures.ok c.all_rows.ensures.reads
