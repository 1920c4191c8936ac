use Rattle.std.proofs.Common.{refl, rules}
use Rattle.ledger_sql.specs.Reading.{history_cmp}
use Rattle.ledger_sql.specs.Schema.{balance_schema}
use Rattle.ledger_sql.specs.Values.{history_values}
use Rattle.ledger_sql.proofs.OwnLemmas.{own_listed, by_id_and_time}
use Rattle.ledger_sql.proofs.ReadingTexts.{table_means}
use Rattle.ledger_sql.proofs.OwnTexts.{listing}
use Rattle.ledger_sql.proofs.listing.list_history.Goals as goal

pub all_rows-requires : goal.all_rows-requires
all_rows-requires g c = listing.history.reads

pub returns : goal.returns
returns g c =
    own_listed history_values history_cmp (λ v. v.items) balance_schema c.args.tenant _ 15 1 6 _ (table_means listing.history) 2 (λ _ _. refl) (λ a b. by_id_and_time a.account b.account a.timestamp b.timestamp) _ _ _ (search rules) c.all_rows.result c.all_rows.ensures.ok c.all_rows.ensures.reads
