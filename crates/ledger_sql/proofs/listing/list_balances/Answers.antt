use Rattle.std.proofs.Common.{refl, rules}
use Rattle.ledger_sql.specs.Reading.{balance_cmp}
use Rattle.ledger_sql.specs.Schema.{balance_schema}
use Rattle.ledger_sql.specs.Values.{balance_values}
use Rattle.ledger_sql.proofs.OwnLemmas.{own_listed, by_id}
use Rattle.ledger_sql.proofs.ReadingTexts.{table_means}
use Rattle.ledger_sql.proofs.OwnTexts.{listing}
use Rattle.ledger_sql.proofs.listing.list_balances.Goals as goal

pub all_rows-requires : goal.all_rows-requires
all_rows-requires g c = listing.balances.reads

pub returns : goal.returns
returns g c =
    own_listed balance_values balance_cmp (λ v. v.items) balance_schema c.args.tenant _ 11 1 5 _ (table_means listing.balances) 1 (λ _ _. refl) (λ a b. by_id a.account b.account) _ _ _ (search rules) c.all_rows.result c.all_rows.ensures.ok c.all_rows.ensures.reads
