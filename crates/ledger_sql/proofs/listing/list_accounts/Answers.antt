use Rattle.std.proofs.Common.{refl, rules}
use Rattle.ledger_sql.specs.Reading.{account_cmp}
use Rattle.ledger_sql.specs.Schema.{list_schema}
use Rattle.ledger_sql.specs.Values.{account_values}
use Rattle.ledger_sql.proofs.OwnLemmas.{own_listed, by_id}
use Rattle.ledger_sql.proofs.ReadingTexts.{table_means}
use Rattle.ledger_sql.proofs.OwnTexts.{listing}
use Rattle.ledger_sql.proofs.listing.list_accounts.Goals as goal

pub all_rows-requires : goal.all_rows-requires
all_rows-requires g c = listing.accounts.reads

pub returns : goal.returns
returns g c =
    own_listed account_values account_cmp (λ v. v.items) list_schema c.args.tenant _ 5 1 8 _ (table_means listing.accounts) 1 (λ _ _. refl) (λ a b. by_id a.id b.id) _ _ _ (search rules) c.all_rows.result c.all_rows.ensures.ok c.all_rows.ensures.reads
