use Rattle.std.proofs.Common.{refl, rules}
use Rattle.ledger_sql.specs.Reading.{clock_cmp}
use Rattle.ledger_sql.specs.Schema.{list_schema}
use Rattle.ledger_sql.specs.Values.{clock_values}
use Rattle.ledger_sql.proofs.OwnLemmas.{own_listed}
use Rattle.ledger_sql.proofs.ReadingTexts.{table_means}
use Rattle.ledger_sql.proofs.OwnTexts.{listing}
use Rattle.ledger_sql.proofs.listing.list_clocks.Goals as goal

pub all_rows-requires : goal.all_rows-requires
all_rows-requires g c = listing.clocks.reads

pub returns : goal.returns
returns g c =
    own_listed clock_values clock_cmp (λ v. v.items) list_schema c.args.tenant _ 4 0 1 _ (table_means listing.clocks) 0 (λ _ _. refl) (λ a b. refl) _ _ _ (search rules) c.all_rows.result c.all_rows.ensures.ok c.all_rows.ensures.reads
