use Rattle.std.proofs.Common.{refl}
use Rattle.std.specs.Prelude.{string_bytes}
use Rattle.ledger_sql.specs.Reading.{directory_cmp}
use Rattle.ledger_sql.specs.Values.{directory_values}
use Rattle.ledger_sql.proofs.WholeLemmas.{rows_read, by_number}
use Rattle.ledger_sql.proofs.ReadingTexts.{table_means}
use Rattle.ledger_sql.proofs.WholeTexts.{tenants_query}
use Rattle.ledger_sql.proofs.listing.directory.Goals as goal

pub all_rows-requires : goal.all_rows-requires
all_rows-requires g c = tenants_query.reads

pub returns : goal.returns
returns g c = record {
  whole = λ clean starts.
      rows_read _ _ 1 0 2 _ (table_means tenants_query _ starts) _ _ refl 1 (λ _ _. refl) (λ row. directory_values row.number (string_bytes row.name) row.digest) directory_cmp (λ a b. by_number a.number b.number) (λ v. v.items) c.all_rows.result (c.all_rows.ensures.ok clean);
  reads = c.all_rows.ensures.reads;
}
