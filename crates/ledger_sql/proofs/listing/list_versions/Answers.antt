use Rattle.std.proofs.Common.{refl}
use Rattle.sqlite.specs.Held.{state}
use Rattle.ledger_sql.proofs.WholeLemmas.{versions_read}
use Rattle.ledger_sql.proofs.ReadingTexts.{table_means}
use Rattle.ledger_sql.proofs.WholeTexts.{version_query}
use Rattle.ledger_sql.proofs.listing.list_versions.Goals as goal

pub all_rows-requires : goal.all_rows-requires
all_rows-requires g c = version_query.reads

pub returns : goal.returns
returns g c = record {
  whole = λ clean starts.
      versions_read _ _ (table_means version_query _ starts) (state g.S.Store c.args.conn.now) (state g.S.Store c.all_rows.new.conn) refl
      (λ v. v.items) c.all_rows.result (c.all_rows.ensures.ok clean);
  reads = c.all_rows.ensures.reads;
}
