use Rattle.ledger_sql.proofs.QueryLemmas.{found_ok, found_same, row_kept, query_follows}
use Rattle.ledger_sql.proofs.query.first_row.Goals as goal

pub returns-clause-ok : goal.returns-clause-ok
returns-clause-ok g c clean =
    rw c.found.ensures (found_ok _ _ _ _ c.requires c.query_row.result (c.query_row.ensures.row clean))

pub returns-clause-reads : goal.returns-clause-reads
returns-clause-reads g c = record {
  same = λ clean. rw c.found.ensures (found_same _ _ _ _ c.requires c.query_row.result (c.query_row.ensures.row clean));
  kept = λ clean. row_kept _ _ _ _ c.requires c.query_row.result (c.query_row.ensures.row clean);
  follows = query_follows _ _ _ _ c.requires c.query_row.ensures.survives (λ clean. row_kept _ _ _ _ c.requires c.query_row.result (c.query_row.ensures.row clean));
}
