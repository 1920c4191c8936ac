use Rattle.engine.proofs.ValidMachineLemmas.{sound}
use Rattle.rows.specs.Prescribed.{rows_for, balance_rows, status_rows, history_rows}
use Rattle.rows.proofs.AnyOrder.{distinct_ascending}
use Rattle.rows.specs.Tables.{history_key}
use Rattle.rows.proofs.HistoryKeys.{history_distinct}
use Rattle.rows.proofs.InOrder.{failed_ascend}
use Rattle.rows.proofs.PointReads.{balances_distinct, statuses_distinct}
use Rattle.rows.proofs.Permuted.{distinct_keys, distinct_permuted}
use Rattle.rows.proofs.table_laws.keys_are_distinct.Goals as goal

pub returns : goal.returns
unfolding rows_for
returns c m rows valid same =
    let s = sound m valid in
    record {
      accounts = distinct_permuted (λ row. row.id) m.accounts rows.accounts same.accounts (distinct_keys (λ row. row.id) m.accounts s.accounts);
      transfers = distinct_permuted (λ row. row.id) m.transfers rows.transfers same.transfers (distinct_keys (λ row. row.id) m.transfers s.transfers);
      balances = distinct_permuted (λ row. row.account) (balance_rows m) rows.balances same.balances (distinct_keys (λ row. row.account) (balance_rows m) (balances_distinct m s));
      statuses = distinct_permuted (λ row. row.transfer) (status_rows m) rows.statuses same.statuses (distinct_keys (λ row. row.transfer) (status_rows m) (statuses_distinct m s));
      history = distinct_permuted history_key (history_rows m) rows.history same.history (history_distinct m valid);
      failed = distinct_permuted (λ id. id) m.failed rows.failed same.failed (distinct_keys (λ id. id) m.failed (distinct_ascending (λ id. id) m.failed (failed_ascend m valid)));
    }
