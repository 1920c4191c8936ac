use Rattle.std.proofs.Common.{ℤ, take, SFits, rules, to_z-of_z, w64}
use Rattle.sqlite_value.specs.Order.{row_cmp}
use Rattle.rows.specs.declared.history_cells.HistoryCells.{HistoryCells}
use Rattle.ledger_layout.specs.declared.kind.TenantRow.{TenantRow}
use Rattle.ledger_sql.specs.Reading.{history_cmp}
use Rattle.ledger_sql.specs.Values.{history_values}
use Rattle.ledger_spans.specs.Listing.{by_first}
use Rattle.ledger_spans.proofs.FoundLemmas.{by_id_and_time, listed, parts, reordered}
use Rattle.ledger_spans.proofs.history.list_history.Goals as goal

pub returns : goal.returns
returns g c =
    let tenant : SFits w64 c.args.tenant = search rules in
    listed _ _ _ _ c.in_ok-rows.rows _
    (λ clean. reordered history_values (by_first 2 history_values) history_cmp _ _ (λ a b. by_id_and_time a.account b.account a.timestamp b.timestamp)
    (parts (λ (it : ℤ × TenantRow HistoryCells). it.1.cells) history_values (λ a b. row_cmp (take 2 a) (take 2 b)) _ c.in_ok-rows.rows.items _ c.in_ok-read.ensures (simp to_z-of_z at (c.in_ok-rows.ensures.read clean))))
    c.in_ok-rows.ensures.reads
