use Rattle.std.proofs.Common.{SFits, refl, rules, to_z-of_z, w64}
use Rattle.rows.specs.declared.history_cells.HistoryCells.{HistoryCells}
use Rattle.ledger_layout.specs.declared.kind.TenantRow.{TenantRow}
use Rattle.ledger_layout.proofs.FrameLemmas.{when_ok}
use Rattle.ledger_sql.specs.Schema.{history_tree}
use Rattle.ledger_sql.specs.Values.{history_values}
use Rattle.ledger_spans.proofs.ReadLemmas.{own_by_entry}
use Rattle.ledger_spans.proofs.history.own_history.Goals as goal

pub returns-in-Ok-clause-read : goal.returns-in-Ok-clause-read
returns-in-Ok-clause-read g c =
    let tenant : SFits w64 c.args.tenant = search rules in
    let key = simp to_z-of_z at (when_ok c.write_tenant_key.result c.if-is_err.ensures.value c.write_tenant_key.ensures) in
    λ clean.
    own_by_entry (λ (row : TenantRow HistoryCells). row.tenant) (λ (row : TenantRow HistoryCells). row.cells) history_values 4 (λ it rowid tenant. refl) _ history_tree c.args.tenant (g.S.Store.view c.args.tables.now.store).trees c.in-Ok.read.items _ _
    (c.in-Ok.ensures.read clean) key key
