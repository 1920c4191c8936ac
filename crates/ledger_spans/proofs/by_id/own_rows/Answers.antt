use Rattle.std.proofs.Common.{SFits, rules, to_z-of_z, w64}
use Rattle.ledger_layout.specs.declared.kind.TenantRow.{TenantRow}
use Rattle.ledger_layout.proofs.FrameLemmas.{when_ok}
use Rattle.ledger_spans.proofs.ReadLemmas.{own_by_id}
use Rattle.ledger_spans.proofs.by_id.own_rows.Goals as goal

pub returns-in-Ok-clause-read : goal.returns-in-Ok-clause-read
returns-in-Ok-clause-read g c =
    let tenant : SFits w64 c.args.tenant = search rules in
    let key = simp to_z-of_z at (when_ok c.write_tenant_key.result c.if-is_err.ensures.value c.write_tenant_key.ensures) in
    λ clean.
    own_by_id (λ (row : TenantRow g.row.C.Denot). row.tenant) (λ (row : TenantRow g.row.C.Denot). row.cells) g.C.Kind.values g.C.Kind.others g.met.C.Kind.shown _ g.C.Kind.table c.args.tenant (g.S.Store.view c.args.tables.now.store).trees c.in-Ok.read.items _ _
    (c.in-Ok.ensures.read clean) key key
