use Rattle.std.proofs.Common.{◌≡◌, arith, SFits, rules, to_z-of_z, w64}
use Rattle.ledger_layout.specs.declared.kind.TenantRow.{TenantRow}
use Rattle.ledger_layout.proofs.FrameLemmas.{when_ok}
use Rattle.ledger_spans.proofs.ReadLemmas.{own_newest}
use Rattle.ledger_spans.proofs.timed.newest.Goals as goal

pub returns-in-Ok-clause-read : goal.returns-in-Ok-clause-read
returns-in-Ok-clause-read g c =
    let tenant : SFits w64 c.args.tenant = search rules in
    let first : SFits w64 c.args.first = search rules in
    let last : SFits w64 c.args.last = search rules in
    let start = simp to_z-of_z at (when_ok c.write_ends.result c.if-is_err.ensures.value c.write_ends.ensures.start) in
    let stop = simp to_z-of_z at (when_ok c.write_ends.result c.if-is_err.ensures.value c.write_ends.ensures.stop) in
    let most : c.from.result ≡ c.args.most = omega arith in
    λ clean.
    own_newest (λ (row : TenantRow g.row.C.Denot). row.tenant) (λ (row : TenantRow g.row.C.Denot). row.cells) g.C.Kind.values g.C.Kind.others g.met.C.Kind.shown _ g.C.Kind.table c.args.tenant (g.S.Store.view c.args.tables.now.store).trees c.in-Ok.read.items _ _
    g.C.Timed.time_at g.met.C.Timed.timed c.args.first c.args.last c.args.most (rw most at (c.in-Ok.ensures.read clean)) start stop
