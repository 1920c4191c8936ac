use Rattle.std.proofs.Common.{ℤ, take, SFits, rules, to_z-of_z, w64}
use Rattle.sqlite_value.specs.Order.{row_cmp}
use Rattle.ledger_layout.specs.declared.kind.TenantRow.{TenantRow}
use Rattle.ledger_spans.proofs.FoundLemmas.{parts, read_again}
use Rattle.ledger_spans.proofs.by_id.list.Goals as goal

pub returns-clause-read : goal.returns-clause-read
returns-clause-read g c =
    let tenant : SFits w64 c.args.tenant = search rules in
    λ clean.
    parts (λ (it : ℤ × TenantRow g.row.C.Denot). it.1.cells) g.C.Kind.values (λ a b. row_cmp (take 1 a) (take 1 b)) _ c.in_ok-rows.rows.items _ c.in_ok-read.ensures (simp to_z-of_z at (c.in_ok-rows.ensures.read clean))

pub returns-clause-reads : goal.returns-clause-reads
returns-clause-reads g c = read_again _ _ c.in_ok-rows.rows _ c.in_ok-rows.ensures.reads
