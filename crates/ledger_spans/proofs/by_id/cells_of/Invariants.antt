use Rattle.std.proofs.Common.{◌≡◌, ℤ, map}
use Rattle.ledger_layout.specs.declared.kind.TenantRow.{TenantRow}
use Rattle.ledger_spans.proofs.by_id.cells_of.Given as goal

abbrev pub invariant-loop-row : goal.invariant-loop-row
invariant-loop-row g l = l.read.items ≡ map (λ (row : ℤ × TenantRow g.row.C.Denot). row.1.cells) l.yielded
