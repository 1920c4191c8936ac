use Rattle.ledger_trees.proofs.FitLemmas.{transfer_fits}
use Rattle.std.proofs.Common.{[], ◌∷◌, subst, to_z-of_z, SFits, w64, rules}
use Rattle.keyed_trees.specs.Kept.{state}
use Rattle.ledger_sql.specs.Calls.{LeavesWritten}
use Rattle.ledger_sql.specs.Effects.{AddsRows}
use Rattle.ledger_sql.specs.Schema.{transfer_tree, ledger_schema}
use Rattle.ledger_sql.specs.TableRows.{transfer_rows}
use Rattle.ledger_sql.specs.Values.{transfer_values}
use Rattle.ledger_trees.proofs.transfers.add.Goals as goal

pub add_row-requires : goal.add_row-requires
add_row-requires g c = transfer_fits c.law_ledger_rows_fit.ensures _ c.args.transfer.now _ c.from_transfer.ensures

pub returns : goal.returns
returns g c =
    let old = state ledger_schema g.S.Store c.args.trees.now in
    let new = state ledger_schema g.S.Store c.add_row.new.self in
    let fits : SFits w64 c.args.tenant = search rules in
    subst (λ cells. LeavesWritten (AddsRows transfer_rows transfer_tree c.args.tenant (transfer_values cells ∷ [])) old new c.add_row.result) c.from_transfer.ensures (simp to_z-of_z at c.add_row.ensures)
