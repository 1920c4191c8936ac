use Rattle.ledger_trees.proofs.FitLemmas.{account_fits}
use Rattle.std.proofs.Common.{[], ◌∷◌, subst, to_z-of_z, SFits, w64, rules}
use Rattle.keyed_trees.specs.Kept.{state}
use Rattle.ledger_sql.specs.Calls.{LeavesWritten}
use Rattle.ledger_sql.specs.Effects.{AddsRows}
use Rattle.ledger_sql.specs.Schema.{account_tree, ledger_schema}
use Rattle.ledger_sql.specs.TableRows.{account_rows}
use Rattle.ledger_sql.specs.Values.{account_values}
use Rattle.ledger_trees.proofs.accounts.add.Goals as goal

pub add_row-requires : goal.add_row-requires
add_row-requires g c = account_fits c.law_ledger_rows_fit.ensures _ c.args.account.now _ c.from_account.ensures

pub returns : goal.returns
returns g c =
    let old = state ledger_schema g.S.Store c.args.trees.now in
    let new = state ledger_schema g.S.Store c.add_row.new.self in
    let fits : SFits w64 c.args.tenant = search rules in
    subst (λ cells. LeavesWritten (AddsRows account_rows account_tree c.args.tenant (account_values cells ∷ [])) old new c.add_row.result) c.from_account.ensures (simp to_z-of_z at c.add_row.ensures)
