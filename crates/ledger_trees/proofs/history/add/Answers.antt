use Rattle.ledger_trees.proofs.FitLemmas.{history_fits}
use Rattle.std.proofs.Common.{Result, Ok, [], ◌∷◌, subst, to_z-of_z, SFits, w64, rules}
use Rattle.keyed_trees.specs.Kept.{state}
use Rattle.records.specs.declared.unavailable.Unavailable.{Unavailable}
use Rattle.rows.specs.Cells.{history_cells}
use Rattle.rows.specs.declared.history_cells.HistoryCells.{HistoryCells}
use Rattle.sqlite.specs.State.{State}
use Rattle.ledger_sql.specs.Calls.{LeavesWritten}
use Rattle.ledger_sql.specs.Effects.{AddsRows}
use Rattle.ledger_sql.specs.Schema.{history_tree, ledger_schema}
use Rattle.ledger_sql.specs.TableRows.{history_rows}
use Rattle.ledger_sql.specs.Values.{history_values}
use Rattle.ledger_layout.proofs.FrameLemmas.{clean_before, follows_then}
use Rattle.ledger_trees.proofs.TwoCallLemmas.{adds_both}
use Rattle.ledger_trees.proofs.history.add.Goals as goal

pub add_row-requires : goal.add_row-requires
add_row-requires g c = history_fits c.law_ledger_rows_fit.ensures _ c.args.debit.now _ c.from_row.ensures

pub add_row-requires-2 : goal.add_row-requires-2
add_row-requires-2 g c = history_fits c.law_ledger_rows_fit.ensures _ c.args.credit.now _ c.from_row-2.ensures

pub returns : goal.returns
returns g c =
    let old = state ledger_schema g.S.Store c.args.trees.now in
    let mid = state ledger_schema g.S.Store c.add_row.new.self in
    let new = state ledger_schema g.S.Store c.add_row-2.new.self in
    let fits : SFits w64 c.args.tenant = search rules in
    let added : HistoryCells → HistoryCells → State → State → Type 0 = λ one two. AddsRows history_rows history_tree c.args.tenant (history_values one ∷ history_values two ∷ []) in
    let done : Result (Unit {0}) Unavailable = Ok tt in
    subst (λ one. LeavesWritten (added one (history_cells c.args.credit.now)) old new done) c.from_row.ensures
    (subst (λ two. LeavesWritten (added c.from_row.result two) old new done) c.from_row-2.ensures
    (record {
      ok = λ clean.
          adds_both old mid new history_rows history_tree c.args.tenant (history_values c.from_row.result) (history_values c.from_row-2.result)
          (simp to_z-of_z at (c.in_ok-add_row.ensures.ok (clean_before mid new c.add_row-2.ensures.follows clean))) (simp to_z-of_z at (c.in_default.ensures.ok clean));
      err = λ clean. tt;
      follows = follows_then old mid new c.add_row.ensures.follows c.add_row-2.ensures.follows;
    }))
