use Rattle.std.proofs.Common.{to_z-of_z, SFits, w64, rules}
use Rattle.keyed_trees.specs.Kept.{state}
use Rattle.ledger_sql.specs.Schema.{ledger_schema}
use Rattle.ledger_sql.specs.TableRows.{clock_rows}
use Rattle.ledger_sql.specs.Values.{clock_values}
use Rattle.ledger_layout.proofs.FrameLemmas.{finds}
use Rattle.ledger_trees.proofs.FindLemmas.{picks_clock}
use Rattle.ledger_trees.proofs.clock.find_row.Goals as goal

pub returns : goal.returns
returns g c =
    let old = state ledger_schema g.S.Store c.trees.inside.tables in
    let new = state ledger_schema g.S.Store c.find_at.new.self in
    let fits : SFits w64 c.args.tenant = search rules in
    rw (← c.trees.view_is) (finds clock_values (clock_rows c.args.tenant) old new c.clock_of.result
    (λ clean. rw c.clock_of.ensures (picks_clock c.args.tenant old.now.trees c.in-Ok.found (simp to_z-of_z at (c.in-Ok.ensures.found clean))))
    c.in-Ok.ensures.reads.same c.in-Ok.ensures.reads.kept c.in-Ok.ensures.reads.follows)
