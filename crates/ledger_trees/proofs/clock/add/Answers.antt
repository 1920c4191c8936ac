use Rattle.ledger_trees.proofs.FitLemmas.{clock_fits}
use Rattle.std.proofs.Common.{pos, [], ◌∷◌, refl, to_z-of_z, SFits, w64, rules}
use Rattle.std.proofs.Math.Facts.{to_z_pos}
use Rattle.keyed_trees.specs.Kept.{state}
use Rattle.ledger_sql.specs.Effects.{AddsRows}
use Rattle.ledger_sql.specs.Schema.{clock_tree, ledger_schema}
use Rattle.ledger_sql.specs.TableRows.{clock_rows}
use Rattle.ledger_sql.specs.Values.{clock_values}
use Rattle.ledger_layout.proofs.FrameLemmas.{follows, wrote}
use Rattle.ledger_trees.proofs.FileLemmas.{adds_clock}
use Rattle.ledger_trees.proofs.clock.add.Goals as goal
use Rattle.ledger_trees.proofs.clock.add.Goals.{in-Ok, in-Err}

pub add_at-requires-clause-row : goal.add_at-requires-clause-row
add_at-requires-clause-row g c clean = clock_fits c.law_ledger_rows_fit.ensures _

pub returns : goal.returns
returns g c =
    let old = state ledger_schema g.S.Store c.trees.inside.tables in
    let new = state ledger_schema g.S.Store c.add_at.new.self in
    let fits : SFits w64 c.args.tenant = search rules in
    let small = to_z_pos w64 c.requires in
    rw (← c.trees.view_is) (elim c.match-add_at.branch [
      | in-Ok w ↦ rw w.result-is (wrote (AddsRows clock_rows clock_tree c.args.tenant (clock_values (pos c.args.clock) ∷ [])) old new
          (λ clean. adds_clock old new refl c.args.tenant (pos c.args.clock) (rw small at (simp to_z-of_z at (w.in-Ok.ensures.ok clean)))) w.in-Ok.ensures.follows)
      | in-Err w ↦ rw w.result-is (record { ok = λ clean. tt; err = w.in-Err.ensures.err; follows = follows old new w.in-Err.ensures.follows })
    ])
