use Rattle.std.proofs.Common.{[], ◌∷◌, refl, suc, to_z-of_z, SFits, w64, rules}
use Rattle.sqlite_value.specs.declared.value.Value.TheVariants.{Int}
use Rattle.keyed_trees.specs.Kept.{state}
use Rattle.ledger_sql.specs.Effects.{AddsRows}
use Rattle.ledger_sql.specs.Schema.{ledger_schema}
use Rattle.ledger_sql.specs.TableRows.{rows_in}
use Rattle.ledger_trees.proofs.EffectLemmas.{adds}
use Rattle.ledger_layout.proofs.FrameLemmas.{wrote}
use Rattle.ledger_trees.proofs.ledger_trees.LedgerTrees.add_row.Goals as goal

pub add-requires-clause-row : goal.add-requires-clause-row
add-requires-clause-row g c clean =
    let fits : SFits w64 c.args.tenant = search rules in
    simp to_z-of_z c.requires

pub returns-in-Ok : goal.returns-in-Ok
returns-in-Ok g c =
    let old = state ledger_schema g.S.Store c.self.inside.tables in
    let new = state ledger_schema g.S.Store c.add.new.self in
    let fits : SFits w64 c.args.tenant = search rules in
    let v = g.C.Kind.values c.args.cells in
    rw (← c.self.view_is) (wrote (AddsRows (rows_in g.C.Kind.table (suc g.C.Kind.others)) g.C.Kind.table c.args.tenant (v ∷ [])) old new
    (λ clean. adds g.C.Kind.table g.C.Kind.others c.args.tenant v (λ id. g.met.C.Kind.shown c.args.cells (Int id) (Int c.args.tenant)) old new refl (simp to_z-of_z at (c.in-Ok.ensures.ok clean))) c.in-Ok.ensures.follows)
