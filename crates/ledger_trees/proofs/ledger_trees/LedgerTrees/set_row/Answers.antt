use Rattle.std.proofs.Common.{refl, suc, to_z-of_z, SFits, w64, rules}
use Rattle.amount.specs.Column.{column_of}
use Rattle.sqlite_value.specs.declared.value.Value.TheVariants.{Int}
use Rattle.keyed_trees.specs.Kept.{state}
use Rattle.ledger_sql.specs.Effects.{SetsOne}
use Rattle.ledger_sql.specs.Schema.{ledger_schema}
use Rattle.ledger_sql.specs.TableRows.{rows_in, has_id}
use Rattle.ledger_trees.proofs.EffectLemmas.{sets}
use Rattle.ledger_layout.proofs.FrameLemmas.{wrote, when_ok}
use Rattle.ledger_trees.proofs.ledger_trees.LedgerTrees.set_row.Goals as goal

pub set-requires-clause-row : goal.set-requires-clause-row
set-requires-clause-row g c clean =
    let fits : SFits w64 c.args.tenant = search rules in
    simp to_z-of_z c.requires

pub returns-in-Ok : goal.returns-in-Ok
returns-in-Ok g c =
    let old = state ledger_schema g.S.Store c.self.inside.tables in
    let new = state ledger_schema g.S.Store c.set.new.self in
    let v = g.C.Kind.values c.args.cells in
    let fits : SFits w64 c.args.tenant = search rules in
    let key = simp to_z-of_z at (when_ok c.write_id_key.result c.if-is_err.ensures.value c.write_id_key.ensures) in
    rw (← c.self.view_is) (wrote (SetsOne (rows_in g.C.Kind.table (suc g.C.Kind.others)) g.C.Kind.table c.args.tenant (has_id (column_of c.args.id)) v) old new
    (λ clean. sets g.C.Kind.table g.C.Kind.others c.args.tenant v (λ id. g.met.C.Kind.shown c.args.cells (Int id) (Int c.args.tenant)) old new refl (column_of c.args.id) (rw key at (simp to_z-of_z at (c.in-Ok.ensures.ok clean)))) c.in-Ok.ensures.follows)
