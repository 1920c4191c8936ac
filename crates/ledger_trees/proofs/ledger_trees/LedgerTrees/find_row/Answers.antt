use Rattle.std.proofs.Common.{suc, to_z-of_z, SFits, w64, rules}
use Rattle.amount.specs.Column.{column_of}
use Rattle.keyed_trees.specs.Kept.{state}
use Rattle.ledger_sql.specs.Schema.{ledger_schema}
use Rattle.ledger_sql.specs.TableRows.{rows_in, with_id}
use Rattle.ledger_layout.proofs.FrameLemmas.{finds, when_ok}
use Rattle.ledger_layout.proofs.KeyLemmas.{picks}
use Rattle.ledger_trees.proofs.ledger_trees.LedgerTrees.find_row.Goals as goal

pub returns : goal.returns
returns g c =
    let old = state ledger_schema g.S.Store c.self.inside.tables in
    let new = state ledger_schema g.S.Store c.find.new.self in
    let fits : SFits w64 c.args.tenant = search rules in
    let key = simp to_z-of_z at (when_ok c.write_id_key.result c.if-is_err.ensures.value c.write_id_key.ensures) in
    rw (← c.self.view_is) (finds g.C.Kind.values (λ trees. with_id (column_of c.args.id) (rows_in g.C.Kind.table (suc g.C.Kind.others) c.args.tenant trees)) old new c.cells_of.result
    (λ clean. rw c.cells_of.ensures (picks g.C.Kind.table c.args.tenant (column_of c.args.id) g.C.Kind.others (λ row. row.tenant) (λ row. row.cells) g.C.Kind.values g.met.C.Kind.shown old.now.trees c.in-Ok.found (rw key at (c.in-Ok.ensures.found clean))))
    c.in-Ok.ensures.reads.same c.in-Ok.ensures.reads.kept c.in-Ok.ensures.reads.follows)
