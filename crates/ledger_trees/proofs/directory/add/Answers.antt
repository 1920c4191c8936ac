use Rattle.ledger_trees.proofs.FitLemmas.{tenant_fits}
use Rattle.std.proofs.Common.{ℕ, List, refl, subst, string_bytes, to_z-of_z, SFits, w64, rules}
use Rattle.keyed_trees.specs.Kept.{state}
use Rattle.ledger_sql.specs.Effects.{AddsFileRow}
use Rattle.ledger_sql.specs.Schema.{tenant_tree, ledger_schema}
use Rattle.ledger_sql.specs.TableRows.{directory_rows}
use Rattle.ledger_sql.specs.Values.{directory_values}
use Rattle.ledger_layout.proofs.FrameLemmas.{wrote}
use Rattle.ledger_trees.proofs.FileLemmas.{adds_tenant}
use Rattle.ledger_trees.proofs.directory.add.Goals as goal

pub add_at-requires-clause-row : goal.add_at-requires-clause-row
add_at-requires-clause-row g c clean = tenant_fits c.law_ledger_rows_fit.ensures _ _ (search rules)

pub returns-in-Ok-add_at : goal.returns-in-Ok-add_at
returns-in-Ok-add_at g c =
    let old = state ledger_schema g.S.Store c.trees.inside.tables in
    let new = state ledger_schema g.S.Store c.add_at.new.self in
    let fits : SFits w64 c.args.number = search rules in
    let added : List ℕ → Type 0 = λ name. AddsFileRow directory_rows tenant_tree (directory_values c.args.number name c.args.digest.now) old new in
    rw (← c.trees.view_is) (wrote (AddsFileRow directory_rows tenant_tree (directory_values c.args.number c.args.name.now c.args.digest.now)) old new
    (λ clean. subst added c.in-Ok.ensures.ok (adds_tenant old new refl c.args.number (string_bytes c.in-Ok.name) c.args.digest.now (simp to_z-of_z at (c.in-Ok-add_at.ensures.ok clean))))
    c.in-Ok-add_at.ensures.follows)
