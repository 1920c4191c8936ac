use Rattle.std.proofs.Common.{[], ◌∷◌}
use Rattle.sqlite_value.specs.declared.value.Value.TheVariants.{Int}
use Rattle.keyed_trees.specs.Kept.{state}
use Rattle.ledger_sql.specs.Schema.{ledger_schema}
use Rattle.ledger_sql.specs.TableRows.{numbers_with_digest}
use Rattle.ledger_layout.proofs.FrameLemmas.{finds, when_ok}
use Rattle.ledger_trees.proofs.FindLemmas.{picks_number}
use Rattle.ledger_trees.proofs.directory.find_by_digest.Goals as goal

pub returns : goal.returns
returns g c =
    let old = state ledger_schema g.S.Store c.trees.inside.tables in
    let new = state ledger_schema g.S.Store c.find.new.self in
    let key = when_ok c.write_digest_key.result c.if-is_err.ensures.value c.write_digest_key.ensures in
    rw (← c.trees.view_is) (finds (λ number. Int number ∷ []) (numbers_with_digest c.args.digest.now) old new c.number_of.result
    (λ clean. rw c.number_of.ensures (picks_number c.args.digest.now old.now.trees c.in-Ok.found (rw key at (c.in-Ok.ensures.found clean))))
    c.in-Ok.ensures.reads.same c.in-Ok.ensures.reads.kept c.in-Ok.ensures.reads.follows)
