use Rattle.std.proofs.lemmas.Result.{err_from_is_err_and}
use Rattle.keyed_trees.proofs.ReadLemmas as lemma
use Rattle.keyed_trees.proofs.range.next_row.Goals as goal

pub returns-in_err-get-clause-reads : goal.returns-in_err-get-clause-reads
returns-in_err-get-clause-reads g c =
    let out = err_from_is_err_and c.from_residual-in_err-get.result c.from_residual-in_err-get.ensures.1 in
    rw (out.1, out.2) (lemma.failed_since g.S.Store c.args.store.now c.next.new.self c.get.new.self c.in_err-get.field-0.0 (λ clean. (c.in_ok-next.ensures.moves clean).same) c.in_ok-next.ensures.schema c.in_ok-next.ensures.quiet
    (λ clean. c.in_err-get.ensures.err) c.in_err-get.ensures.schema c.in_err-get.ensures.quiet)

pub returns-else-branch-clause-reads : goal.returns-else-branch-clause-reads
returns-else-branch-clause-reads g c =
    lemma.failed_since g.S.Store c.args.store.now c.next.new.self c.get.new.self _ (λ clean. (c.in_ok-next.ensures.moves clean).same) c.in_ok-next.ensures.schema c.in_ok-next.ensures.quiet
    (λ clean. lemma.failure_same _ _ _ (lemma.same_reads _ _ (c.in_ok-get.ensures.same clean))) c.in_ok-get.ensures.schema c.in_ok-get.ensures.quiet
