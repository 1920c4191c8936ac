use Rattle.std.proofs.Common.{IfOk, subst}
use Rattle.openings.specs.Opened.{AreKept}
use Rattle.openings.proofs.due_sets.due_sets.Goals as goal

pub returns : goal.returns
returns c =
    subst (λ tenants. IfOk c.sets_of.result (λ sets. AreKept sets c.args.all.now.directory.items tenants))
    c.as_slice-tenants.ensures.value
    (subst (λ directory. IfOk c.sets_of.result (λ sets. AreKept sets directory c.as_slice-tenants.result.now))
    c.as_slice-directory.ensures.value c.sets_of.ensures)
