use Rattle.std.proofs.Common.{refl}
use Rattle.service.proofs.CallLemmas.{begins_served}
use Rattle.service.proofs.linting.begin_lint.Goals as goal

pub returns : goal.returns
returns g c moment =
    begins_served g.L.Ledgers.means _ _ _ moment _ _ c.lint.result _ refl c.whole.ensures
    (c.lint.ensures moment)
