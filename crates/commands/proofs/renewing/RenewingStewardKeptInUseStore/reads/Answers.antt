use Rattle.std.proofs.Common.{None, sym, subst}
use Rattle.service.specs.Attending.{Reads_part}
use Rattle.service.specs.Courses.{Tried}
use Rattle.store.specs.declared.store.Store.{Store}
use Rattle.commands.specs.Kept.{Renews, Tries}
use Rattle.commands.specs.Pieces.{asked_for}
use Rattle.commands.specs.declared.kept.Kept.{Kept}
use Rattle.commands.specs.declared.kept.Kept.TheVariants.{Open}
use Rattle.commands.proofs.OrderLemmas.{moves_kept}
use Rattle.commands.proofs.renewing.RenewingStewardKeptInUseStore.reads.Goals as goal

pub returns-in-Open-clause-renewed : goal.returns-in-Open-clause-renewed
returns-in-Open-clause-renewed g c =
    let tried = c.next_part.ensures.tried in
    let new = c.next_part.new.store in
    let digest = c.args.rest.now.digest in
    let account = c.args.rest.now.account in
    subst (λ (was : Kept (Store _ _)). Renews g.H.Home.opens None was (Open new)) (sym c.in-Open.is)
    (Tries (asked_for digest account) tried.0 (Reads_part digest account) tt
    (moves_kept c.in-Open.store (Tried (asked_for digest account) tried.0) new tried.1))
