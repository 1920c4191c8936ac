use Rattle.std.proofs.Common.{Some, sym, subst}
use Rattle.store.specs.declared.store.Store.{Store}
use Rattle.polling.specs.Serving.{Asked_once}
use Rattle.commands.specs.Kept.{Attends}
use Rattle.commands.specs.declared.kept.Kept.{Kept}
use Rattle.commands.specs.declared.kept.Kept.TheVariants.{Open}
use Rattle.commands.proofs.SettleLemmas.{settling_renews}
use Rattle.commands.proofs.renewing.settle.Goals as goal

pub returns-in-Open : goal.returns-in-Open
returns-in-Open g c =
    let now = c.settle.ensures in
    Asked_once now.moment now.given
    (subst (λ (was : Kept (Store _ _)). Attends (Some now.moment) was (Open c.settle.new.store))
    (sym c.in-Open.is) (settling_renews now.moment _ c.settle.new.store now.piece.by))
