use Rattle.std.proofs.Common.{refl}
use Rattle.wire.specs.declared.outcome.Outcome.TheVariants.{Page}
use Rattle.service.proofs.ShownReads.{begins_found}
use Rattle.service.proofs.showing.begin_page.Goals as goal

pub returns : goal.returns
returns g c =
    let page = c.in-Ok.page in
    begins_found _ _ page (Page page.clock page.next c.shows.result) _ _ c.in-Ok.is
    (record { entries = c.shows.result; shown = rw c.into.ensures at c.shows.ensures; is = refl })
    c.whole-2.ensures c.shown.ensures
