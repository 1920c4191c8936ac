use Rattle.std.proofs.Common.{sym, subst}
use Rattle.sqlite.specs.Files.{image_of}
use Rattle.openings.specs.RefusedLaws.{files_stay, leaves_refused}
use Rattle.store.specs.Stores.{IsHonestAt, IsOpenedAt}
use Rattle.store.proofs.store.Store.open.Goals as goal

pub returns-in-Ok-clause-opened : goal.returns-in-Ok-clause-opened
returns-in-Ok-clause-opened g c honest =
    subst (λ place. IsOpenedAt {g = g.D.Disk} (image_of g.D.Disk c.args.files) place) (sym c.over.ensures.over)
    (let clean = subst (λ place. IsHonestAt {g = g.D.Disk} place) c.over.ensures.over honest in
    c.in-Ok.ensures.opened.opened clean)

pub returns-in-Ok-clause-honest : goal.returns-in-Ok-clause-honest
returns-in-Ok-clause-honest g c honest =
    c.in-Ok.ensures.opened.honest (subst (λ place. IsHonestAt {g = g.D.Disk} place) c.over.ensures.over honest)

pub returns-in-Err-clause-refused : goal.returns-in-Err-clause-refused
returns-in-Err-clause-refused g c = record {
  told = c.in-Err.ensures.refused.told;
  left = leaves_refused g.D.Disk c.args.files c.in-Err.refused c.in-Err.left c.in-Err.ensures.refused.left;
  stay = files_stay g.D.Disk c.args.files c.in-Err.refused c.in-Err.left c.in-Err.ensures.refused.left;
}
