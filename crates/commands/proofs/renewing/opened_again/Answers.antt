use Rattle.std.proofs.Common.{◌≡◌, None, false, sym, subst}
use Rattle.store.specs.declared.store.Store.{Store}
use Rattle.commands.specs.Kept.{answers, WasRefused, Renews}
use Rattle.commands.specs.declared.kept.Kept.{Kept}
use Rattle.commands.specs.declared.kept.Kept.TheVariants.{Open}
use Rattle.commands.proofs.RenewLemmas.{anew_so, refused_so}
use Rattle.commands.proofs.renewing.opened_again.Goals as goal

pub returns-in-Err-Unavailable-Disk-clause-renews :
    goal.returns-in-Err-Unavailable-Disk-clause-renews
returns-in-Err-Unavailable-Disk-clause-renews g c =
    let refused = c.in-Err-Unavailable-Disk.ensures in
    anew_so g.H.Home.opens c.args.kept.now (Open c.reopened.new.store) c.open_anew.new.kept c.open_anew.result
    c.requires
    (subst (λ (was : Kept (Store _ _)). WasRefused was (Open c.reopened.new.store))
    (sym c.in-Open.is)
    (rw c.in-Err-Unavailable-Disk.field-0-0-is at
    (rw c.in-Err-Unavailable-Disk.field-0-is at refused.refused)))
    c.open_anew.ensures.anew c.open_anew.ensures.answers c.open_anew.ensures.settled
    c.open_anew.ensures.given_up c.open_anew.ensures.refused

pub returns-in-Err-clause-renews : goal.returns-in-Err-clause-renews
returns-in-Err-clause-renews g c =
    let refused = c.in-Err.ensures in
    subst
    (λ (was : Kept (Store _ _)). Renews g.H.Home.opens None was (Open c.reopened.new.store))
    (sym c.in-Open.is)
    (refused_so g.H.Home.opens c.in-Open.store c.reopened.new.store c.in-Err.fault
    (subst (λ (was : Kept (Store _ _)). answers was ≡ false) c.in-Open.is c.requires)
    refused.refused)

pub returns-in-Closed-clause-renews : goal.returns-in-Closed-clause-renews
returns-in-Closed-clause-renews g c =
    let opened = c.open_anew-in-Closed in
    anew_so g.H.Home.opens c.args.kept.now c.args.kept.now opened.new.kept opened.result c.requires
    (subst (λ (was : Kept (Store _ _)). WasRefused was was) (sym c.in-Closed.is) tt)
    opened.ensures.anew opened.ensures.answers opened.ensures.settled opened.ensures.given_up
    opened.ensures.refused
