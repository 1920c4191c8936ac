use Rattle.std.proofs.Common.{Ok, refl}
use Rattle.commands.proofs.RenewLemmas.{opened_so}
use Rattle.commands.proofs.renewing.reopened.Goals as goal

pub returns-in-Ok-clause-opened : goal.returns-in-Ok-clause-opened
returns-in-Ok-clause-opened g c =
    rw (← c.store.view_is) (opened_so c.store.inside.backend c.reopen-opened.new.self (Ok tt)
    c.reopen-opened.ensures.usable c.in-Ok.ensures.found c.in-Ok.ensures.honest
    c.is_settled.ensures.settled)

pub returns-in-Err-clause-refused : goal.returns-in-Err-clause-refused
returns-in-Err-clause-refused g c = rw (← c.store.view_is) (record {
  refused = c.in-Err.refused;
  why = refl;
  leaves = c.in-Err.ensures.left;
  silent = c.in-Err.ensures.refused;
  shut = c.in-Err.ensures.shut;
})
