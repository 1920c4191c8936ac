use Rattle.plain.proofs.BatchLemmas.{stay_valid}
use Rattle.plain.proofs.Tenants.{added}
use Rattle.plain.proofs.book.Book.add.Goals as goal

pub returns-clause-ok : goal.returns-clause-ok
returns-clause-ok c = rw (c.in_ok-push.ensures.items, c.self.view_is) (added _ _ _ c.requires)

pub returns-clause-usable : goal.returns-clause-usable
returns-clause-usable c valid all =
    rw (c.in_ok-push.ensures.items, c.self.view_is)
    (stay_valid c.args.digest _ _ c.args.tables all (added _ _ _ c.requires) valid)
