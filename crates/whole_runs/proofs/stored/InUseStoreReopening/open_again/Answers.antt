use Rattle.whole_runs.proofs.StoreLemmas.{reopens_so}
use Rattle.whole_runs.proofs.FoundNames.{names_reopened}
use Rattle.whole_runs.proofs.stored.InUseStoreReopening.open_again.Goals as goal

pub returns-clause-opened : goal.returns-clause-opened
returns-clause-opened g c =
    rw (← c.self.view_is)
    (reopens_so c.self.inside.backend c.reopen-opened.new.self c.reopen-opened.result
    c.reopen-opened.ensures.found c.reopen-opened.ensures.honest c.reopen-opened.ensures.shut
    c.reopen-opened.ensures.left c.is_settled-2.ensures c.reopen-opened.ensures.usable)

pub returns-clause-named : goal.returns-clause-named
returns-clause-named g c =
    rw (← c.self.view_is)
    (names_reopened c.self.inside.backend c.reopen-opened.new.self c.reopen-opened.result
    c.is_settled-2.ensures c.reopen-opened.ensures.usable c.reopen-opened.ensures.found
    c.reopen-opened.ensures.honest c.reopen-opened.ensures.left)
