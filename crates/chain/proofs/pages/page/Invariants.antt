use Rattle.chain.proofs.PageWalks.{IsMaking}
use Rattle.chain.proofs.pages.page.Given as goal

abbrev pub invariant-loop-left : goal.invariant-loop-left
invariant-loop-left g l =
    IsMaking g.T.Tables.means g.Q.Source.time_of (g.Q.Query.shown_in l.query) (g.Q.Query.asks l.query) (g.Q.Source.records_in l.query)
    l.fn.tables l.tables l.left l.span l.draft

abbrev pub decreases-loop-left : goal.decreases-loop-left
decreases-loop-left g l = l.left
