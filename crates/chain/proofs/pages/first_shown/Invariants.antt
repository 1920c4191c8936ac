use Rattle.chain.proofs.PageShows.{IsShowing}
use Rattle.chain.proofs.pages.first_shown.Given as goal

abbrev pub invariant-spans : goal.invariant-spans
invariant-spans g l =
    IsShowing g.T.Tables.means g.Q.Source.time_of (g.Q.Query.shown_in l.query) (g.Q.Query.asks l.query)
    (g.Q.Source.records_in l.query) l.fn.tables l.tables l.span l.draft
