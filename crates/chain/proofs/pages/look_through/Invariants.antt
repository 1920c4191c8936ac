use Rattle.chain.proofs.PageWalks.{HasLookedAt}
use Rattle.chain.proofs.pages.look_through.Given as goal

abbrev pub invariant-loop-record : goal.invariant-loop-record
invariant-loop-record g l =
    HasLookedAt g.T.Tables.means g.Q.Source.time_of (g.Q.Query.shown_in l.query) (g.Q.Query.asks l.query) l.records l.record-index
    l.fn.tables l.tables l.fn.draft l.draft
