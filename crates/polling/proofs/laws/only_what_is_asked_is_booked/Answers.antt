use Rattle.polling.specs.Serving.{rules}
use Rattle.polling.proofs.AskedLemmas.{books_only_asked}
use Rattle.polling.proofs.laws.only_what_is_asked_is_booked.Goals as goal

pub returns : goal.returns
returns g c =
    books_only_asked (rules g.L.Ledgers.means g.C.Moments.gives g.H.Steward.renews g.H.Steward.waits g.P.Peers.does)
    c.service_books_nothing.ensures
