use Rattle.clients.proofs.ExchangeLemmas.{gives_up}
use Rattle.clients.proofs.laws.giving_up_replies.Goals as goal

pub returns : goal.returns
returns g c =
    gives_up g.L.Ledgers.means g.C.Moments.gives c.later_bytes_change_nothing.ensures.announced
