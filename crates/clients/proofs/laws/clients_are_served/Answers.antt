use Rattle.clients.proofs.DeedLemmas.{may_come_before, are_exchanges}
use Rattle.clients.proofs.WritingLemmas.{are_written, are_served}
use Rattle.clients.proofs.laws.clients_are_served.Goals as goal

pub returns-clause-come : goal.returns-clause-come
returns-clause-come g c old new deed done later =
    may_come_before g.L.Ledgers.means g.C.Moments.gives old new deed later done

pub returns-clause-exchanges : goal.returns-clause-exchanges
returns-clause-exchanges g c = are_exchanges g.L.Ledgers.means g.C.Moments.gives

pub returns-clause-written : goal.returns-clause-written
returns-clause-written g c = are_written g.L.Ledgers.means g.C.Moments.gives

pub returns-clause-served : goal.returns-clause-served
returns-clause-served g c =
    let t = g.L.Ledgers.means in
    let gives = g.C.Moments.gives in
    are_served t gives (are_exchanges t gives) c.clients_hear_their_own.ensures (are_written t gives)
