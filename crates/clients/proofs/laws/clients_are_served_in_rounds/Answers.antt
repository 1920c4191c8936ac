use Rattle.service.specs.Seen.{seen}
use Rattle.clients.proofs.DeedLemmas.{may_come_before, are_exchanges}
use Rattle.clients.proofs.TurnLemmas.{hear_their_own}
use Rattle.clients.proofs.WritingLemmas.{are_written}
use Rattle.clients.proofs.laws.clients_are_served_in_rounds.Goals as goal

pub returns-clause-come : goal.returns-clause-come
returns-clause-come g c old new deed done later =
    may_come_before (seen g.L.Ledgers.means) g.C.Moments.gives old new deed later done

pub returns-clause-hear : goal.returns-clause-hear
returns-clause-hear g c = hear_their_own (seen g.L.Ledgers.means) g.C.Moments.gives

pub returns-clause-exchanges : goal.returns-clause-exchanges
returns-clause-exchanges g c = are_exchanges (seen g.L.Ledgers.means) g.C.Moments.gives

pub returns-clause-written : goal.returns-clause-written
returns-clause-written g c = are_written (seen g.L.Ledgers.means) g.C.Moments.gives
