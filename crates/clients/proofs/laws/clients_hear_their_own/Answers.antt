use Rattle.clients.proofs.TurnLemmas.{hear_their_own}
use Rattle.clients.proofs.laws.clients_hear_their_own.Goals as goal

pub returns : goal.returns
returns g c = hear_their_own g.L.Ledgers.means g.C.Moments.gives
