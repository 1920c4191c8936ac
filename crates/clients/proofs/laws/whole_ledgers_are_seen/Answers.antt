use Rattle.clients.proofs.SeenLemmas.{are_seen}
use Rattle.clients.proofs.laws.whole_ledgers_are_seen.Goals as goal

pub returns : goal.returns
returns g c = are_seen g.L.Ledgers.means g.C.Moments.gives
