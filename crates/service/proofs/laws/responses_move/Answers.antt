use Rattle.service.proofs.MovingLemmas.{responses_move}
use Rattle.service.proofs.laws.responses_move.Goals as goal

pub returns : goal.returns
returns g c =
    responses_move g.L.Ledgers.means c.meanings_are_unique.ensures.head g.met.L.Ledgers.lived
