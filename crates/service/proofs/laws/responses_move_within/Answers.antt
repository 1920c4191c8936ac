use Rattle.service.specs.Seen.{seen, ledgers_seen}
use Rattle.service.proofs.MovingLemmas.{responses_move}
use Rattle.service.proofs.laws.responses_move_within.Goals as goal

pub returns : goal.returns
returns g c =
    responses_move (seen g.L.Ledgers.means) c.meanings_are_unique.ensures.head
    (λ old new. g.met.L.Ledgers.lived (ledgers_seen old) (ledgers_seen new))
