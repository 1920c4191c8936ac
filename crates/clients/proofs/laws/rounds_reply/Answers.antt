use Rattle.service.specs.Seen.{seen}
use Rattle.clients.proofs.SeenLemmas.{answers_leave, replies_within, tells_unavailable}
use Rattle.clients.proofs.laws.rounds_reply.Goals as goal

pub returns-clause-leave : goal.returns-clause-leave
returns-clause-leave g c = answers_leave c.meanings_are_unique.ensures.head

pub returns-clause-reply : goal.returns-clause-reply
returns-clause-reply g c =
    replies_within g.L.Ledgers.means g.C.Moments.gives c.later_bytes_change_nothing.ensures.begins

pub returns-clause-unavailable : goal.returns-clause-unavailable
returns-clause-unavailable g c =
    tells_unavailable (seen g.L.Ledgers.means) g.C.Moments.gives
    c.later_bytes_change_nothing.ensures.begins
