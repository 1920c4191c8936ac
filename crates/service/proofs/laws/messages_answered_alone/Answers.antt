use Rattle.service.proofs.Isolation.{alone}
use Rattle.service.proofs.laws.messages_answered_alone.Goals as goal

pub returns : goal.returns
returns c old new unread message left moment reply begins responds =
    alone c.meanings_are_unique.ensures.head old new unread message moment reply
    (c.messages_stand_alone.ensures unread message left begins) responds
