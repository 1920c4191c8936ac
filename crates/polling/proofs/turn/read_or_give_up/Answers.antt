use Rattle.std.proofs.Common.{inl, inr, false, refl, ap, sym, subst, ◌∙◌, List, ℕ}
use Rattle.service.specs.Replies.{unavailable}
use Rattle.clients.specs.Talk.{Talk, given_up}
use Rattle.clients.specs.Answering.{IsReplyReady}
use Rattle.service.specs.Seen.{Whole}
use Rattle.polling.specs.Peers.{Handed}
use Rattle.polling.proofs.OneLemmas.{replied, stirred, unmoved}
use Rattle.polling.proofs.ThenLemmas.{then_one}
use Rattle.polling.proofs.turn.read_or_give_up.Goals as goal

pub returns-in-Ok : goal.returns-in-Ok
returns-in-Ok g c moments =
    then_one
    (unmoved (record { ledgers_same = refl; moments_same = refl; same = c.reserve_due.ensures.same }))
    (then_one {idle_all = false} (stirred c.wants.ensures)
    (c.read_some.ensures (Whole c.args.ledgers.now) moments) (λ none. inr refl) refl)
    (λ none. inr refl) refl

pub returns-in-Err : goal.returns-in-Err
returns-in-Err g c moments =
    then_one
    (replied c.requires.may
    (c.whole_ledgers_are_seen.ensures c.args.ledgers.now c.args.ledgers.now moments moments
    c.args.client.now c.give_up.new.self unavailable
    (subst
    (λ (now : Talk).
    IsReplyReady g.L.Ledgers.means g.C.Moments.gives c.args.ledgers.now moments c.args.client.now unavailable
    c.args.ledgers.now moments now)
    (ap given_up (sym c.reserve_due.ensures.same) ∙ sym c.give_up.ensures)
    (c.giving_up_replies.ensures c.args.ledgers.now moments c.args.client.now c.in-Err.ensures.due)))
    c.is_settled.ensures
    (subst
    (λ (bytes : List ℕ).
    g.P.Peers.does c.args.peers.now (Handed c.args.number bytes) c.answered.new.self)
    c.unsent.ensures c.answered.ensures))
    (c.write_all.ensures.serves (Whole c.args.ledgers.now) moments) (λ none. inl refl) refl
