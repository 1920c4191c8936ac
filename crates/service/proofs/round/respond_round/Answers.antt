use Rattle.service.proofs.TurnLemmas.{kept_moves, refused_moves}
use Rattle.service.proofs.round.respond_round.Goals as goal

pub returns-in-Ok-clause-moves : goal.returns-in-Ok-clause-moves
returns-in-Ok-clause-moves g c =
    kept_moves g.L.Ledgers.means c.args.ledgers.now c.in_round-round.new.self c.args.messages.now
    c.in-Ok.replies.items _ _ (λ same. cc)
    (rw c.in-Ok.is at c.in_round-round.ensures.run)
    (g.met.L.Ledgers.lived _ _ c.in_round-round.ensures.follows)
    (rw c.in-Ok.is at c.in_round-round.ensures.finds)
    c.is_settled.ensures

pub returns-in-Err-clause-moves : goal.returns-in-Err-clause-moves
returns-in-Err-clause-moves g c =
    refused_moves c.meanings_are_unique.ensures.head g.L.Ledgers.means c.args.ledgers.now
    c.in_round-round.new.self c.respond_each.new.ledgers c.args.messages.now
    c.respond_each.result.items (λ replies. replies.items) _
    c.in_round-round.ensures.finds
    (rw c.in-Err.is at c.in_round-round.ensures.same)
    c.respond_each.ensures.moves
    (g.met.L.Ledgers.lived _ _ c.in_round-round.ensures.follows)
