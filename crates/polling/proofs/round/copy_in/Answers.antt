use Rattle.std.proofs.Common.{◌≡◌, ap, subst, ◌∙◌, List, [], ◌∷◌, ◌++◌, Some, rules}
use Rattle.service.specs.declared.turns.Message.{Message}
use Rattle.polling.specs.Seating.{seats_in}
use Rattle.polling.specs.Round.{IsNoneOf}
use Rattle.polling.specs.declared.round.Member.{Member}
use Rattle.polling.proofs.CopyLemmas.{gathered_more}
use Rattle.polling.proofs.round.copy_in.Goals as goal

pub returns-clause-gathered : goal.returns-clause-gathered
returns-clause-gathered g c seats first same before =
    let copied = c.in-Some-next_message.copied in
    let member : Member = record { number = c.args.number; size = copied.size } in
    let message : Message = record { bytes = copied.bytes; moment = c.moment-moment.result } in
    gathered_more g.C.Moments.gives seats (seats_in c.args.clients.now) first c.args.moments.now
    c.moment-moment.new.self c.args.round.now.members.items c.push_reserved.new.self.items
    c.args.round.now.messages.items c.push_reserved-2.new.self.items member message
    c.in-Some.client.now
    (c.push_reserved.ensures.items
    ∙ ap (λ (ms : List Member). ms ++ member ∷ []) c.makes_room.ensures.members)
    (c.push_reserved-2.ensures.items
    ∙ ap (λ (xs : List Message). xs ++ message ∷ []) c.makes_room.ensures.messages)
    same
    (let seated : seats_in c.args.clients.now c.args.number ≡ Some c.in-Some.client.now =
    search rules in seated)
    c.in-Some-next_message.ensures.copied
    (subst (IsNoneOf c.args.number) c.deref.ensures.value (c.is_among.ensures c.if-is_among.false))
    c.moment-moment.ensures before
