use Rattle.std.proofs.Common.{◌≡◌, sym, subst, ◌∙◌, Some, rules, List, ℕ}
use Rattle.clients.specs.Talk.{Talk}
use Rattle.clients.specs.Within.{IsRepliedTo}
use Rattle.polling.specs.Peers.{Handed}
use Rattle.polling.specs.Seating.{SeatsNow, seats_in}
use Rattle.polling.proofs.putting.hand_one.Goals as goal

pub returns-in-Some : goal.returns-in-Some
returns-in-Some g c talk seated =
    let client = c.in-Some.client.now in
    let here : seats_in c.args.clients.now c.args.member.number ≡ Some client = search rules in
    let both = sym here ∙ seated in
    let same : client ≡ talk = cc in (
      c.put_reply.new.self,
      subst
          (λ (before : Talk).
          IsRepliedTo c.args.member.size c.args.reply before c.put_reply.new.self)
          same c.put_reply.ensures,
      (let now :
          SeatsNow c.args.member.number (Some c.put_reply.new.self) (seats_in c.args.clients.now)
          (seats_in (c.get_mut.follows.lender c.put_reply.new.self)) =
          search rules in now),
      subst
          (λ (bytes : List ℕ).
          g.P.Peers.does c.args.peers.now (Handed c.args.member.number bytes) c.answered.new.self)
          c.unsent.ensures c.answered.ensures,
    )
