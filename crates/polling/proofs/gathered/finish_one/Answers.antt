use Rattle.std.proofs.Common.{arith, ◌≡◌, not, nat_lt, refl, rules}
use Rattle.service.specs.Seen.{Whole}
use Rattle.polling.specs.Serving.{rules as terms}
use Rattle.polling.specs.Seating.{count_of, held_by, seats_in}
use Rattle.polling.specs.Standing.{A_seat, A_turn}
use Rattle.polling.proofs.AllLemmas.{had_none, owed_for}
use Rattle.polling.proofs.FinishLemmas.{few_of, finished}
use Rattle.polling.proofs.gathered.finish_one.Goals as goal

pub returns-in-Some : goal.returns-in-Some
returns-in-Some g c =
    let turn = c.finish-turned in
    let replied = turn.result.replied in record {
      serves =
          let r = terms g.L.Ledgers.means g.C.Moments.gives g.H.Steward.renews g.H.Steward.waits g.P.Peers.does in
          rw c.replies.ensures
          (finished r c.args.number replied c.args.most
          (held_by c.args.ledgers.now c.args.moments.now c.args.peers.now c.args.seats.now)
          (held_by turn.new.ledgers turn.new.moments c.follow.new.peers
          (record c.args.seats.now { clients = c.follow.new.clients }))
          turn.ensures.few
          (c.follow.ensures.followed (Whole c.args.ledgers.now) (Whole turn.new.ledgers) c.args.moments.now
          turn.new.moments c.args.peers.now (seats_in c.args.seats.now.clients)
          c.args.seats.now.next (not (nat_lt 0 c.args.most)) (count_of replied)
          (record {
            talk = c.in-Some.client.now;
            talk_now = turn.new.client;
            was = search rules;
            now = search rules;
            served = turn.ensures.turn;
          })));
      few =
          rw c.replies.ensures (few_of replied c.args.most turn.ensures.few);
    }

pub returns-in-None : goal.returns-in-None
returns-in-None g c = record {
  serves =
      let r = terms g.L.Ledgers.means g.C.Moments.gives g.H.Steward.renews g.H.Steward.waits g.P.Peers.does in
      owed_for
      (had_none r A_turn c.args.number (Whole c.args.ledgers.now) (Whole c.args.ledgers.now)
      c.args.moments.now c.args.moments.now c.args.peers.now c.args.peers.now
      (seats_in c.args.seats.now.clients) _ c.args.seats.now.next
      (λ (is : A_turn ≡ A_seat). cc)
      (record { nobody = search rules; ledgers_same = refl; moments_same = refl; peers_same = refl; seats_same = search rules }))
      (λ never. absurd never);
  few =
      omega arith;
}
