use Rattle.std.proofs.Common.{◌≡◌, true, false, arith, refl, rules}
use Rattle.std.proofs.lemmas.Bool.{false≢true}
use Rattle.service.specs.Seen.{Whole}
use Rattle.polling.specs.Serving.{rules as terms}
use Rattle.polling.specs.Seating.{count_of, seats_in}
use Rattle.polling.specs.Standing.{A_seat, A_turn}
use Rattle.polling.proofs.AllLemmas.{had_none, owed_for}
use Rattle.polling.proofs.FinishLemmas.{one_at_most}
use Rattle.polling.proofs.serving.serve_one.Goals as goal

pub returns-in-Some : goal.returns-in-Some
returns-in-Some g c =
    let turn = c.turn-turned in
    let replied = turn.result.replied in record {
      serves =
          rw c.replies.ensures
          (owed_for
          (c.follow.ensures.followed (Whole c.args.ledgers.now) (Whole turn.new.ledgers)
          c.args.moments.now turn.new.moments c.args.peers.now (seats_in c.args.seats.now.clients)
          c.args.seats.now.next false (count_of replied)
          (record {
            talk = c.in-Some.client.now;
            talk_now = turn.new.client;
            was = search rules;
            now = search rules;
            served = turn.ensures;
          }))
          (λ (never : false ≡ true). false≢true never));
      few =
          rw c.replies.ensures (one_at_most replied);
    }

pub returns-in-None : goal.returns-in-None
returns-in-None g c = record {
  serves =
      let r = terms g.L.Ledgers.means g.C.Moments.gives g.H.Steward.renews g.H.Steward.waits g.P.Peers.does in
      had_none r A_turn c.args.number (Whole c.args.ledgers.now) (Whole c.args.ledgers.now)
      c.args.moments.now c.args.moments.now c.args.peers.now c.args.peers.now
      (seats_in c.args.seats.now.clients) _ c.args.seats.now.next
      (λ (is : A_turn ≡ A_seat). cc)
      (record { nobody = search rules; ledgers_same = refl; moments_same = refl; peers_same = refl; seats_same = search rules });
  few =
      omega arith;
}
