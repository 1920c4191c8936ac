use Rattle.std.proofs.Common.{◌≡◌, ap, refl, rules}
use Rattle.service.specs.Seen.{Whole}
use Rattle.polling.specs.Serving.{rules as terms}
use Rattle.polling.specs.Standing.{A_seat, A_turn}
use Rattle.polling.specs.Seating.{seats_in}
use Rattle.polling.proofs.AllLemmas.{had_none, serves_all}
use Rattle.polling.proofs.SeatLemmas.{left_all}
use Rattle.polling.proofs.finishing.write_one.Goals as goal

pub returns-in-Some : goal.returns-in-Some
returns-in-Some g c =
    λ moments. let r = terms g.L.Ledgers.means g.C.Moments.gives g.H.Steward.renews g.H.Steward.waits g.P.Peers.does in
    let step = c.write_left-step in
    let written = step.ensures in
    left_all r c.args.number written.0 written.1.0 step.result (Whole c.args.ledgers.now) (Whole step.new.ledgers) moments c.args.peers.now
    step.new.peers c.follow.new.peers (seats_in c.args.seats.now.clients)
    _ (seats_in c.follow.new.clients) c.args.seats.now.next
    written.1.1
    (record {
      talk = c.in-Some.client.now;
      talk_now = step.new.client;
      was = search rules;
      now = search rules;
      served = written.1.2 moments;
    })
    c.follow.ensures.followed
    (λ waits.
    let same = c.follow.ensures.waits waits in
    (same.0, ap seats_in same.1))

pub returns-in-None : goal.returns-in-None
returns-in-None g c =
    λ moments. let r = terms g.L.Ledgers.means g.C.Moments.gives g.H.Steward.renews g.H.Steward.waits g.P.Peers.does in
    serves_all
    (had_none r A_turn c.args.number (Whole c.args.ledgers.now) (Whole c.args.ledgers.now) moments moments c.args.peers.now
    c.args.peers.now (seats_in c.args.seats.now.clients) _
    c.args.seats.now.next (λ (is : A_turn ≡ A_seat). cc)
    (record { nobody = search rules; ledgers_same = refl; moments_same = refl; peers_same = refl; seats_same = search rules }))
