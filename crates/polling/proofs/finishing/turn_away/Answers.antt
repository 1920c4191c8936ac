use Rattle.std.proofs.Common.{refl}
use Rattle.service.specs.Seen.{Whole}
use Rattle.polling.specs.Serving.{rules}
use Rattle.polling.specs.Seating.{seats_in}
use Rattle.polling.proofs.AllLemmas.{then_owed, passed_over}
use Rattle.polling.proofs.SeatLemmas.{closes_next}
use Rattle.polling.proofs.finishing.turn_away.Goals as goal

pub returns-then-number : goal.returns-then-number
returns-then-number g c ledgers moments =
    let r = rules g.L.Ledgers.means g.C.Moments.gives g.H.Steward.renews g.H.Steward.waits g.P.Peers.does in
    closes_next r (Whole ledgers) moments c.args.peers.now c.close.new.self
    (seats_in c.args.seats.now.clients) c.args.seats.now.next c.close.ensures

pub returns : goal.returns
returns g c ledgers moments =
    let r = rules g.L.Ledgers.means g.C.Moments.gives g.H.Steward.renews g.H.Steward.waits g.P.Peers.does in
    let next = c.args.seats.now.next in
    let seats = seats_in c.args.seats.now.clients in
    then_owed
    (closes_next r (Whole ledgers) moments c.args.peers.now c.close.new.self seats next c.close.ensures)
    (passed_over r (Whole ledgers) moments c.close.new.self seats seats next (λ client. refl))
    refl
