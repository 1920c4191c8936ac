use Rattle.std.proofs.Common.{refl}
use Rattle.service.specs.Seen.{Whole}
use Rattle.polling.specs.Serving.{rules}
use Rattle.polling.specs.Seating.{seats_in}
use Rattle.polling.proofs.AllLemmas.{then_owed, passed_over}
use Rattle.polling.proofs.SeatLemmas.{closes_next, joined}
use Rattle.polling.proofs.serving.join.Goals as goal

pub returns-then-number : goal.returns-then-number
returns-then-number g c ledgers moments =
    let r = rules g.L.Ledgers.means g.C.Moments.gives g.H.Steward.renews g.H.Steward.waits g.P.Peers.does in
    closes_next r (Whole ledgers) moments c.args.peers.now c.close.new.self
    (seats_in c.args.seats.now.clients) c.args.seats.now.next c.close.ensures

pub returns-in-Ok : goal.returns-in-Ok
returns-in-Ok g c ledgers moments =
    let r = rules g.L.Ledgers.means g.C.Moments.gives g.H.Steward.renews g.H.Steward.waits g.P.Peers.does in
    joined r (Whole ledgers) moments c.args.peers.now (seats_in c.args.seats.now.clients)
    (seats_in c.seat.new.clients) c.args.seats.now.next c.in-Ok.ensures.ok

pub returns-in-Err : goal.returns-in-Err
returns-in-Err g c ledgers moments =
    let r = rules g.L.Ledgers.means g.C.Moments.gives g.H.Steward.renews g.H.Steward.waits g.P.Peers.does in
    let next = c.args.seats.now.next in
    let seats = seats_in c.args.seats.now.clients in
    let seats_now = seats_in c.seat.new.clients in
    then_owed
    (closes_next r (Whole ledgers) moments c.args.peers.now c.close-in-Err.new.self seats next
    c.close-in-Err.ensures)
    (passed_over r (Whole ledgers) moments c.close-in-Err.new.self seats seats_now next
    c.in-Err.ensures.err)
    refl
