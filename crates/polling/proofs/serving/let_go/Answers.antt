use Rattle.std.proofs.Common.{◌≡◌, refl, sym, ◌∙◌}
use Rattle.service.specs.Seen.{Whole}
use Rattle.polling.specs.Serving.{rules}
use Rattle.polling.specs.Standing.{A_seat, An_end}
use Rattle.polling.specs.Seating.{seats_in}
use Rattle.polling.proofs.AllLemmas.{had_none}
use Rattle.polling.proofs.CloseLemmas.{late_at}
use Rattle.polling.proofs.serving.let_go.Goals as goal

pub returns-then-unseat : goal.returns-then-unseat
returns-then-unseat g c ledgers moments =
    let r = rules g.L.Ledgers.means g.C.Moments.gives g.H.Steward.renews g.H.Steward.waits g.P.Peers.does in
    let was = c.if-unseat.ensures.was refl in
    late_at r c.args.number (Whole ledgers) moments c.args.peers.now c.close.new.self
    (seats_in c.args.seats.now.clients) (seats_in c.unseat.new.clients) c.args.seats.now.next was.0
    was.1 c.unseat.ensures.now c.close.ensures

pub returns-else-unseat : goal.returns-else-unseat
returns-else-unseat g c ledgers moments first keeps late =
    let r = rules g.L.Ledgers.means g.C.Moments.gives g.H.Steward.renews g.H.Steward.waits g.P.Peers.does in
    let same = c.if-unseat.ensures.none refl in
    had_none r An_end c.args.number (Whole ledgers) (Whole ledgers) moments moments c.args.peers.now
    c.args.peers.now (seats_in c.args.seats.now.clients) (seats_in c.unseat.new.clients)
    c.args.seats.now.next (λ (is : An_end ≡ A_seat). cc)
    (record {
      nobody = sym (same c.args.number) ∙ c.unseat.ensures.now.0;
      ledgers_same = refl;
      moments_same = refl;
      peers_same = refl;
      seats_same = same;
    })
    first keeps
