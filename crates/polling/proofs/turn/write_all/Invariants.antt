use Rattle.std.proofs.Common.{◌≡◌, ◌⊎◌, Bool, false}
use Rattle.service.specs.Seen.{SeenAt}
use Rattle.polling.specs.Serving.{rules}
use Rattle.polling.proofs.OneLemmas.{Stays}
use Rattle.polling.proofs.turn.write_all.Given as goal

-- The client was served by the writes so far: something was written, or there were none.
abbrev pub invariant-loop : goal.invariant-loop
invariant-loop g l =
    (idle : Bool)
    × ((idle ≡ false) ⊎ ((l.counter ≡ 0) × (l.client ≡ l.fn.client)))
    × (l.client.rest ≡ l.fn.client.rest)
    × ((ledgers : SeenAt g.row.L.Denot) (moments : g.row.C.Denot)
    → Stays (rules g.L.Ledgers.means g.C.Moments.gives g.H.Steward.renews g.H.Steward.waits g.P.Peers.does)
    l.number ledgers moments l.fn.peers l.fn.client ledgers moments l.peers l.client idle 0)
