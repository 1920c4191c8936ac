use Rattle.service.specs.Seen.{ledgers_seen}
use Rattle.polling.specs.Serving.{rules}
use Rattle.polling.proofs.CallLemmas.{run_of_calls, step_follows}
use Rattle.polling.proofs.laws.serving_is_a_run_of_calls.Goals as goal

pub returns-clause-each : goal.returns-clause-each
returns-clause-each g c =
    step_follows (rules g.L.Ledgers.means g.C.Moments.gives g.H.Steward.renews g.H.Steward.waits g.P.Peers.does)
    (λ a. g.met.L.Ledgers.stays (ledgers_seen a))

pub returns-clause-all : goal.returns-clause-all
returns-clause-all g c =
    run_of_calls (rules g.L.Ledgers.means g.C.Moments.gives g.H.Steward.renews g.H.Steward.waits g.P.Peers.does)
    (λ a. g.met.L.Ledgers.stays (ledgers_seen a))
    (λ a b c first second.
    g.met.L.Ledgers.then (ledgers_seen a) (ledgers_seen b) (ledgers_seen c) first second)
