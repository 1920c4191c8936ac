use Rattle.std.proofs.Common.{refl, subst}
use Rattle.chain.specs.Backends.{in_use}
use Rattle.service.specs.Openings.{run_meaning, HasLed}
use Rattle.service.specs.Seen.{Whole, seen}
use Rattle.store.specs.StoreLaws.{store_meaning}
use Rattle.polling.specs.Courses.{IsSince}
use Rattle.polling.specs.Laws.{empty_hall}
use Rattle.commands.specs.Kept.{kept_meaning, renewal_seen}
use Rattle.commands.proofs.RenewLemmas.{found_live_used}
use Rattle.commands.proofs.store_serving.serve_kept.Goals as goal

pub returns-clause-served : goal.returns-clause-served
returns-clause-served g c =
    let served = c.serve_clients-served.ensures.served in
    record {
      serves = record {
        kept = c.serve_clients-served.new.ledgers;
        usable = c.may_be_called-2.ensures;
        served = served;
        course = λ live.
            let led =
            subst
            (HasLed (run_meaning (seen (kept_meaning (in_use store_meaning))))
            (IsSince (renewal_seen g.H.Home.opens)
            (empty_hall (Whole c.args.kept.now) c.args.moments.now c.args.peers.now) served.deeds
            served.last served.served))
            served.ledgers_left (served.course (renewal_seen g.H.Home.opens)
            (found_live_used c.args.kept.now c.may_be_called.ensures live)) in
            record { here = led.here; found = led.found };
      };
      kept = refl;
    }
