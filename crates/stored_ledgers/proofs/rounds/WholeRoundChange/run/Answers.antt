use Rattle.std.proofs.Common.{refl}
use Rattle.stored_tables.specs.BatchLaws.{live_before}
use Rattle.stored_ledgers.proofs.RoundLemmas.{begun_round, still_serves, none_past}
use Rattle.stored_ledgers.proofs.rounds.WholeRoundChange.run.Goals as goal

pub run_round-requires : goal.run_round-requires
run_round-requires g c none clean = (
  begun_round c.args.due.now _ (c.requires clean),
  none_past _ _ c.new-pasts.ensures.items,
)

pub returns-in_err-output-clause-again : goal.returns-in_err-output-clause-again
returns-in_err-output-clause-again g c live =
    let follows = c.in_err-output.ensures.follows.calls in
    still_serves _ _ _ c.in_err-output.ensures.grows
    (c.requires (live_before _ _ follows live).0).needs

pub returns-clause-told : goal.returns-clause-told
returns-clause-told g c live =
    let on = c.in_ok-output.ensures.goes_on refl live.0 in (
      record {
        keeps = (c.in_ok-output.ensures.follows.inside live on.0.mode).1;
        done = c.in_ok-output.ensures.given live;
        past = on.1;
      },
      on.0.serves,
    )

pub returns-clause-again : goal.returns-clause-again
returns-clause-again g c live =
    let follows = c.in_ok-output.ensures.follows.calls in
    still_serves _ _ _ c.in_ok-output.ensures.grows
    (c.requires (live_before _ _ follows live).0).needs

pub returns-clause-open : goal.returns-clause-open
returns-clause-open g c clean = (c.in_ok-output.ensures.goes_on refl clean).0.is_open
