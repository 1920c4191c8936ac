use Rattle.stored_tables.specs.BatchLaws.{live_before}
use Rattle.stored_ledgers.proofs.RoundLemmas.{begun_round}
use Rattle.stored_ledgers.proofs.WorkLemmas.{told_serving, open_here}
use Rattle.stored_ledgers.proofs.batches.TenantBatchChange.run.Goals as goal

pub work_here-requires : goal.work_here-requires
work_here-requires g c clean = begun_round c.args.due.now _ (c.requires clean)

pub returns-clause-told : goal.returns-clause-told
returns-clause-told g c live =
    told_serving c.work_here.result _ _ _ _ _ (λ unknown told. told.0) (c.work_here.ensures.told live)
    (c.work_here.ensures.here live.0)

pub returns-clause-again : goal.returns-clause-again
returns-clause-again g c live =
    let needs = (c.requires (live_before _ _ c.work_here.ensures.follows.calls live).0).needs in record {
      ledgers = needs.ledgers;
      covered = c.work_here.ensures.grows _ needs.covered;
    }

pub returns-clause-open : goal.returns-clause-open
returns-clause-open g c clean = open_here c.work_here.result _ _ (c.work_here.ensures.here clean)
