use Rattle.std.proofs.Common.{◌≡◌, Ok, Err, sym, ap, ◌∙◌}
use Rattle.ledger_sql.specs.Frames.{Live}
use Rattle.stored_ledgers.specs.Outcomes.{IsBatchTimed}
use Rattle.stored_ledgers.specs.Resting.{CanServe}
use Rattle.stored_ledgers.proofs.OutcomeLemmas.{after_batch, keeps_all, keeps_tables}
use Rattle.stored_ledgers.proofs.ServingLemmas.{serves_after, told_made, told_refused, unless_refused, no_fault}
use Rattle.stored_ledgers.proofs.batches.in_batch.Goals as goal

-- what is told of work that was done
told : (g : _) (c : goal.After-forget g) → Live (g.T.LedgerTables.state c.in_transaction.new.tables)
    → IsBatchTimed (g.W.Work.gives c.args.work) c.args.digest.now (g.T.LedgerTables.state c.args.tables.now).now
    (g.T.LedgerTables.state c.in_transaction.new.tables).now c.in-Ok-Ok.worked.output c.in-Ok-Ok.worked.past
    × CanServe c.in_transaction.new.memory (g.T.LedgerTables.state c.in_transaction.new.tables).now
told g c live =
    told_made c.in_transaction.result _ _ _ (c.in-Ok-Ok.is ∙ ap Ok c.in-Ok-Ok.field-0-is)
    (c.in_transaction.ensures.told live)

pub returns-in-Ok-Ok-clause-run : goal.returns-in-Ok-Ok-clause-run
returns-in-Ok-Ok-clause-run g c live = (told g c live).0.batch.done

pub returns-in-Ok-Ok-clause-tables : goal.returns-in-Ok-Ok-clause-tables
returns-in-Ok-Ok-clause-tables g c live = (told g c live).0.batch.keeps

pub returns-in-Ok-Ok-clause-serves : goal.returns-in-Ok-Ok-clause-serves
returns-in-Ok-Ok-clause-serves g c = record {
  resting = λ live.
      let made = told g c live in record {
        quiet = c.in_transaction.ensures.quiet live;
        ledgers = made.1.ledgers;
        covered = c.forget.ensures _ made.0.behind made.1.covered;
      };
  is_open = λ clean differs.
      c.in_transaction.ensures.open clean (no_fault c.in_transaction.result _ c.in-Ok-Ok.is);
}

pub returns-in-Ok-Ok-clause-survives : goal.returns-in-Ok-Ok-clause-survives
returns-in-Ok-Ok-clause-survives g c =
    after_batch (g.W.Work.gives c.args.work) c.args.digest.now _ _ c.in_transaction.ensures.survives

-- nothing has changed where no tenant has the digest
pub returns-in-Ok-Err-clause-run : goal.returns-in-Ok-Err-clause-run
returns-in-Ok-Err-clause-run g c live =
    let is : c.in_transaction.result ≡ Ok (Err c.in-Ok-Err.unknown) =
    c.in-Ok-Err.is ∙ ap Ok c.in-Ok-Err.field-0-is in (
      told_refused c.in_transaction.result _ _ _ is (c.in_transaction.ensures.told live),
      keeps_all _ _ (unless_refused c.in_transaction.result _ _ is (c.in_transaction.ensures.same live)),
    )

pub returns-in-Ok-Err-clause-tables : goal.returns-in-Ok-Err-clause-tables
returns-in-Ok-Err-clause-tables g c live =
    keeps_tables _ _ (unless_refused c.in_transaction.result _ _ (c.in-Ok-Err.is ∙ ap Ok c.in-Ok-Err.field-0-is)
    (c.in_transaction.ensures.same live))

pub returns-in-Ok-Err-clause-serves : goal.returns-in-Ok-Err-clause-serves
returns-in-Ok-Err-clause-serves g c =
    let did = c.in_transaction.ensures in
    serves_after c.in_transaction.result _ _ _ _ _ _ (λ failed. absurd (let both = sym c.in-Ok-Err.is ∙ failed in cc))
    did.told did.again did.same did.quiet did.open

pub returns-in-Ok-Err-clause-survives : goal.returns-in-Ok-Err-clause-survives
returns-in-Ok-Err-clause-survives g c =
    after_batch (g.W.Work.gives c.args.work) c.args.digest.now _ _ c.in_transaction.ensures.survives

-- nor where it failed
pub returns-in-Err : goal.returns-in-Err
returns-in-Err g c =
    let did = c.in_transaction.ensures in record {
      run = λ live. keeps_all _ _ (c.in-Err.ensures.same live);
      tables = λ live. keeps_tables _ _ (c.in-Err.ensures.same live);
      serves = serves_after c.in_transaction.result _ _ _ _ _ _ (λ failed. let both = sym c.in-Err.is ∙ failed in cc)
          did.told did.again did.same did.quiet did.open;
      survives = after_batch (g.W.Work.gives c.args.work) c.args.digest.now _ _ did.survives;
    }
