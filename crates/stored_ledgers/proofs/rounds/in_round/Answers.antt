use Rattle.std.proofs.Common.{◌≡◌, Ok, ap, sym, subst, ◌∙◌}
use Rattle.stored_ledgers.specs.Outcomes.{ArePast}
use Rattle.stored_ledgers.proofs.OutcomeLemmas.{keeps_tables}
use Rattle.stored_ledgers.proofs.RoundLemmas.{after_round}
use Rattle.stored_ledgers.proofs.ServingLemmas.{serves_after, told_made, no_fault}
use Rattle.stored_ledgers.proofs.rounds.in_round.Goals as goal

pub returns-in-Ok-Ok-clause-run : goal.returns-in-Ok-Ok-clause-run
returns-in-Ok-Ok-clause-run g c live =
    let is : c.in_transaction.result ≡ Ok (Ok c.in-Ok-Ok.done) =
    c.in-Ok-Ok.is ∙ ap Ok c.in-Ok-Ok.field-0-is in
    (told_made c.in_transaction.result _ _ _ is (c.in_transaction.ensures.told live)).0.done

pub returns-in-Ok-Ok-clause-tables : goal.returns-in-Ok-Ok-clause-tables
returns-in-Ok-Ok-clause-tables g c live =
    let is : c.in_transaction.result ≡ Ok (Ok c.in-Ok-Ok.done) =
    c.in-Ok-Ok.is ∙ ap Ok c.in-Ok-Ok.field-0-is in
    (told_made c.in_transaction.result _ _ _ is (c.in_transaction.ensures.told live)).0.keeps

pub returns-in-Ok-Ok-clause-serves : goal.returns-in-Ok-Ok-clause-serves
returns-in-Ok-Ok-clause-serves g c = record {
  resting = λ live.
      let is : c.in_transaction.result ≡ Ok (Ok c.in-Ok-Ok.done) =
      c.in-Ok-Ok.is ∙ ap Ok c.in-Ok-Ok.field-0-is in
      let new = g.T.LedgerTables.state c.in_transaction.new.tables in
      let told = told_made c.in_transaction.result _ _ _ is (c.in_transaction.ensures.told live) in record {
        quiet = c.in_transaction.ensures.quiet live;
        ledgers = told.1.ledgers;
        covered = c.forget_all.ensures _ (subst (λ pasts. ArePast pasts new.now.trees)
            (sym c.deref.ensures.value) told.0.past) told.1.covered;
      };
  is_open = λ clean differs.
      c.in_transaction.ensures.open clean (no_fault c.in_transaction.result _ c.in-Ok-Ok.is);
}

pub returns-in-Ok-Ok-clause-survives : goal.returns-in-Ok-Ok-clause-survives
returns-in-Ok-Ok-clause-survives g c =
    after_round (g.W.RoundWork.gives c.args.work) _ _ c.in_transaction.ensures.survives

pub returns-in-Err : goal.returns-in-Err
returns-in-Err g c =
    let did = c.in_transaction.ensures in record {
      run = λ live. tt;
      tables = λ live. keeps_tables _ _ (c.in-Err.ensures.same live);
      serves = serves_after c.in_transaction.result _ _ _ _ _ _ (λ failed. let both = sym c.in-Err.is ∙ failed in cc)
          did.told did.again did.same did.quiet did.open;
      same = λ live. c.in-Err.ensures.same live;
      survives = after_round (g.W.RoundWork.gives c.args.work) _ _ did.survives;
    }
