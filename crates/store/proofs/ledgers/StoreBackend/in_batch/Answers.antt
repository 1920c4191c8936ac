use Rattle.std.proofs.lemmas.Bool.{not-true}
use Rattle.stored_ledgers.specs.Outcomes.{IsAfterBatch}
use Rattle.store.proofs.FindsLemmas.{finds_batch, found_tables}
use Rattle.store.proofs.ledgers.StoreBackend.in_batch.Goals as goal

pub returns-clause-batch : goal.returns-clause-batch
returns-clause-batch g c = record {
  run = c.in_batch.ensures.run;
  failed = λ failed. (c.in_batch.ensures.answers.refuses (not-true _ failed)).0;
  finds = finds_batch (g.W.Work.gives c.args.work) c.args.digest.now c.args.self.now c.in_batch.new.self
      c.requires c.in_batch.ensures.answers.follows c.in_batch.ensures.finds c.in_batch.result
      (λ shut. (c.in_batch.ensures.answers.refuses shut).1) c.in_batch.ensures.answers.open_yet;
  follows = record {
    follows = c.in_batch.ensures.answers.follows;
    shut = λ shut. (c.in_batch.ensures.answers.refuses shut).1;
    tables = c.in_batch.ensures.tables;
    found = found_tables c.args.self.now c.in_batch.new.self c.is_settled.ensures c.requires
        c.in_batch.ensures.answers.follows (λ shut. (c.in_batch.ensures.answers.refuses shut).1)
        (IsAfterBatch (g.W.Work.gives c.args.work) c.args.digest.now) (λ was db after. after.keeps)
        c.in_batch.ensures.finds;
  };
}
