use Rattle.chain.specs.Ledgers.{LeadsNowhere}
use Rattle.std.proofs.lemmas.Bool.{not-true}
use Rattle.store.proofs.FindsLemmas.{finds_known, found_unchanged, still_keeps}
use Rattle.store.proofs.ledgers.StoreBackend.knows.Goals as goal

pub returns-clause-knows : goal.returns-clause-knows
returns-clause-knows g c = record {
  value = c.knows.ensures.value;
  same = c.knows.ensures.reads.same;
  failed = λ failed. (c.knows.ensures.reads.answers.refuses (not-true _ failed)).0;
  finds =
      finds_known c.args.self.now c.knows.new.self c.knows.result LeadsNowhere c.knows.ensures.reads;
  follows = record {
    follows = c.knows.ensures.reads.answers.follows;
    shut = λ shut. (c.knows.ensures.reads.answers.refuses shut).1;
    tables = λ live. still_keeps c.args.self.now.place c.knows.new.self.place
        (c.knows.ensures.reads.unchanged live);
    found = found_unchanged c.args.self.now c.knows.new.self c.knows.result c.knows.ensures.reads;
  };
}
