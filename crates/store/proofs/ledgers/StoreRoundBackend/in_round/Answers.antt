use Rattle.std.proofs.lemmas.Bool.{not-true}
use Rattle.stored_ledgers.specs.Rounds.{IsAfterRound}
use Rattle.store.proofs.FindsLemmas.{finds_round, found_tables}
use Rattle.store.proofs.ledgers.StoreRoundBackend.in_round.Goals as goal

pub returns-clause-round : goal.returns-clause-round
returns-clause-round g c = record {
  run = c.in_round.ensures.run;
  same = c.in_round.ensures.same;
  failed = λ failed. (c.in_round.ensures.answers.refuses (not-true _ failed)).0;
  finds =
      finds_round (g.W.RoundWork.gives c.args.work) c.args.self.now c.in_round.new.self c.in_round.result
      c.requires c.in_round.ensures.answers c.in_round.ensures.finds;
  follows = record {
    follows = c.in_round.ensures.answers.follows;
    shut = λ shut. (c.in_round.ensures.answers.refuses shut).1;
    tables = c.in_round.ensures.tables;
    found = found_tables c.args.self.now c.in_round.new.self c.is_settled.ensures c.requires
        c.in_round.ensures.answers.follows (λ shut. (c.in_round.ensures.answers.refuses shut).1)
        (IsAfterRound (g.W.RoundWork.gives c.args.work)) (λ was db after. after.keeps)
        c.in_round.ensures.finds;
  };
}
