use Rattle.std.proofs.Common.{arith}
use Rattle.polling.proofs.ChosenLemmas.{takes_none, takes_more, few_added}
use Rattle.polling.proofs.gathering.Gathered.take_turns.Goals as goal

pub loop-taken-init : goal.loop-taken-init
loop-taken-init c =
    let none = c.new-chosen.ensures in
    record {
      takes = takes_none c.args.self.now.ring c.new-chosen.result none.others none.batches;
      others = rw none.others (omega arith);
      batches = rw none.batches (omega arith);
    }

pub loop-taken-preserved : goal.loop-taken-preserved
loop-taken-preserved c =
    let loop = c.loop-taken in
    let few =
    few_added c.in-Some.waiting loop.chosen c.add.new.self loop.taken c.add.ensures
    loop.invariant.others loop.invariant.batches in
    record {
      takes =
          takes_more c.args.self.now.ring loop.self.ring c.turn.new.self loop.chosen c.add.new.self
          c.in-Some.waiting loop.invariant.takes c.in-Some.ensures.some c.add.ensures;
      others = few.0;
      batches = few.1;
    }
