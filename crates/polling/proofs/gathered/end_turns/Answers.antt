use Rattle.std.proofs.Common.{refl, ap, arith}
use Rattle.polling.specs.Ring.{numbers_of}
use Rattle.polling.specs.Standing.{turns_of}
use Rattle.polling.proofs.AllLemmas.{beside, none_owed, owed_for, then_owed, turns_as}
use Rattle.polling.proofs.gathered.end_turns.Goals as goal

pub loop-alloc-init : goal.loop-alloc-init
loop-alloc-init g c = none_owed (λ one found. found)

pub loop-alloc-preserved : goal.loop-alloc-preserved
loop-alloc-preserved g c =
    let few = c.finish_one.ensures.few in
    then_owed (turns_as c.let_go-number.ensures.first c.loop-alloc.invariant)
    (beside (turns_of (numbers_of c.let_go-number.new.self.ring.waiting))
    (owed_for c.finish_one.ensures.serves (λ is. tt)))
    (omega (arith, few))

pub returns-clause-owed : goal.returns-clause-owed
returns-clause-owed g c =
    turns_as (ap numbers_of (c.loop-alloc-test.ensures.none refl)) c.loop-alloc.invariant
