use Rattle.std.proofs.Common.{arith, refl}
use Rattle.polling.specs.Ring.{numbers_of}
use Rattle.polling.specs.Standing.{A_turn, owing, turns_of}
use Rattle.polling.specs.declared.peers.Told.TheVariants.{Joined, Ready, Late, Nothing}
use Rattle.polling.proofs.AllLemmas.{beside, none_owed, puts_off_all, then_owed, unchanged}
use Rattle.polling.proofs.StandLemmas.{among_beside, among_first, among_turns}
use Rattle.polling.proofs.ToldLemmas.{as_told, told_beside}
use Rattle.polling.proofs.serving.serve_told.Goals as goal

pub returns-in-Joined : goal.returns-in-Joined
returns-in-Joined g c = record {
  serves = rw c.in-Joined.is
      (as_told Joined
      (beside (turns_of (numbers_of c.args.gathered.now.ring.waiting))
      (c.join.ensures c.args.ledgers.now c.args.moments.now)));
  few = omega arith;
}

pub returns-in-Gathered : goal.returns-in-Gathered
returns-in-Gathered g c = record {
  serves = rw c.in-Ready.is
      (as_told (Ready c.in-Ready.number)
      (unchanged c.place.ensures.same
      (among_first c.in-Ready.number (numbers_of c.args.gathered.now.ring.waiting) (numbers_of c.place.new.self.ring.waiting)
      (c.in-Gathered.ensures.gathers.gathered refl) c.place.ensures.gathers.kept)));
  few = omega arith;
}

pub returns-in-Later : goal.returns-in-Later
returns-in-Later g c = record {
  serves =
      let gathered = numbers_of c.args.gathered.now.ring.waiting in
      let placed = c.in-Later.ensures.placed in
      rw c.in-Ready.is
      (as_told (Ready c.in-Ready.number)
      (then_owed
      (beside (turns_of gathered)
      (puts_off_all placed.1 placed.2 c.again.ensures))
      (unchanged c.place.ensures.same
      (among_turns gathered (numbers_of c.place.new.self.ring.waiting) c.place.ensures.gathers.kept))
      refl));
  few = omega arith;
}

pub returns-in-Now : goal.returns-in-Now
returns-in-Now g c = record {
  serves =
      let gathered = numbers_of c.args.gathered.now.ring.waiting in
      let gathered_now = numbers_of c.place.new.self.ring.waiting in
      rw c.in-Ready.is
      (as_told (Ready c.in-Ready.number)
      (then_owed
      (unchanged c.place.ensures.same
      (among_beside (owing A_turn c.in-Ready.number) (turns_of gathered) (turns_of gathered_now)
      (among_turns gathered gathered_now c.place.ensures.gathers.kept)))
      (beside (turns_of gathered_now) c.serve_one.ensures.serves) (omega arith)));
  few = c.serve_one.ensures.few;
}

pub returns-in-Late : goal.returns-in-Late
returns-in-Late g c = record {
  serves = rw c.in-Late.is
      (told_beside (Late c.in-Late.number) (turns_of (numbers_of c.args.gathered.now.ring.waiting))
      (c.let_go.ensures c.args.ledgers.now c.args.moments.now));
  few = omega arith;
}

pub returns-in-Nothing : goal.returns-in-Nothing
returns-in-Nothing g c = record {
  serves = rw (c.in-Nothing.is, c.close.ensures) (as_told Nothing (none_owed (λ one found. found)));
  few = omega arith;
}
