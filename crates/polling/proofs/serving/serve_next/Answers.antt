use Rattle.std.proofs.Common.{◌≡◌, ◌-◌, refl, subst, arith}
use Rattle.polling.specs.Peers.{Said}
use Rattle.polling.specs.Ring.{numbers_of}
use Rattle.polling.specs.Standing.{turns_of}
use Rattle.polling.specs.Seating.{held_by}
use Rattle.polling.specs.declared.peers.Told.{Told}
use Rattle.polling.specs.declared.peers.Told.TheVariants.{Nothing}
use Rattle.polling.proofs.AllLemmas.{beside, owed_for, serves_all, tells_owed, then_owed}
use Rattle.polling.proofs.AttendLemmas.{attended_all}
use Rattle.polling.proofs.ToldLemmas.{told_owed, told_then}
use Rattle.polling.proofs.serving.serve_next.Goals as goal

pub returns-then-is_over-clause-does : goal.returns-then-is_over-clause-does
returns-then-is_over-clause-does g c = record {
  before = held_by c.attend.new.ledgers c.attend.new.moments c.args.peers.now c.args.seats.now;
  served = serves_all (attended_all g.L.Ledgers.means g.C.Moments.gives g.H.Steward.renews g.H.Steward.waits
      g.P.Peers.does c.attend.ensures);
  said =
      subst
      (λ (told : Told).
      g.P.Peers.does c.args.peers.now (Said c.args.seats.now.next told) c.tell-told.new.peers)
      (c.if-is_over.ensures.over refl).0 c.tell-told.ensures;
  same =
      refl {
      a =
      held_by c.attend.new.ledgers c.attend.new.moments c.tell-told.new.peers
      c.args.seats.now
      };
}

pub returns-then-is_over-clause-turns : goal.returns-then-is_over-clause-turns
returns-then-is_over-clause-turns g c = record {
  serves =
      let said =
      subst
      (λ (told : Told).
      g.P.Peers.does c.args.peers.now (Said c.args.seats.now.next told) c.tell-told.new.peers)
      (c.if-is_over.ensures.over refl).0 c.tell-told.ensures in
      then_owed
      (beside (turns_of (numbers_of c.args.gathered.now.ring.waiting))
      (owed_for (attended_all g.L.Ledgers.means g.C.Moments.gives g.H.Steward.renews g.H.Steward.waits
      g.P.Peers.does c.attend.ensures) (λ never. absurd never)))
      (tells_owed Nothing said) refl;
  few =
      omega arith;
}

pub returns-then-is_over-clause-more : goal.returns-then-is_over-clause-more
returns-then-is_over-clause-more g c served = absurd (served refl)

pub returns-clause-does : goal.returns-clause-does
returns-clause-does g c = record {
  before = held_by c.attend.new.ledgers c.attend.new.moments c.args.peers.now c.args.seats.now;
  told = c.tell-told.result;
  peers = c.tell-told.new.peers;
  first = serves_all (attended_all g.L.Ledgers.means g.C.Moments.gives g.H.Steward.renews g.H.Steward.waits
      g.P.Peers.does c.attend.ensures);
  said = c.tell-told.ensures;
  served =
      told_then c.tell-told.result c.serve_told-replies.ensures.serves
      (serves_all c.serve_due-more.ensures.replies.serves) refl;
}

pub returns-clause-turns : goal.returns-clause-turns
returns-clause-turns g c =
    let few = c.serve_told-replies.ensures.few in
    let due = c.serve_due-more.ensures.replies.few in
    let some = c.requires in
    record {
      serves =
          then_owed
          (beside (turns_of (numbers_of c.args.gathered.now.ring.waiting))
          (owed_for (attended_all g.L.Ledgers.means g.C.Moments.gives g.H.Steward.renews g.H.Steward.waits
          g.P.Peers.does c.attend.ensures) (λ never. absurd never)))
          (then_owed
          (owed_for (told_owed c.tell-told.result c.tell-told.ensures c.serve_told-replies.ensures.serves)
          (λ never. absurd never))
          (owed_for c.serve_due-more.ensures.replies.serves
          (λ (all : c.serve_due-more.result ≡ c.args.most - c.serve_told-replies.result).
          omega (arith, all, few, some)))
          refl)
          (omega arith);
      few = omega (arith, few, due, some);
    }

pub returns-clause-more : goal.returns-clause-more
returns-clause-more g c served = record {
  told = c.tell-told.result;
  peers = c.tell-told.new.peers;
  said = c.tell-told.ensures;
  more = c.if-is_over.ensures.more refl;
}
