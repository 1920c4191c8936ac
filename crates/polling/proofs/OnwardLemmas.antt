-- Serving behind what was done, and how often peers tell something in it.
use Rattle.std.proofs.Common.{◌≡◌, ◌⊎◌, ◌≤◌, ◌<◌, ◌+◌, inl, inr, refl, sym, subst, ℕ, List, [], ◌++◌, append_assoc, arith}
use Rattle.std.proofs.lemmas.List.{append-nil}
use Rattle.clients.specs.Deeds.{Act}
use Rattle.polling.specs.Peers.{Said}
use Rattle.polling.specs.Standing.{owing, stands_behind, KeepsOnly}
use Rattle.polling.specs.declared.peers.Told.{Told}
use Rattle.polling.specs.declared.peers.Told.TheVariants as told
use Rattle.polling.specs.Serving.{Hall, Terms, Tells, Proceeds, Begin, Then, tellings, tellings_of}
use Rattle.polling.specs.Seating.{Held, HoldsHall, LeadsAll, ServesAll, replies_in}
use Rattle.polling.specs.Ending.{HasTurn, IsIdleNow, Turns, Start, Turn, most_turns, GivesTurns, Ends, Enough, Quiet, Long}
use Rattle.polling.specs.Laws.{ServedOn, OwesNobody}
use Rattle.polling.proofs.OneLemmas.{replies_both}
use Rattle.polling.proofs.StandLemmas.{told_stand, none_in}
use Rattle.polling.proofs.GoingLemmas.{stand_told}
use Rattle.polling.proofs.AllLemmas.{keeps_peers, leads_all, next_free}
use Rattle.polling.proofs.ToldLemmas.{hall_told, keeps_hall}
use Rattle.polling.proofs.TurnLemmas.{turns_serve}

module _ {S C P : Type 0} (r : Terms S C P) where
  -- what follows, behind what was done
  both_told :
      (first mid last : Hall S C P) (before more : List Act) (did : Proceeds S C P r first before mid)
      (does : Proceeds S C P r mid more last) →
      (all : Proceeds S C P r first (before ++ more) last) × (tellings all ≡ tellings did + tellings does)
  both_told first mid last before more did Begin =
      subst
      (λ (deeds : List Act).
      (all : Proceeds S C P r first deeds mid) × (tellings all ≡ tellings did + 0))
      (sym (append-nil before)) (did, omega arith)
  both_told first mid last before more did (Then deeds between behind next rest happens) =
      let so_far = both_told first mid between before deeds did rest in
      subst
      (λ (each : List Act).
      (all : Proceeds S C P r first each next)
      × (tellings all ≡ tellings did + (tellings rest + tellings_of happens)))
      (append_assoc before deeds behind)
      (Then (before ++ deeds) between behind next so_far.0 happens, omega (arith, so_far.1))

  -- so too, by what a hall leads to
  abbrev led_on :
      (first mid : Hall S C P) (before : List Act) (served : Proceeds S C P r first before mid)
      (new : Held S C P) (replies : ℕ) → LeadsAll r mid new replies → ServedOn served new replies 0
  led_on first mid before served new replies did =
      let both = both_told first mid did.1 before did.0 served did.2 in
      record {
        deeds = before ++ did.0;
        last = did.1;
        all = both.0;
        keeps = did.3;
        count =
            replies_both before did.0 (replies_in before) replies (replies_in before + replies) refl
            did.4 refl;
        told = omega (arith, both.1);
      }

  pub served_on :
      (first mid : Hall S C P) (before : List Act) (served : Proceeds S C P r first before mid)
      (old new : Held S C P) (replies : ℕ) → HoldsHall old mid → ServesAll r old new replies →
      ServedOn served new replies 0
  served_on first mid before served old new replies keeps serves =
      led_on first mid before served new replies (serves mid keeps)

  -- nobody is owed anything behind turns that are given
  pub gives_on :
      (first mid : Hall S C P) (before : List Act) (served : Proceeds S C P r first before mid)
      (old new : Held S C P) (replies most : ℕ) → HoldsHall old mid → OwesNobody mid →
      GivesTurns S C P r most old new replies →
      ((on : ServedOn served new replies 0)
      × OwesNobody on.last
      × KeepsOnly (replies ≡ most) mid.stands on.last.stands)
      ⊎ Turns S C P r old most_turns replies new
  gives_on first mid before served old new replies most keeps nobody (inr turns) = inr turns
  gives_on first mid before served old new replies most keeps nobody (inl serves) =
      let did = serves mid keeps in
      inl (
        led_on first mid before served new replies
            (leads_all r (replies ≡ most) [] [] mid new replies did),
        λ client debt owed.
            elim (did.owes client debt owed).1 [
              | inl was ↦ nobody client debt was
              | inr found ↦ none_in (owing debt client) found
            ],
        did.spares,
      )

  -- one after the other
  then_on :
      (first mid : Hall S C P) (before : List Act) (served : Proceeds S C P r first before mid)
      (between new : Held S C P) (some more all : ℕ) (times others sum : ℕ) → some + more ≡ all →
      sum ≤ times + others → (one : ServedOn served between some times) →
      ServedOn one.all new more others → ServedOn served new all sum
  then_on first mid before served between new some more all times others sum are within one two =
      record {
        deeds = two.deeds;
        last = two.last;
        all = two.all;
        keeps = two.keeps;
        count = omega (arith, one.count, two.count);
        told = omega (arith, one.told, two.told);
      }

  -- peers tell something
  tells_on :
      (first mid : Hall S C P) (before : List Act) (served : Proceeds S C P r first before mid)
      (old : Held S C P) (told : Told) (peers : P) → HoldsHall old mid →
      r.does old.peers (Said old.next told) peers →
      ServedOn served (record old { peers = peers }) 0 1
  tells_on first mid before served old told peers keeps said = record {
    deeds = before ++ [];
    last = record mid { peers = peers; stands = stands_behind (Said old.next told) mid.stands };
    all =
        Then before mid []
        (record mid { peers = peers; stands = stands_behind (Said old.next told) mid.stands }) served
        (Tells old.next told peers (next_free old mid keeps)
        (subst (λ (p : P). r.does p (Said old.next told) peers) (sym keeps.peers) said));
    keeps =
        keeps_peers old mid peers (stands_behind (Said old.next told) mid.stands)
        (told_stand old.next told old.seats mid.stands keeps.stands) keeps;
    count = replies_both before [] (replies_in before) 0 (replies_in before + 0) refl refl refl;
    told = omega arith;
  }

  quiet_on :
      (first mid : Hall S C P) (before : List Act) (served : Proceeds S C P r first before mid)
      (old new : Held S C P) (replies : ℕ) → HoldsHall old mid → IsIdleNow r old new replies →
      ServedOn served new replies 1
  quiet_on first mid before served old new replies keeps quiet =
      let one = served_on first mid before served old quiet.before replies keeps quiet.served in
      let two =
      tells_on first one.last one.deeds one.all quiet.before told.Nothing new.peers one.keeps
      quiet.said in
      subst (λ (now : Held S C P). ServedOn served now replies 1) (sym quiet.same)
      (then_on first mid before served quiet.before (record quiet.before { peers = new.peers })
      replies 0 replies 0 1 1 (omega arith) (omega arith) one two)

  turn_on :
      (first mid : Hall S C P) (before : List Act) (served : Proceeds S C P r first before mid)
      (old new : Held S C P) (replies : ℕ) → HoldsHall old mid → HasTurn r old new replies →
      ServedOn served new replies 1
  turn_on first mid before served old new replies keeps turn =
      let one = served_on first mid before served old turn.before 0 keeps turn.first in
      let fresh = turn.before.next in
      let told = turn.told in
      let after = hall_told fresh told turn.peers one.last in
      let said : Proceeds S C P r first (one.deeds ++ []) after =
      Then one.deeds one.last [] after one.all
      (Tells fresh told turn.peers (next_free turn.before one.last one.keeps)
      (subst (λ (p : P). r.does p (Said fresh told) turn.peers) (sym one.keeps.peers) turn.said)) in
      let did =
      turn.served after (keeps_hall turn.before told turn.peers one.last one.keeps)
      (stand_told fresh told one.last.stands) in
      let both = both_told first after did.1 (one.deeds ++ []) did.0 said did.2 in
      record {
        deeds = (one.deeds ++ []) ++ did.0;
        last = did.1;
        all = both.0;
        keeps = did.3;
        count =
            replies_both (one.deeds ++ []) did.0 (replies_in before + 0) replies
            (replies_in before + replies)
            (replies_both one.deeds [] (replies_in before + 0) 0 (replies_in before + 0) one.count
            refl (omega arith))
            did.4 (omega arith);
        told = omega (arith, one.told, both.1);
      }

  turns_on :
      (first mid : Hall S C P) (before : List Act) (served : Proceeds S C P r first before mid)
      (old new : Held S C P) (turns replies : ℕ) → 0 < turns → HoldsHall old mid →
      Turns S C P r old turns replies new → ServedOn served new replies 1
  turns_on first mid before served old new turns replies some keeps Start = absurd (omega arith)
  turns_on first mid before served old new turns replies some keeps
      (Turn count so_far between more next rest turn) =
      let one =
      served_on first mid before served old between so_far keeps
      (turns_serve rest) in
      then_on first mid before served between next so_far more (so_far + more) 0 1 1 refl (omega arith)
      one
      (turn_on first one.last one.deeds one.all between next more one.keeps turn)

  pub ends_told :
      (first mid : Hall S C P) (before : List Act) (served : Proceeds S C P r first before mid)
      (old new : Held S C P) (replies : ℕ) → HoldsHall old mid → Ends S C P r ⊥ old new replies →
      ServedOn served new replies 1
  ends_told first mid before served old new replies keeps (Enough never) = absurd never
  ends_told first mid before served old new replies keeps (Quiet quiet) =
      quiet_on first mid before served old new replies keeps quiet
  ends_told first mid before served old new replies keeps (Long turns) =
      turns_on first mid before served old new most_turns replies (omega arith) keeps turns
