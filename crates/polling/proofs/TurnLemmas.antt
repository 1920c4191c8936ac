-- Turns, one after the other, as serving.
use Rattle.std.proofs.Common.{◌≡◌, ◌≤◌, refl, sym, subst, ℕ, ◌+◌, arith}
use Rattle.polling.specs.Peers.{Said}
use Rattle.polling.specs.Standing.{StandTold}
use Rattle.polling.specs.Serving.{Hall, Terms}
use Rattle.polling.specs.Seating.{Held, HoldsHall, LeadsAll, ServesAll}
use Rattle.polling.specs.declared.peers.Told.{Told}
use Rattle.polling.specs.Ending.{HasTurn, IsIdleNow, Turns, Start, Turn, most_turns, Ends, Long}
use Rattle.polling.specs.declared.peers.Told.TheVariants as told
use Rattle.polling.proofs.AllLemmas.{nothing_done, then_all, tells_all}
use Rattle.polling.proofs.ToldLemmas.{told_all}

module _ {S C P : Type 0} {r : Terms S C P} where
  pub turn_serves :
      (old new : Held S C P) (replies : ℕ) → HasTurn r old new replies → ServesAll r old new replies
  turn_serves old new replies turn =
      let before = turn.before in
      then_all r old before new 0 replies replies (omega arith) turn.first
      (told_all before new turn.told turn.peers replies turn.said turn.served)

  pub turns_serve :
      {first last : Held S C P} {turns replies : ℕ} → Turns S C P r first turns replies last →
      ServesAll r first last replies
  turns_serve Start = nothing_done
  turns_serve {first} (Turn count so_far mid more next before turn) =
      then_all r first mid next so_far more (so_far + more) refl (turns_serve before)
      (turn_serves mid next more turn)

  pub next_turn :
      {first old new : Held S C P} {turns replies more all : ℕ} →
      Turns S C P r first turns replies old → HasTurn r old new more → all ≡ replies + more →
      Turns S C P r first (turns + 1) all new
  next_turn {first} {old} {new} {turns} {replies} {more} before turn sum =
      subst (λ (n : ℕ). Turns S C P r first (turns + 1) n new) (sym sum)
      (Turn turns replies old more new before turn)

  pub all_turns :
      {old new : Held S C P} {turns replies : ℕ} → turns ≤ most_turns → most_turns ≤ turns →
      Turns S C P r old turns replies new → Turns S C P r old most_turns replies new
  all_turns {old} {new} {turns} {replies} within beyond all =
      subst (λ (n : ℕ). Turns S C P r old n replies new)
      (let is : turns ≡ most_turns = grind arith in is) all

  pub too_long :
      {is_enough : Type 0} {old new : Held S C P} {turns replies : ℕ} → turns ≤ most_turns →
      most_turns ≤ turns → Turns S C P r old turns replies new →
      Ends S C P r is_enough old new replies
  too_long within beyond all = Long (all_turns within beyond all)

  pub quiet_serves :
      {old new : Held S C P} {replies : ℕ} → IsIdleNow r old new replies → ServesAll r old new replies
  quiet_serves {old} {new} {replies} quiet =
      let before = quiet.before in
      subst (λ (now : Held S C P). ServesAll r old now replies) (sym quiet.same)
      (then_all r old before (record before { peers = new.peers }) replies 0 replies (omega arith)
      quiet.served
      (tells_all r before.ledgers before.moments before.peers new.peers before.seats before.next
      told.Nothing quiet.said))

  -- quiet behind what was done
  pub quiet_then :
      {first old new : Held S C P} {replies : ℕ} → ServesAll r first old replies →
      IsIdleNow r old new 0 → IsIdleNow r first new replies
  quiet_then {first} {old} {replies} served quiet = record {
    before = quiet.before;
    served = then_all r first old quiet.before replies 0 replies (omega arith) served quiet.served;
    said = quiet.said;
    same = quiet.same;
  }

  -- a turn before which nothing was done
  pub turn_told :
      {old new : Held S C P} {replies : ℕ} (told : Told) (peers : P) →
      r.does old.peers (Said old.next told) peers →
      ((first : Hall S C P) → HoldsHall (record old { peers = peers }) first →
      StandTold told first.stands → LeadsAll r first new replies) →
      HasTurn r old new replies
  turn_told {old} told peers said served =
      record {
        before = old;
        told = told;
        peers = peers;
        first = nothing_done;
        said = said;
        served = served;
      }
