-- The moments of a course do not fall.
use Rattle.std.proofs.Common.{◌≡◌, ◌≤◌, ◌⊎◌, inl, inr, refl, sym, subst, ℕ, List, [], ◌∷◌, ◌++◌, Option, Some, None, arith}
use Rattle.ledger_http.specs.declared.reply.Reply.{Reply}
use Rattle.chain.specs.Ledgers.{LedgersMeaning, Tenants}
use Rattle.service.specs.Attending.{MayTry, Changes_key, Settles, Reads_part}
use Rattle.service.specs.Attending as attending
use Rattle.service.specs.Connections.{Connection, IsFirstAnswered, IsTurnedAway, LacksMemory}
use Rattle.service.specs.ConnectionEvents.{event_in}
use Rattle.service.specs.Courses.{Event, Ending}
use Rattle.service.specs.Courses as course
use Rattle.service.specs.Deeds as service
use Rattle.service.specs.InTurn.{Nothing, More}
use Rattle.service.specs.Openings.{RunMeaning, run_meaning}
use Rattle.service.specs.Rising.{GivesRising, Rise}
use Rattle.clients.specs.Deeds.{Room, Act, Came, Ended, Replied, Continued, Wrote, IsActed, Lives}
use Rattle.polling.specs.Serving.{Hall, Terms, Occurs, Did, Tells, Stirs, Puts_off, Joins, Goes, Again, Rests, Passes, Fails, Proceeds, Begin, Then}
use Rattle.polling.specs.Serving.{AreGiven, IsGiven, events_by, events_of}
use Rattle.polling.specs.Courses.{Renewed, Stayed, Opened, Anew, Refused, Tried, Rested, AreOfOpening}
use Rattle.polling.specs.Courses.{AreRenewals, AreOf, IsSince, Start, Onward, From, MomentsRise}

not_below : (n : ℕ) → n ≤ n
not_below n = omega arith

-- where there are no events
rise_none : (from to : ℕ) (events : List Event) → events ≡ [] → from ≤ to → Rise from events to
rise_none from to events are le = subst (λ (es : List Event). Rise from es to) (sym are) le

rise_later :
    (from mid to : ℕ) (events : List Event) → from ≤ mid → Rise mid events to → Rise from events to
rise_later from mid to [] le rise = omega arith
rise_later from mid to (event ∷ events) le rise =
    let begun = rise.1 in (rise.0, omega arith, rise.2, rise.3)

rise_on :
    (from mid to : ℕ) (events more : List Event) → Rise from events mid → Rise mid more to →
    Rise from (events ++ more) to
rise_on from mid to [] more first second = rise_later from mid to more first second
rise_on from mid to (event ∷ events) more first second =
    (first.0, first.1, first.2, rise_on first.0 mid to events more first.3 second)

rise_ends : (from to : ℕ) (events : List Event) → Rise from events to → from ≤ to
rise_ends from to [] rise = rise
rise_ends from to (event ∷ events) rise =
    let begun = rise.1 in let ended = rise_ends rise.0 to events rise.3 in omega arith

module _ {C : Type 0} (gives : C → ℕ → C → Type 0) (told : C → ℕ) (rising : GivesRising gives told) where
  same_moments : (old new : C) → new ≡ old → told old ≤ told new
  same_moments old new same =
      subst (λ (c : C). told old ≤ told c) (sym same) (not_below (told old))

  given_rises : (old : C) (given : Option ℕ) (new : C) → IsGiven gives old given new → told old ≤ told new
  given_rises old (Some moment) new given = (rising old moment new given).1
  given_rises old None new same = same_moments old new same

  all_rise : (first : C) (given : List ℕ) (last : C) → AreGiven gives first given last → told first ≤ told last
  all_rise first [] last same = same_moments first last same
  all_rise first (moment ∷ moments) last given =
      let one = (rising first moment given.0 given.1).1 in
      let more = all_rise given.0 moments last given.2 in
      omega arith

  exchange_rises :
      {S : Type 0} (t : LedgersMeaning S) (old new : Connection S C) (reply : Reply)
      (by :
      IsFirstAnswered t gives old reply new ⊎ (IsTurnedAway old reply new ⊎ LacksMemory old reply new)) →
      Rise (told old.moments) (event_in reply by) (told new.moments)
  exchange_rises t old new reply (inl answered) =
      let rises = rising old.moments answered.moment new.moments answered.given in
      let is = rises.0 in
      let later = rises.1 in
      (answered.moment, omega arith, refl, omega arith)
  exchange_rises t old new reply (inr (inl away)) = same_moments old.moments new.moments away.cut.moments
  exchange_rises t old new reply (inr (inr lacks)) = same_moments old.moments new.moments lacks.cut.moments

  deed_rises :
      {S : Type 0} (t : LedgersMeaning S) (old new : Room S C) (deed : Act)
      (done : IsActed t gives old deed new) →
      Rise (told old.moments) (events_by deed done) (told new.moments)
  deed_rises t old new (Replied client reply) done =
      exchange_rises t _ _ reply (done.does.0.exchange [] (λ ended. refl)).by
  deed_rises t old new (Came client piece) done =
      same_moments old.moments new.moments done.does.0.moments_same
  deed_rises t old new (Ended client) done =
      same_moments old.moments new.moments done.does.moments_same
  deed_rises t old new (Continued client part) done =
      same_moments old.moments new.moments done.does.0.moments_same
  deed_rises t old new (Wrote client bytes) done =
      same_moments old.moments new.moments done.does.moments_same

  deeds_rise :
      {S : Type 0} (t : LedgersMeaning S) (first last : Room S C) (deeds : List Act)
      (lives : Lives S C t gives first deeds last) →
      Rise (told first.moments) (events_of lives) (told last.moments)
  deeds_rise t first last deeds Nothing = not_below (told first.moments)
  deeds_rise t first last deeds (More before mid deed next lives done) =
      rise_on (told first.moments) (told mid.moments) (told next.moments) (events_of lives)
      (events_by deed done) (deeds_rise t first mid before lives) (deed_rises t mid next deed done)

  -- a deed that a service may try
  tried_rises :
      (given : Option ℕ) (deed : service.Deed) (ending : Ending) → MayTry given deed → (old new : C) →
      IsGiven gives old given new → Rise (told old) (course.Tried deed ending ∷ []) (told new)
  tried_rises given deed ending (attending.Joins digest) old new asked =
      (told old, not_below (told old), tt, given_rises old given new asked)
  tried_rises given deed ending (Changes_key was now) old new asked =
      (told old, not_below (told old), tt, given_rises old given new asked)
  tried_rises given deed ending (Settles digest moment until is within) old new asked =
      let rises =
      rising old moment new (subst (λ (g : Option ℕ). IsGiven gives old g new) is asked) in
      let same = rises.0 in
      let later = rises.1 in
      (moment, omega arith, within, omega arith)
  tried_rises given deed ending (Reads_part digest account) old new asked =
      (told old, not_below (told old), omega arith, given_rises old given new asked)

  opening_rises :
      {S : Type 0} (t : RunMeaning S) (given : Option ℕ) (old new : S)
      (renewed : Renewed t given old new) (events : List Event) → AreOfOpening renewed events →
      (moments moments_now : C) → IsGiven gives moments given moments_now →
      Rise (told moments) events (told moments_now)
  opening_rises t given old new (Stayed same) events are moments moments_now asked =
      rise_none (told moments) (told moments_now) events are (given_rises moments given moments_now asked)
  opening_rises t given old new (Opened opened) events are moments moments_now asked =
      subst (λ (es : List Event). Rise (told moments) es (told moments_now)) (sym are.1)
      (told moments, not_below (told moments), tt, given_rises moments given moments_now asked)
  opening_rises t given old new (Anew settled) events are moments moments_now asked = absurd are
  opening_rises t given old new (Refused dead) events are moments moments_now asked = absurd are
  opening_rises t given old new (Tried deed ending may moves) events are moments moments_now asked =
      subst (λ (es : List Event). Rise (told moments) es (told moments_now)) (sym are)
      (tried_rises given deed ending may moments moments_now asked)
  opening_rises t given old new (Rested rest) events are moments moments_now asked =
      rise_none (told moments) (told moments_now) events are (given_rises moments given moments_now asked)

module _ {S C P : Type 0} (r : Terms S C P) (told : C → ℕ) (rising : GivesRising r.gives told) where
  -- what happens
  one_later :
      (last next : Hall S C P) (more : List Act) → Occurs S C P r last more next →
      told last.room.moments ≤ told next.room.moments
  one_later last next more (Did deed room peers stays done settled hands) =
      rise_ends (told last.room.moments) (told room.moments) (events_by deed done)
      (deed_rises r.gives told rising r.means last.room room deed done)
  one_later last next more (Tells fresh word peers free does) = not_below (told last.room.moments)
  one_later last next more (Stirs doing peers may does) = not_below (told last.room.moments)
  one_later last next more (Puts_off client peers is does) = not_below (told last.room.moments)
  one_later last next more (Joins client away) = not_below (told last.room.moments)
  one_later last next more (Goes client peers may) = not_below (told last.room.moments)
  one_later last next more (Again ledgers moments given asked renewed) =
      given_rises r.gives told rising last.room.moments given moments asked
  one_later last next more (Rests ledgers same) = not_below (told last.room.moments)
  one_later last next more (Passes moments given passed) =
      all_rise r.gives told rising last.room.moments given moments passed
  one_later last next more (Fails deeds room ledgers stands lives word failed begun) =
      rise_ends (told last.room.moments) (told room.moments) (events_of lives)
      (deeds_rise r.gives told rising r.means last.room room deeds lives)

  all_later :
      (first last : Hall S C P) (deeds : List Act) → Proceeds S C P r first deeds last →
      told first.room.moments ≤ told last.room.moments
  all_later first last deeds Begin = not_below (told first.room.moments)
  all_later first last deeds (Then before mid more next serves happens) =
      let earlier = all_later first mid before serves in
      let one = one_later mid next more happens in
      omega arith

  module _ (renewals : AreRenewals r) where
    one_rises :
        (last next : Hall S C P) (more : List Act) (happens : Occurs S C P r last more next)
        (events : List Event) → AreOf renewals happens events →
        Rise (told last.room.moments) events (told next.room.moments)
    one_rises last next more (Did deed room peers stays done settled hands) events are =
        subst (λ (es : List Event). Rise (told last.room.moments) es (told room.moments)) (sym are)
        (deed_rises r.gives told rising r.means last.room room deed done)
    one_rises last next more (Again ledgers moments given asked renewed) events are =
        opening_rises r.gives told rising (run_meaning r.means) given last.room.ledgers ledgers
        (renewals given last.room.ledgers ledgers renewed) events are last.room.moments moments asked
    one_rises last next more (Fails deeds room ledgers stands lives word failed begun) events are =
        subst (λ (es : List Event). Rise (told last.room.moments) es (told room.moments)) (sym are)
        (deeds_rise r.gives told rising r.means last.room room deeds lives)
    one_rises last next more (Tells fresh word peers free does) events are =
        rise_none _ _ events are (not_below (told last.room.moments))
    one_rises last next more (Stirs doing peers may does) events are =
        rise_none _ _ events are (not_below (told last.room.moments))
    one_rises last next more (Puts_off client peers is does) events are =
        rise_none _ _ events are (not_below (told last.room.moments))
    one_rises last next more (Joins client away) events are =
        rise_none _ _ events are (not_below (told last.room.moments))
    one_rises last next more (Goes client peers may) events are =
        rise_none _ _ events are (not_below (told last.room.moments))
    one_rises last next more (Rests ledgers same) events are =
        rise_none _ _ events are (not_below (told last.room.moments))
    one_rises last next more (Passes moments given passed) events are =
        rise_none _ _ events are
        (all_rise r.gives told rising last.room.moments given moments passed)

    since_rises :
        (first last : Hall S C P) (deeds : List Act) (serves : Proceeds S C P r first deeds last)
        (events : List Event) (began : Tenants) →
        IsSince renewals first deeds last serves events began →
        Rise (told first.room.moments) events (told last.room.moments)
    since_rises first last deeds serves events began Start = not_below (told first.room.moments)
    since_rises first last deeds serves events began
        (Onward before mid more next earlier happens done behind since_then since are) =
        rise_on (told first.room.moments) (told mid.room.moments) (told next.room.moments) done behind
        (since_rises first mid before earlier done since_then since)
        (one_rises mid next more happens behind are)
    since_rises first last deeds serves events began
        (From before mid more next earlier happens anew is) =
        all_later first next (before ++ more) (Then before mid more next earlier happens)

pub moments_rise : {S C P : Type 0} (r : Terms S C P) → MomentsRise r
moments_rise r told rising renewals first last deeds serves events began since =
    since_rises r told rising renewals first last deeds serves events began since
