-- Serving as a course, step by step.
use Rattle.std.proofs.Common.{◌≡◌, ◌⊎◌, inl, inr, refl, sym, subst, ℕ, Bool, List, [], ◌∷◌, ◌++◌, Option}
use Rattle.std.proofs.Math.Logic.{∥∥₁_elim}
use Rattle.std.proofs.Math.Path.{fun_ext}
use Rattle.std.proofs.lemmas.List.{append-nil}
use Rattle.std.specs.List.{AllByRecursion, flat_map}
use Rattle.ledger_http.specs.declared.reply.Reply.{Reply}
use Rattle.ledger_http.specs.Question.{asked_of}
use Rattle.chain.specs.Ledgers.{LedgersMeaning, Tenants, KeepsAll}
use Rattle.service.specs.Deeds as service
use Rattle.service.specs.Connections.{Connection, IsFirstAnswered, IsTurnedAway, LacksMemory}
use Rattle.service.specs.ConnectionEvents.{event_in}
use Rattle.service.specs.Courses.{Event, Reopened, IsStill, HappenInTurn, untold_in}
use Rattle.service.specs.Courses as course
use Rattle.service.specs.Openings.{RunMeaning, run_meaning, IsSettled, IsFoundLive}
use Rattle.service.specs.Openings.{ResponsesMove, MayBegin}
use Rattle.service.specs.Openings.{HasLed, Leads, GoesOn, IsFree, FoundAfterAll, All_as_now, All_as_before, All_done}
use Rattle.service.specs.OpeningLaws.{event_more, events_more, here_more, found_more, same_more, opened_more, begun_anew, none_yet}
use Rattle.service.specs.EventLaws.{all_append, unavailable_tells_nothing, still_happen}
use Rattle.service.specs.Replies.{unavailable}
use Rattle.service.specs.OwnDeeds.{EachSeesItself}
use Rattle.clients.specs.Deeds.{Room, Act, Came, Ended, Replied, Continued, Wrote, IsActed, Lives}
use Rattle.service.specs.InTurn.{Nothing, More}
use Rattle.polling.specs.Serving.{Hall, Terms, Occurs, Did, Tells, Stirs, Puts_off, Joins, Goes, Again, Rests, Passes, Fails, Proceeds, Begin, Then}
use Rattle.polling.specs.Serving.{AreAsBefore, HasFailed, IsToldUnavailable, AreToldUnavailable}
use Rattle.polling.specs.Serving.{events_by, events_of}
use Rattle.polling.specs.Courses.{Renewed, Stayed, Opened, Anew, Refused, Tried, Rested, IsAtRest, AreOfOpening, IsAnew}
use Rattle.polling.specs.Courses.{AreRenewals, AreOf, BeginsWith, IsSince, Start, Onward, From, IsCourse, CoursesServeEachAlone}

-- what an opening finds of ledgers at rest
found_at_rest :
    {S : Type 0} (t : RunMeaning S) (old new : S) (found : Tenants) →
    t.may_find old found ⊎ (t.is_live new × KeepsAll (t.tenants new) found) →
    FoundAfterAll t old [] new found
found_at_rest t old new found (inl before) = All_as_before tt before
found_at_rest t old new found (inr now) = All_as_now now.0 now.1

-- an exchange leads on, by its event where it has one
exchange_more :
    {S C : Type 0} (t : LedgersMeaning S) (gives : C → ℕ → C → Type 0) → ResponsesMove t →
    (Since Now : List Event → Tenants → Type 0) (old new : Connection S C) (reply : Reply)
    (by :
    IsFirstAnswered t gives old reply new ⊎ (IsTurnedAway old reply new ⊎ LacksMemory old reply new)) →
    GoesOn Since (event_in reply by) Now → IsSettled (run_meaning t) new.ledgers →
    HasLed (run_meaning t) Since old.ledgers → HasLed (run_meaning t) Now new.ledgers
exchange_more t gives move Since Now old new reply (inl answered) on settled led =
    event_more Since Now (run_meaning t) old.ledgers new.ledgers
    (course.Replied (asked_of answered.message answered.early.head) answered.moment reply) on
    (λ events. tt)
    (move old.ledgers new.ledgers answered.message answered.moment reply answered.early
    answered.responds answered.finds answered.follows settled)
    led
exchange_more t gives move Since Now old new reply (inr (inl away)) on settled led =
    subst (HasLed (run_meaning t) Now) (sym away.cut.ledgers)
    (same_more Since Now (run_meaning t) old.ledgers on led)
exchange_more t gives move Since Now old new reply (inr (inr lacks)) on settled led =
    subst (HasLed (run_meaning t) Now) (sym lacks.cut.ledgers)
    (same_more Since Now (run_meaning t) old.ledgers on led)

-- so do ledgers at rest, of which nothing is told
rest_more :
    {S : Type 0} (t : RunMeaning S) (Since Now : List Event → Tenants → Type 0) (old new : S) →
    IsAtRest t old new → GoesOn Since [] Now → HasLed t Since old → HasLed t Now new
rest_more t Since Now old new rest on led =
    let here : (t.is_live new → ∥ Leads Now (t.tenants new) ∥₁) =
    λ live. here_more Since Now t old new [] on tt (fun_ext (rest.same live)) (rest.lived live) led in
    record {
      here = here;
      found = λ found may.
          ∥∥₁_elim (rest.found found may) squash₁ (λ was.
          found_more Since Now t old new [] found on tt here led (found_at_rest t old new found was));
    }

-- so does what a steward does
opening_more :
    {S : Type 0} (t : RunMeaning S) (Since Now : List Event → Tenants → Type 0) (given : Option ℕ)
    (old new : S) (renewed : Renewed t given old new) →
    ((events : List Event) → AreOfOpening renewed events → GoesOn Since events Now) →
    (IsAnew renewed → (began : Tenants) → MayBegin t new began → Now [] began) →
    HasLed t Since old → HasLed t Now new
opening_more t Since Now given old new (Stayed same) on anew led =
    subst (HasLed t Now) (sym same) (same_more Since Now t old (on [] refl) led)
opening_more t Since Now given old new (Opened opened) on anew led =
    opened_more Since Now t old new
    (λ (deeds : List service.Deed). on (Reopened deeds ∷ []) (deeds, refl)) opened led
opening_more t Since Now given old new (Anew settled) on anew led = begun_anew t Now new (anew tt)
opening_more t Since Now given old new (Refused dead) on anew led = begun_anew t Now new (anew tt)
opening_more t Since Now given old new (Tried deed ending may moves) on anew led =
    event_more Since Now t old new (course.Tried deed ending)
    (on (course.Tried deed ending ∷ []) refl) (λ events. tt) moves led
opening_more t Since Now given old new (Rested rest) on anew led =
    rest_more t Since Now old new rest (on [] refl) led

-- so do ledgers of the same machines, of which nothing is told
as_before_more :
    {S : Type 0} (t : LedgersMeaning S) (Since Now : List Event → Tenants → Type 0) (old new : S) →
    AreAsBefore t old new → GoesOn Since [] Now → HasLed (run_meaning t) Since old →
    HasLed (run_meaning t) Now new
as_before_more t Since Now old new same on led =
    events_more Since Now (run_meaning t) old new [] on tt
    (record {
      happen = λ live. fun_ext (same.same live);
      lived = same.lived;
      found = λ found may. let now = same.found found may in All_as_now now.0 now.1;
    })
    led

-- what tells that the ledgers are unavailable says nothing of any tenant, and needs nothing before it
still_by :
    {S C : Type 0} (t : LedgersMeaning S) (gives : C → ℕ → C → Type 0) (old new : Connection S C)
    (reply : Reply)
    (by :
    IsFirstAnswered t gives old reply new ⊎ (IsTurnedAway old reply new ⊎ LacksMemory old reply new)) →
    reply ≡ unavailable →
    AllByRecursion IsStill (event_in reply by) × AllByRecursion IsFree (event_in reply by)
still_by t gives old new reply (inl answered) told = (
  (
    unavailable_tells_nothing (asked_of answered.message answered.early.head) answered.moment reply
        told,
    tt,
  ),
  (λ events. tt, tt),
)
still_by t gives old new reply (inr refused) told = (tt, tt)

still_deed :
    {S C : Type 0} (t : LedgersMeaning S) (gives : C → ℕ → C → Type 0) (gone : ℕ → Bool)
    (old new : Room S C) (deed : Act) (done : IsActed t gives old deed new) →
    IsToldUnavailable gone deed →
    AllByRecursion IsStill (events_by deed done) × AllByRecursion IsFree (events_by deed done)
still_deed t gives gone old new (Replied client reply) done told =
    still_by t gives _ _ reply (done.does.0.exchange [] (λ ended. refl)).by told.1
still_deed t gives gone old new (Came client piece) done told = absurd told
still_deed t gives gone old new (Ended client) done told = absurd told
still_deed t gives gone old new (Continued client part) done told = absurd told
still_deed t gives gone old new (Wrote client bytes) done told = absurd told

still_deeds :
    {S C : Type 0} (t : LedgersMeaning S) (gives : C → ℕ → C → Type 0) (gone : ℕ → Bool)
    (first last : Room S C) (deeds : List Act) (lives : Lives S C t gives first deeds last) →
    AreToldUnavailable gone lives →
    AllByRecursion IsStill (events_of lives) × AllByRecursion IsFree (events_of lives)
still_deeds t gives gone first last deeds Nothing told = (tt, tt)
still_deeds t gives gone first last deeds (More before mid deed next lives done) told =
    let earlier = still_deeds t gives gone first mid before lives told.0 in
    let one = still_deed t gives gone mid next deed done told.1 in (
      all_append IsStill (events_of lives) (events_by deed done) earlier.0 one.0,
      all_append IsFree (events_of lives) (events_by deed done) earlier.1 one.1,
    )

found_failed :
    {S : Type 0} (t : LedgersMeaning S) (old new : S) (events : List Event) (found : Tenants) →
    AllByRecursion IsStill events →
    t.may_find old found
    ⊎ (t.is_live old × service.AreDone (flat_map untold_in events) (t.tenants old) found) →
    FoundAfterAll (run_meaning t) old events new found
found_failed t old new events found still (inl before) = All_as_before still before
found_failed t old new events found still (inr done) =
    All_done [] events [] (t.tenants old) (sym (append-nil events))
    (all_append IsStill events [] still tt) done.0 refl done.1

-- so does a round that was lost with the disk
failed_more :
    {S : Type 0} (t : LedgersMeaning S) (Since Now : List Event → Tenants → Type 0) (old new : S)
    (events : List Event) → AllByRecursion IsStill events → AllByRecursion IsFree events →
    HasFailed t old events new → GoesOn Since events Now → HasLed (run_meaning t) Since old →
    HasLed (run_meaning t) Now new
failed_more t Since Now old new events still free failed on led =
    events_more Since Now (run_meaning t) old new events on free
    (record {
      happen = λ live.
          subst (λ (now : Tenants). HappenInTurn (t.tenants old) events now)
          (sym (fun_ext (failed.same live))) (still_happen events (t.tenants old) still);
      lived = failed.lived;
      found = λ found may. found_failed t old new events found still (failed.found found may);
    })
    led

module _ {S C P : Type 0} (r : Terms S C P) (move : ResponsesMove r.means) (renewals : AreRenewals r) where
  -- where nothing happens to the ledgers, nothing is told
  unmoved_more :
      (Since Now : List Event → Tenants → Type 0) (old new : S) → new ≡ old →
      GoesOn Since [] Now → HasLed (run_meaning r.means) Since old →
      HasLed (run_meaning r.means) Now new
  unmoved_more Since Now old new same on led =
      subst (HasLed (run_meaning r.means) Now) (sym same)
      (same_more Since Now (run_meaning r.means) old on led)

  one_more :
      (Since Now : List Event → Tenants → Type 0) (last next : Hall S C P) (more : List Act)
      (happens : Occurs S C P r last more next) →
      ((events : List Event) → AreOf renewals happens events → GoesOn Since events Now) →
      ((began : Tenants) → BeginsWith renewals happens began → Now [] began) →
      HasLed (run_meaning r.means) Since last.room.ledgers →
      HasLed (run_meaning r.means) Now next.room.ledgers
  one_more Since Now last next more (Did (Replied client reply) room peers stays done settled hands)
      on anew led =
      let exchange = done.does.0.exchange [] (λ ended. refl) in
      exchange_more r.means r.gives move Since Now _ _ reply exchange.by
      (on (event_in reply exchange.by) refl) settled led
  one_more Since Now last next more (Did (Came client piece) room peers stays done settled hands)
      on anew led =
      unmoved_more Since Now last.room.ledgers room.ledgers done.does.0.ledgers_same (on [] refl) led
  one_more Since Now last next more (Did (Ended client) room peers stays done settled hands) on anew
      led =
      unmoved_more Since Now last.room.ledgers room.ledgers done.does.ledgers_same (on [] refl) led
  one_more Since Now last next more (Did (Continued client part) room peers stays done settled hands)
      on anew led =
      unmoved_more Since Now last.room.ledgers room.ledgers done.does.0.ledgers_same (on [] refl) led
  one_more Since Now last next more (Did (Wrote client bytes) room peers stays done settled hands)
      on anew led =
      unmoved_more Since Now last.room.ledgers room.ledgers done.does.ledgers_same (on [] refl) led
  one_more Since Now last next more (Tells fresh told peers free does) on anew led =
      same_more Since Now (run_meaning r.means) last.room.ledgers (on [] refl) led
  one_more Since Now last next more (Stirs doing peers may does) on anew led =
      same_more Since Now (run_meaning r.means) last.room.ledgers (on [] refl) led
  one_more Since Now last next more (Puts_off client peers is does) on anew led =
      same_more Since Now (run_meaning r.means) last.room.ledgers (on [] refl) led
  one_more Since Now last next more (Joins client away) on anew led =
      same_more Since Now (run_meaning r.means) last.room.ledgers (on [] refl) led
  one_more Since Now last next more (Goes client peers may) on anew led =
      same_more Since Now (run_meaning r.means) last.room.ledgers (on [] refl) led
  one_more Since Now last next more (Again ledgers moments given asked renewed) on anew led =
      opening_more (run_meaning r.means) Since Now given last.room.ledgers ledgers
      (renewals given last.room.ledgers ledgers renewed) on
      (λ is began may. anew began (is, may)) led
  one_more Since Now last next more (Passes moments given passed) on anew led =
      same_more Since Now (run_meaning r.means) last.room.ledgers (on [] refl) led
  one_more Since Now last next more (Rests ledgers same) on anew led =
      as_before_more r.means Since Now last.room.ledgers ledgers same (on [] refl) led
  one_more Since Now last next more (Fails deeds room ledgers stands lives told failed begun) on anew led =
      let still = still_deeds r.means r.gives last.gone last.room room deeds lives told in
      failed_more r.means Since Now last.room.ledgers ledgers (events_of lives) still.0 still.1 failed
      (on (events_of lives) refl) led

  all_led :
      (first last : Hall S C P) (deeds : List Act) (serves : Proceeds S C P r first deeds last) →
      IsFoundLive (run_meaning r.means) first.room.ledgers →
      IsSettled (run_meaning r.means) first.room.ledgers →
      HasLed (run_meaning r.means) (IsSince renewals first deeds last serves) last.room.ledgers
  all_led first last deeds Begin live settled =
      none_yet (run_meaning r.means) (IsSince renewals first [] first Begin) first.room.ledgers live
      settled Start
  all_led first last deeds (Then before mid more next serves happens) live settled =
      one_more (IsSince renewals first before mid serves)
      (IsSince renewals first (before ++ more) next (Then before mid more next serves happens)) mid
      next more happens
      (λ behind are events began since.
      Onward before mid more next serves happens events behind began since are)
      (λ began anew. From before mid more next serves happens began anew)
      (all_led first mid before serves live settled)

pub is_course :
    {S C P : Type 0} (r : Terms S C P) → ResponsesMove r.means → IsCourse r
is_course r move renewals first last deeds serves live settled =
    all_led r move renewals first last deeds serves live settled

pub serves_each_alone : {S C P : Type 0} (r : Terms S C P) → EachSeesItself → CoursesServeEachAlone r
serves_each_alone r sees renewals first last deeds serves events began now course digest =
    sees began now events course.course digest
