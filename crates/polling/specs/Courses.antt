-- Serving as a course: what has happened to the ledgers since they were last opened anew.
use Rattle.std.specs.Prelude.{◌≡◌, ◌⊎◌, ℕ, List, [], ◌∷◌, ◌++◌, Option}
use Rattle.std.specs.List.{AllByRecursion}
use Rattle.std.proofs.Common.{ap}
use Rattle.chain.specs.Ledgers.{LedgersMeaning, Tenants, KeepsAll}
use Rattle.service.specs.Attending.{MayTry, IsAskedOrOfService}
use Rattle.service.specs.Deeds as service
use Rattle.service.specs.Courses.{Event, Ending, Reopened}
use Rattle.service.specs.Courses as course
use Rattle.service.specs.Openings.{RunMeaning, run_meaning, IsSettled, IsFoundLive, IsOpened}
use Rattle.service.specs.Openings.{MayBegin, Moves}
use Rattle.service.specs.Openings.{FoundAfter, As_now, As_before, As_done}
use Rattle.service.specs.Openings.{CourseSince, HasLed}
use Rattle.service.specs.OwnDeeds.{SeesItself}
use Rattle.service.specs.Rising.{GivesRising, Rise}
use Rattle.service.specs.Seen.{Whole, seen}
use Rattle.clients.specs.Deeds.{Act}
use Rattle.polling.specs.Serving.{Hall, Terms, Occurs, Did, Again, Fails, Proceeds, Begin, Then}
use Rattle.polling.specs.Serving.{events_by, events_of}

-- ledgers of the same machines, of which an opening finds what it might have found before, or what
-- is there
pub record IsAtRest {S : Type 0} (t : RunMeaning S) (old new : S) : Type 0 where
  pub lived : t.is_live new → t.is_live old
  pub same : t.is_live new → KeepsAll (t.tenants old) (t.tenants new)
  pub found :
      (found : Tenants) → t.may_find new found
      → ∥ t.may_find old found ⊎ (t.is_live new × KeepsAll (t.tenants new) found) ∥₁

-- What a supervisor makes of ledgers, given this moment if it asked for one. They stay as they are.
-- They are opened again, and are what was to be found. They are opened anew, whatever was before. That
-- is refused, and they are not live. A deed was tried that it may do for a tenant, and this is what
-- came of it. Or an operator has read them, which shows nothing of any tenant.
pub data Renewed {S : Type 0} (t : RunMeaning S) (given : Option ℕ) (old new : S) : Type 0 where
  Stayed : new ≡ old → Renewed t given old new
  Opened : IsOpened t old new → Renewed t given old new
  Anew : IsSettled t new → Renewed t given old new
  Refused : (t.is_live new → ⊥) → Renewed t given old new
  Tried :
      (deed : service.Deed) (ending : Ending) → MayTry given deed →
      Moves t old (course.Tried deed ending) new → Renewed t given old new
  Rested : IsAtRest t old new → Renewed t given old new

-- what may be found after an event, as it is seen between messages
abbrev pub found_seen :
    {S : Type 0} (t : LedgersMeaning S) (old : S) (event : Event) (new : S) (found : Tenants)
    → FoundAfter (run_meaning t) old event new found
    → FoundAfter (run_meaning (seen t)) (Whole old) event (Whole new) found
found_seen t old event new found (As_now live keeps) = As_now live keeps
found_seen t old event new found (As_before still before) = As_before still before
found_seen t old event new found (As_done deed more untold live done) =
    As_done deed more untold live done

-- what a steward makes of ledgers, as it is seen between messages
abbrev pub renewed_seen :
    {S : Type 0} (t : LedgersMeaning S) {given : Option ℕ} {old new : S}
    → Renewed (run_meaning t) given old new
    → Renewed (run_meaning (seen t)) given (Whole old) (Whole new)
renewed_seen t (Stayed same) = Stayed (ap Whole same)
renewed_seen t (Opened opened) = Opened (record { member = opened.member; found = opened.found })
renewed_seen t (Anew settled) = Anew settled
renewed_seen t (Refused dead) = Refused dead
renewed_seen t {old} {new} (Tried deed ending may moves) =
    Tried deed ending may
    (record {
      happens = moves.happens;
      lived = moves.lived;
      found = λ found may.
          found_seen t old (course.Tried deed ending) new found (moves.found found may);
    })
renewed_seen t (Rested rest) =
    Rested (record { lived = rest.lived; same = rest.same; found = rest.found })

-- the events of it: none, or that deeds were found done, or how a deed ended that was tried
abbrev pub AreOfOpening :
    {S : Type 0} {t : RunMeaning S} {given : Option ℕ} {old new : S} → Renewed t given old new
    → List Event → Type 0
AreOfOpening (Stayed same) events = events ≡ []
AreOfOpening (Opened opened) events = (deeds : List service.Deed) × (events ≡ Reopened deeds ∷ [])
AreOfOpening (Anew settled) events = ⊥
AreOfOpening (Refused dead) events = ⊥
AreOfOpening (Tried deed ending may moves) events = events ≡ course.Tried deed ending ∷ []
AreOfOpening (Rested rest) events = events ≡ []

-- behind it nothing is said of what was before
abbrev pub IsAnew :
    {S : Type 0} {t : RunMeaning S} {given : Option ℕ} {old new : S} → Renewed t given old new
    → Type 0
IsAnew (Stayed same) = ⊥
IsAnew (Opened opened) = ⊥
IsAnew (Anew settled) = Unit {0}
IsAnew (Refused dead) = Unit {0}
IsAnew (Tried deed ending may moves) = ⊥
IsAnew (Rested rest) = ⊥

-- whatever a steward does is one of these
abbrev pub AreRenewals : {S C P : Type 0} → Terms S C P → Type 0
AreRenewals {S} r =
    (given : Option ℕ) (old new : S) → r.renews given old new
    → Renewed (run_meaning r.means) given old new

module _ {S C P : Type 0} {r : Terms S C P} (renewals : AreRenewals r) where
  -- the events of what happens: those of messages that were replied to, if they were read whole;
  -- those of what a steward does; and no others
  abbrev pub AreOf :
      {old new : Hall S C P} {deeds : List Act} → Occurs S C P r old deeds new → List Event
      → Type 0
  AreOf (Did deed room peers stays done settled hands) events = events ≡ events_by deed done
  AreOf {old} (Again ledgers moments given asked renewed) events =
      AreOfOpening (renewals given old.room.ledgers ledgers renewed) events
  AreOf (Fails deeds room ledgers stands lives told failed begun) events = events ≡ events_of lives
  AreOf happens events = events ≡ []

  -- ledgers are opened anew, or that is refused; and then the machines are those that are there, or
  -- that the next opening finds
  abbrev pub BeginsWith :
      {old new : Hall S C P} {deeds : List Act} → Occurs S C P r old deeds new → Tenants → Type 0
  BeginsWith {old} (Again ledgers moments given asked renewed) began =
      IsAnew (renewals given old.room.ledgers ledgers renewed)
      × MayBegin (run_meaning r.means) ledgers began
  BeginsWith happens began = ⊥

  -- the events since ledgers were last opened anew, or since the beginning, and the machines then
  pub data IsSince (first : Hall S C P) :
      (deeds : List Act) (last : Hall S C P) → Proceeds S C P r first deeds last → List Event
      → Tenants → Type 0 where
    Start : IsSince first [] first Begin [] (r.means.tenants first.room.ledgers)
    Onward :
        (deeds : List Act) (last : Hall S C P) (more : List Act) (next : Hall S C P)
        (serves : Proceeds S C P r first deeds last) (happens : Occurs S C P r last more next)
        (events behind : List Event) (began : Tenants) →
        IsSince first deeds last serves events began → AreOf happens behind →
        IsSince first (deeds ++ more) next (Then deeds last more next serves happens)
        (events ++ behind) began
    From :
        (deeds : List Act) (last : Hall S C P) (more : List Act) (next : Hall S C P)
        (serves : Proceeds S C P r first deeds last) (happens : Occurs S C P r last more next)
        (began : Tenants) → BeginsWith happens began →
        IsSince first (deeds ++ more) next (Then deeds last more next serves happens) [] began

-- serving over settled ledgers, which are live where an opening may find anything, is a course, from
-- then on or from the last time on that they were opened anew
abbrev pub IsCourse : {S C P : Type 0} → Terms S C P → Type 0
IsCourse {S} {C} {P} r =
    (renewals : AreRenewals r) (first last : Hall S C P) (deeds : List Act)
    (serves : Proceeds S C P r first deeds last)
    → IsFoundLive (run_meaning r.means) first.room.ledgers
    → IsSettled (run_meaning r.means) first.room.ledgers
    → HasLed (run_meaning r.means) (IsSince renewals first deeds last serves) last.room.ledgers

-- in it each tenant sees its own deeds alone
abbrev pub CoursesServeEachAlone : {S C P : Type 0} → Terms S C P → Type 0
CoursesServeEachAlone {S} {C} {P} r =
    (renewals : AreRenewals r) (first last : Hall S C P) (deeds : List Act)
    (serves : Proceeds S C P r first deeds last) (events : List Event) (began now : Tenants)
    → CourseSince (IsSince renewals first deeds last serves) events began now
    → (digest : List ℕ) → SeesItself began events now digest

-- in it each deed that no message asked for is one that a service may do, and books nothing
abbrev pub BooksOnlyWhatIsAsked : {S C P : Type 0} → Terms S C P → Type 0
BooksOnlyWhatIsAsked {S} {C} {P} r =
    (renewals : AreRenewals r) (first last : Hall S C P) (deeds : List Act)
    (serves : Proceeds S C P r first deeds last) (events : List Event) (began : Tenants)
    → IsSince renewals first deeds last serves events began
    → AllByRecursion IsAskedOrOfService events

-- and its moments do not fall, where those that are given do not
abbrev pub MomentsRise : {S C P : Type 0} → Terms S C P → Type 0
MomentsRise {S} {C} {P} r =
    (told : C → ℕ)
    → GivesRising r.gives told
    → (renewals : AreRenewals r) (first last : Hall S C P) (deeds : List Act)
    (serves : Proceeds S C P r first deeds last) (events : List Event) (began : Tenants)
    → IsSince renewals first deeds last serves events began
    → Rise (told first.room.moments) events (told last.room.moments)
