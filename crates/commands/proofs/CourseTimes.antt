-- What happened in a course whose moments do not fall.
use Rattle.std.proofs.Common.{◌≡◌, ◌≢◌, ◌≤◌, ◌⊎◌, inl, inr, refl, sym, ap, ◌∙◌, subst, ℕ, Bool, true, false, List, [], ◌∷◌, ◌++◌, map, Option, Result, Ok, Err, if◌then◌else◌, arith}
use Rattle.std.proofs.lemmas.Bool.{false≢true, true≢false}
use Rattle.std.proofs.lemmas.Grind.{flat_map-append}
use Rattle.std.proofs.lemmas.List.{append-nil}
use Rattle.std.proofs.lemmas.List.Concat.{flat_map-cons}
use Rattle.std.specs.List.{AllByRecursion, flat_map}
use Rattle.chain.specs.Ledgers.{Tenants}
use Rattle.records.specs.Machine.{Machine}
use Rattle.ledger_http.specs.declared.early.Early.{Early}
use Rattle.ledger_http.specs.Question.{Question}
use Rattle.ledger_http.specs.ReplyText.{reply_text}
use Rattle.wire.specs.declared.outcome.Outcome.{Outcome}
use Rattle.wire.specs.declared.request.Request.{Request}
use Rattle.wire.specs.declared.request.Request.TheVariants as asks
use Rattle.sha2.specs.Sha256.{sha256}
use Rattle.wire.specs.declared.read.Read.TheVariants as reads
use Rattle.wire.specs.Asked.{meaning_in}
use Rattle.wire.specs.Told.{outcome_text}
use Rattle.engine.specs.Settling.{SettlesFirst}
use Rattle.records.specs.Step.{account_rules, transfer_rules}
use Rattle.service.specs.Attending.{MayTry, Joins, Changes_key, Settles, Reads_part, IsAskedOrOfService}
use Rattle.service.specs.Courses.{Event, Replied, Tried, Reopened, Course, Begin, Then, MayBeFound}
use Rattle.service.specs.Courses.{Ending, Done, Declined, Unavailable, IsStill, untold_in}
use Rattle.service.specs.Courses.{is_unavailable, MayFollow}
use Rattle.service.specs.Deeds.{Deed, Asked, asking, deeds_in}
use Rattle.service.specs.OwnDeeds.{Happening, Told, Untold, deed_of, happenings_in, after_all}
use Rattle.service.specs.OwnDeeds.{EachSeesItself, own_happenings}
use Rattle.service.specs.Rising.{IsAt, Rise}
use Rattle.service.specs.Served.{served_to}
use Rattle.commands.specs.Unsettled.{is_batch, without_settlements}
use Rattle.commands.specs.Unsettled.{SettlingShowsNowhere}
use Rattle.commands.proofs.SettledLemmas.{both_told, both_unsettled}
use Rattle.commands.proofs.InTimeLemmas.{IsInTime, InTime, in_time_on, own_in_time, all_settled}

-- what happened at an event is in time
asked_at :
    (now given moment : ℕ) (digest : List ℕ) (meaning : Result Request Outcome) (happening : Happening) →
    deed_of happening ≡ Asked digest meaning moment → now ≤ given → moment ≡ given →
    IsInTime now given happening
asked_at now given moment digest meaning happening is le at other said when asked batch =
    let same : Asked digest meaning moment ≡ Asked other said when = sym is ∙ asked in
    let upto : moment ≡ when = cc in
    (omega arith, λ told. omega arith)

may_be_tried :
    (now given : ℕ) (asks_for : Option ℕ) (deed : Deed) (ending : Ending) → MayTry asks_for deed →
    IsAt given (Tried deed ending) → IsInTime now given (Untold deed)
may_be_tried now given asks_for deed ending (Joins digest) at other said when is batch = absurd (cc)
may_be_tried now given asks_for deed ending (Changes_key was key) at other said when is batch =
    absurd (cc)
may_be_tried now given asks_for deed ending (Settles digest moment until same within) at other said when
    is batch =
    let upto : until ≡ when = cc in
    (omega arith, λ (told : true ≡ false). absurd (true≢false told))
may_be_tried now given asks_for deed ending (Reads_part digest account) at other said when is batch =
    let same : Ok (asks.Read (reads.Statement account)) ≡ said = cc in
    absurd (false≢true (ap is_batch same ∙ batch))

replied_at :
    (untold : Bool) (now given to moment : ℕ) (asked : Result Question Early) (text : List ℕ) →
    now ≤ given → moment ≡ given → given ≤ to →
    InTime now (if untold then [] else map (λ deed. Told deed text) (deeds_in asked moment)) to
replied_at true now given to moment asked text le at ends = omega arith
replied_at false now given to moment (Err early) text le at ends = omega arith
replied_at false now given to moment (Ok question) text le at ends =
    let deed = asking question moment in (
      given,
      le,
      asked_at now given moment (sha256 question.key)
          (meaning_in question) (Told deed text) refl le at,
      ends,
    )

untold_at :
    (untold : Bool) (now given moment : ℕ) (asked : Result Question Early) →
    now ≤ given → moment ≡ given →
    InTime now (map Untold (if untold then deeds_in asked moment else [])) given
untold_at false now given moment asked le at = le
untold_at true now given moment (Err early) le at = le
untold_at true now given moment (Ok question) le at =
    let deed = asking question moment in (
      given,
      le,
      asked_at now given moment (sha256 question.key)
          (meaning_in question) (Untold deed) refl le at,
      omega arith,
    )

-- what is untold of events, one after the other
event_untold :
    (now given : ℕ) (event : Event) → now ≤ given → IsAt given event → IsAskedOrOfService event →
    InTime now (map Untold (untold_in event)) given
event_untold now given (Replied asked moment reply) le at may =
    untold_at (is_unavailable reply) now given moment asked le at
event_untold now given (Tried deed Done) le at may = le
event_untold now given (Tried deed Declined) le at may = le
event_untold now given (Tried deed Unavailable) le at may =
    (given, le, may_be_tried now given may.given deed Unavailable may.may at, omega arith)
event_untold now given (Reopened deeds) le at may = le

map_append :
    {A B : Type 0} (f : A → B) (xs ys : List A) → map f (xs ++ ys) ≡ map f xs ++ map f ys
map_append f [] ys = refl
map_append {A} {B} f (x ∷ xs) ys = ap (λ (zs : List B). f x ∷ zs) (map_append f xs ys)

round_untold :
    (from to : ℕ) (round : List Event) → Rise from round to → AllByRecursion IsAskedOrOfService round →
    InTime from (map Untold (flat_map untold_in round)) to
round_untold from to [] rise may = rise
round_untold from to (event ∷ round) rise may =
    subst (λ (happenings : List Happening). InTime from happenings to)
    (sym (ap (map Untold) (flat_map-cons untold_in event round)
    ∙ map_append Untold (untold_in event) (flat_map untold_in round)))
    (in_time_on from rise.0 to (map Untold (untold_in event)) (map Untold (flat_map untold_in round))
    (event_untold from rise.0 event rise.1 rise.2 may.0)
    (round_untold rise.0 to round rise.3 may.1))

-- nothing happens at events that say nothing of any tenant
still_reply :
    (untold : Bool) (asked : Result Question Early) (moment : ℕ) (text : List ℕ) →
    (if untold then deeds_in asked moment else []) ≡ deeds_in asked moment →
    (if untold then [] else map (λ deed. Told deed text) (deeds_in asked moment)) ≡ []
still_reply true asked moment text is = refl
still_reply false asked moment text is =
    ap (λ (deeds : List Deed). map (λ deed. Told deed text) deeds) (sym is)

still_none : (event : Event) → IsStill event → happenings_in event ≡ []
still_none (Replied asked moment reply) still =
    still_reply (is_unavailable reply) asked moment (reply_text reply) still.untold
still_none (Tried deed Unavailable) still = refl
still_none (Tried deed Done) still = absurd still
still_none (Tried deed Declined) still = absurd still
still_none (Reopened deeds) still = absurd still

stills_none :
    (events : List Event) → AllByRecursion IsStill events → flat_map happenings_in events ≡ []
stills_none [] still = refl
stills_none (event ∷ events) still =
    flat_map-cons happenings_in event events
    ∙ (ap (λ (happenings : List Happening). happenings ++ flat_map happenings_in events)
    (still_none event still.0)
    ∙ stills_none events still.1)

-- of lists that are cut in two
rise_split :
    (from to : ℕ) (events more : List Event) → Rise from (events ++ more) to →
    (mid : ℕ) × Rise from events mid × Rise mid more to
rise_split from to [] more rise = (from, omega arith, rise)
rise_split from to (event ∷ events) more rise =
    let rest = rise_split rise.0 to events more rise.3 in
    (rest.0, (rise.0, rise.1, rise.2, rest.1), rest.2)

rise_ends : (from to : ℕ) (events : List Event) → Rise from events to → from ≤ to
rise_ends from to [] rise = rise
rise_ends from to (event ∷ events) rise =
    let begun = rise.1 in let ended = rise_ends rise.0 to events rise.3 in omega arith

all_front :
    {X : Type 0} (P : X → Type 0) (xs ys : List X) → AllByRecursion P (xs ++ ys) → AllByRecursion P xs
all_front P [] ys all = tt
all_front P (x ∷ xs) ys all = (all.0, all_front P xs ys all.1)

all_back :
    {X : Type 0} (P : X → Type 0) (xs ys : List X) → AllByRecursion P (xs ++ ys) → AllByRecursion P ys
all_back P [] ys all = all
all_back P (x ∷ xs) ys all = all_back P xs ys all.1

abbrev IsCutBefore : List Event → List Event → Type 0
IsCutBefore events xs = (rest : List Event) × (events ≡ xs ++ rest)

-- a beginning of events and one more is all of them, or a beginning of the events
cut_one :
    (event first : Event) (xs ys : List Event) → event ∷ [] ≡ first ∷ (xs ++ ys) →
    first ∷ xs ≡ event ∷ []
cut_one event first [] ys is = let same : event ≡ first = cc in ap (λ (e : Event). e ∷ []) (sym same)
cut_one event first (x ∷ xs) ys is = absurd (cc)

cut :
    (events : List Event) (event : Event) (xs ys : List Event) → events ++ event ∷ [] ≡ xs ++ ys →
    (xs ≡ events ++ event ∷ []) ⊎ IsCutBefore events xs
cut events event [] ys is = inr (events, refl)
cut [] event (x ∷ xs) ys is = inl (cut_one event x xs ys is)
cut (e ∷ events) event (x ∷ xs) ys is =
    let first : e ≡ x = cc in
    let rest : events ++ event ∷ [] ≡ xs ++ ys = cc in
    elim (cut events event xs ys rest) [
      | inl whole ↦ inl (ap (λ (es : List Event). x ∷ es) whole
          ∙ ap (λ (y : Event). y ∷ (events ++ event ∷ [])) (sym first))
      | inr before ↦ inr (
        before.0,
        ap (λ (es : List Event). e ∷ es) before.1
            ∙ ap (λ (y : Event). y ∷ (xs ++ before.0)) first,
      )
    ]

abbrev all_of : List Event → List Happening
all_of events = flat_map happenings_in events

one_more : (events : List Event) (event : Event) → all_of (events ++ event ∷ []) ≡ all_of events ++ happenings_in event
one_more events event =
    flat_map-append happenings_in events (event ∷ [])
    ∙ ap (λ (more : List Happening). all_of events ++ more)
    (flat_map-cons happenings_in event [] ∙ append-nil (happenings_in event))

-- what happened in each beginning of events is in time
abbrev InTimeSoFar : List Event → Type 0
InTimeSoFar events =
    (xs : List Event) → IsCutBefore events xs → AllByRecursion IsAskedOrOfService xs →
    (from to : ℕ) → Rise from xs to → InTime from (all_of xs) to

-- where deeds were found done
found_in_time :
    (events : List Event) (deeds : List Deed) → MayBeFound deeds events → InTimeSoFar events →
    AllByRecursion IsAskedOrOfService events → (from to : ℕ) → Rise from events to →
    InTime from (all_of events ++ map Untold deeds) to
found_in_time events deeds found earlier may from to rise =
    let before = found.before in
    let round = found.round in
    let since = found.since in
    let whole = subst (λ (es : List Event). Rise from es to) found.are rise in
    let first = rise_split from to before (round ++ since) whole in
    let second = rise_split first.0 to round since first.2 in
    let ends = rise_ends second.0 to since second.2 in
    let service = subst (AllByRecursion IsAskedOrOfService) found.are may in
    let of_before = all_front IsAskedOrOfService before (round ++ since) service in
    let of_round =
    all_front IsAskedOrOfService round since
    (all_back IsAskedOrOfService before (round ++ since) service) in
    let same : all_of events ≡ all_of before =
    ap all_of found.are
    ∙ (flat_map-append happenings_in before (round ++ since)
    ∙ (ap (λ (more : List Happening). all_of before ++ more) (stills_none (round ++ since) found.still)
    ∙ append-nil (all_of before))) in
    subst (λ (hs : List Happening). InTime from hs to)
    (ap (λ (hs : List Happening). hs ++ map Untold (flat_map untold_in round)) (sym same)
    ∙ ap (λ (ds : List Deed). all_of events ++ map Untold ds) (sym found.all))
    (in_time_on from first.0 to (all_of before) (map Untold (flat_map untold_in round))
    (earlier before (round ++ since, found.are) of_before from first.0 first.1)
    (subst (λ (hs : List Happening). InTime first.0 hs to)
    (append-nil (map Untold (flat_map untold_in round)))
    (in_time_on first.0 second.0 to (map Untold (flat_map untold_in round)) []
    (round_untold first.0 second.0 round second.1 of_round) ends)))

-- behind one event more
event_in_time :
    (events : List Event) (event : Event) → InTimeSoFar events →
    AllByRecursion IsAskedOrOfService events → IsAskedOrOfService event →
    ((deeds : List Deed) → event ≡ Reopened deeds → MayBeFound deeds events) →
    (from mid to : ℕ) → Rise from events mid → Rise mid (event ∷ []) to →
    InTime from (all_of events ++ happenings_in event) to
event_in_time events (Replied asked moment reply) earlier may is follows from mid to rise one =
    in_time_on from mid to (all_of events) (happenings_in (Replied asked moment reply))
    (earlier events ([], sym (append-nil events)) may from mid rise)
    (replied_at (is_unavailable reply) mid one.0 to moment asked (reply_text reply) one.1 one.2 one.3)
event_in_time events (Tried deed Done) earlier may is follows from mid to rise one =
    in_time_on from mid to (all_of events) (Untold deed ∷ [])
    (earlier events ([], sym (append-nil events)) may from mid rise)
    (one.0, one.1, may_be_tried mid one.0 is.given deed Done is.may one.2, one.3)
event_in_time events (Tried deed Declined) earlier may is follows from mid to rise one =
    let begun = one.1 in
    let ends = one.3 in
    in_time_on from mid to (all_of events) []
    (earlier events ([], sym (append-nil events)) may from mid rise) (omega arith)
event_in_time events (Tried deed Unavailable) earlier may is follows from mid to rise one =
    let begun = one.1 in
    let ends = one.3 in
    in_time_on from mid to (all_of events) []
    (earlier events ([], sym (append-nil events)) may from mid rise) (omega arith)
event_in_time events (Reopened deeds) earlier may is follows from mid to rise one =
    let begun = one.1 in
    let ends = one.3 in
    subst (λ (hs : List Happening). InTime from hs to)
    (append-nil (all_of events ++ map Untold deeds))
    (in_time_on from mid to (all_of events ++ map Untold deeds) []
    (found_in_time events deeds (follows deeds refl) earlier may from mid rise) (omega arith))

none_before :
    (xs : List Event) → IsCutBefore [] xs → (from to : ℕ) → Rise from xs to → InTime from (all_of xs) to
none_before [] before from to rise = rise
none_before (x ∷ xs) before from to rise =
    let none : [] ≡ x ∷ (xs ++ before.0) = before.1 in absurd (cc)

-- so it is behind a course
pub course_in_time :
    (began now : Tenants) (es : List Event) → Course began es now → InTimeSoFar es
course_in_time began now es Begin xs before may from to rise = none_before xs before from to rise
course_in_time began now es (Then events mid event next course follows happens) xs before may from to
    rise =
    let earlier = course_in_time began mid events course in
    elim (cut events event xs before.0 before.1) [
      | inr sooner ↦ earlier xs sooner may from to rise
      | inl whole ↦
          let rises = subst (λ (all : List Event). Rise from all to) whole rise in
          let service = subst (AllByRecursion IsAskedOrOfService) whole may in
          let halves = rise_split from to events (event ∷ []) rises in
          subst (λ (hs : List Happening). InTime from hs to)
          (sym (ap all_of whole ∙ one_more events event))
          (event_in_time events event earlier
          (all_front IsAskedOrOfService events (event ∷ []) service)
          (all_back IsAskedOrOfService events (event ∷ []) service).0
          (λ deeds is. subst (MayFollow events) is follows)
          from halves.0 to halves.1 halves.2)
    ]

pub shows_nowhere :
    SettlesFirst account_rules → SettlesFirst transfer_rules → EachSeesItself → SettlingShowsNowhere
shows_nowhere accounts transfers sees began now new events from to course rise may digest question
    moment reply key batch le replied available =
    let owns = own_happenings digest events in
    let meaning = meaning_in question in
    let all =
    course_in_time began now events course events ([], sym (append-nil events)) may from to rise in
    let settled =
    all_settled accounts transfers from to owns (own_in_time from to digest (all_of events) all)
    (began digest) (began digest) (both_unsettled from (began digest)) in
    (replied.answered available).told
    ∙ (ap (λ (tenant : Option Machine). outcome_text (served_to tenant meaning moment).told)
    (ap now key ∙ (sees began now events course digest).left)
    ∙ ap outcome_text
    (both_told accounts transfers to moment meaning batch le
    (after_all (began digest) (without_settlements owns)) (after_all (began digest) owns) settled))
