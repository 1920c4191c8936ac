-- Laws of ledgers that are opened again: what has led to them leads on, by events and by openings.
use Rattle.std.proofs.Common.{◌≡◌, List, [], ◌∷◌, ◌++◌, refl, inl, inr, sym, subst, ap, ◌∙◌}
use Rattle.std.proofs.Common.{append_assoc}
use Rattle.std.proofs.Math.Logic.{∥∥₁_map, ∥∥₁_elim}
use Rattle.std.proofs.lemmas.List.{append-nil}
use Rattle.std.specs.List.{AllByRecursion, flat_map}
use Rattle.chain.specs.Ledgers.{Tenants, KeepsAll}
use Rattle.service.specs.Deeds.{Deed, AreDone}
use Rattle.service.specs.Courses.{Event, Reopened, HappenInTurn, IsStill, untold_in}
use Rattle.service.specs.Courses.{Begin, Then}
use Rattle.service.specs.Openings.{RunMeaning, IsSettled, IsFoundLive, FoundAfter}
use Rattle.service.specs.Openings.{As_now, As_before, As_done}
use Rattle.service.specs.Openings.{FoundAfterAll, All_as_now, All_as_before, All_done}
use Rattle.service.specs.Openings.{Moves, MovesAll, IsOpened, CourseSince, Leads, MayFind, HasLed}
use Rattle.service.specs.Openings.{GoesOn, IsFree, MayBegin}
use Rattle.service.specs.EventLaws.{all_append, untold_still, still_happen, happen_then}
use Rattle.service.specs.EventLaws.{course_then, nothing_found, found_since}

module _ {S : Type 0} (t : RunMeaning S) where
  -- no events
  pub moves_none : (ledgers : S) → MovesAll t ledgers [] ledgers
  moves_none ledgers = record {
    happen = λ live. refl;
    lived = λ live. live;
    found = λ found may. All_as_before tt may;
  }

  one_found :
      (old new : S) (event : Event) (found : Tenants) → FoundAfter t old event new found →
      FoundAfterAll t old (event ∷ []) new found
  one_found old new event found (As_now live keeps) = All_as_now live keeps
  one_found old new event found (As_before still before) = All_as_before (still, tt) before
  one_found old new event found (As_done deed more untold live done) =
      All_done [] (event ∷ []) [] (t.tenants old) refl (untold_still event deed more untold, tt)
      live refl
      (subst (λ (deeds : List Deed). AreDone deeds (t.tenants old) found)
      (sym (append-nil (untold_in event) ∙ untold)) done)

  -- one event
  pub moves_one : (old new : S) (event : Event) → Moves t old event new → MovesAll t old (event ∷ []) new
  moves_one old new event moves = record {
    happen = λ live. (t.tenants new, moves.happens live, refl);
    lived = moves.lived;
    found = λ found may. one_found old new event found (moves.found found may);
  }

  module _ (old mid new : S) (events more : List Event) (first : MovesAll t old events mid) where
    found_before :
        (found : Tenants) → AllByRecursion IsStill more → FoundAfterAll t old events mid found →
        FoundAfterAll t old (events ++ more) new found
    found_before found still (All_as_now live keeps) =
        All_done events [] more (t.tenants mid) refl still (first.lived live) (first.happen live)
        keeps
    found_before found still (All_as_before still_before before) =
        All_as_before (all_append IsStill events more still_before still) before
    found_before found still (All_done before round since last are still_since live happen done) =
        All_done before round (since ++ more) last
        (ap (λ (es : List Event). es ++ more) are
        ∙ (append_assoc before (round ++ since) more
        ∙ ap (λ (es : List Event). before ++ es) (append_assoc round since more)))
        (subst (AllByRecursion IsStill) (append_assoc round since more)
        (all_append IsStill (round ++ since) more still_since still))
        live happen done

    found_then :
        (found : Tenants) → FoundAfterAll t mid more new found →
        FoundAfterAll t old (events ++ more) new found
    found_then found (All_as_now live keeps) = All_as_now live keeps
    found_then found (All_as_before still before) =
        found_before found still (first.found found before)
    found_then found (All_done before round since last are still live happen done) =
        All_done (events ++ before) round since last
        (ap (λ (es : List Event). events ++ es) are
        ∙ sym (append_assoc events before (round ++ since)))
        still (first.lived live)
        (happen_then events before (t.tenants old) (t.tenants mid) last (first.happen live) happen)
        done

    -- events behind others
    pub moves_then : MovesAll t mid more new → MovesAll t old (events ++ more) new
    moves_then second = record {
      happen = λ live.
          happen_then events more (t.tenants old) (t.tenants mid) (t.tenants new)
          (first.happen (second.lived live)) (second.happen live);
      lived = λ live. first.lived (second.lived live);
      found = λ found may. found_then found (second.found found may);
    }

-- nothing is lost
now_found :
    (Since : List Event → Tenants → Type 0) (last found : Tenants) → Leads Since last →
    KeepsAll last found → MayFind Since found
now_found Since last found leads keeps = record {
  events = leads.events;
  began = leads.began;
  last = last;
  course = leads.course;
  deeds = [];
  follows = nothing_found leads.events;
  happens = keeps;
}

module _ (Since Now : List Event → Tenants → Type 0) where
  -- events more
  course_on :
      (events more : List Event) (began mid new : Tenants) → GoesOn Since more Now →
      CourseSince Since events began mid → AllByRecursion IsFree more →
      HappenInTurn mid more new → CourseSince Now (events ++ more) began new
  course_on events more began mid new on course free happen = record {
    since = on events began course.since;
    course = course_then events more began mid new course.course free happen;
  }

  events_lead :
      (mid new : Tenants) (more : List Event) → GoesOn Since more Now →
      AllByRecursion IsFree more → HappenInTurn mid more new → Leads Since mid → Leads Now new
  events_lead mid new more on free happen leads = record {
    events = leads.events ++ more;
    began = leads.began;
    course = course_on leads.events more leads.began mid new on leads.course free happen;
  }

  still_finds :
      (found : Tenants) (more : List Event) → GoesOn Since more Now → AllByRecursion IsFree more →
      AllByRecursion IsStill more → MayFind Since found → MayFind Now found
  still_finds found more on free still f = record {
    events = f.events ++ more;
    began = f.began;
    last = f.last;
    course =
        course_on f.events more f.began f.last f.last on f.course free
        (still_happen more f.last still);
    deeds = f.deeds;
    follows = found_since f.deeds f.events more f.follows still;
    happens = f.happens;
  }

  round_finds :
      (mid last found : Tenants) (more before round since : List Event) → GoesOn Since more Now →
      AllByRecursion IsFree more → more ≡ before ++ (round ++ since) →
      AllByRecursion IsStill (round ++ since) → HappenInTurn mid before last →
      AreDone (flat_map untold_in round) last found → Leads Since mid → MayFind Now found
  round_finds mid last found more before round since on free are still happen done leads = record {
    events = leads.events ++ more;
    began = leads.began;
    last = last;
    course =
        course_on leads.events more leads.began mid last on leads.course free
        (subst (λ (all : List Event). HappenInTurn mid all last) (sym are)
        (happen_then before (round ++ since) mid last last happen
        (still_happen (round ++ since) last still)));
    deeds = flat_map untold_in round;
    follows = record {
      before = leads.events ++ before;
      round = round;
      since = since;
      are =
          ap (λ (all : List Event). leads.events ++ all) are
          ∙ sym (append_assoc leads.events before (round ++ since));
      still = still;
      all = refl;
    };
    happens = done;
  }

  module _ {S : Type 0} (t : RunMeaning S) where
    -- what is there behind events
    pub here_more :
        (mid new : S) (events : List Event) → GoesOn Since events Now →
        AllByRecursion IsFree events → HappenInTurn (t.tenants mid) events (t.tenants new) →
        t.is_live mid → HasLed t Since mid → ∥ Leads Now (t.tenants new) ∥₁
    here_more mid new events on free happen live led =
        ∥∥₁_map (led.here live) (λ leads.
        events_lead (t.tenants mid) (t.tenants new) events on free happen leads)

    -- what may be found behind them
    pub found_more :
        (mid new : S) (events : List Event) (found : Tenants) → GoesOn Since events Now →
        AllByRecursion IsFree events → (t.is_live new → ∥ Leads Now (t.tenants new) ∥₁) →
        HasLed t Since mid → FoundAfterAll t mid events new found → ∥ MayFind Now found ∥₁
    found_more mid new events found on free here led (All_as_now live keeps) =
        ∥∥₁_map (here live) (λ leads. now_found Now (t.tenants new) found leads keeps)
    found_more mid new events found on free here led (All_as_before still before) =
        ∥∥₁_map (led.found found before) (λ f. still_finds found events on free still f)
    found_more mid new events found on free here led
        (All_done before round since last are still live happen done) =
        ∥∥₁_map (led.here live) (λ leads.
        round_finds (t.tenants mid) last found events before round since on free are still happen
        done leads)

    -- behind events
    pub events_more :
        (mid new : S) (events : List Event) → GoesOn Since events Now →
        AllByRecursion IsFree events → MovesAll t mid events new → HasLed t Since mid →
        HasLed t Now new
    events_more mid new events on free moves led =
        let here : (t.is_live new → ∥ Leads Now (t.tenants new) ∥₁) =
        λ live. here_more mid new events on free (moves.happen live) (moves.lived live) led in
        record {
          here = here;
          found = λ found may.
              found_more mid new events found on free here led (moves.found found may);
        }

    -- behind one event
    pub event_more :
        (mid new : S) (event : Event) → GoesOn Since (event ∷ []) Now → IsFree event →
        Moves t mid event new → HasLed t Since mid → HasLed t Now new
    event_more mid new event on free moves led =
        events_more mid new (event ∷ []) on (free, tt) (moves_one t mid new event moves) led

    -- where no event is
    pub same_more : (ledgers : S) → GoesOn Since [] Now → HasLed t Since ledgers → HasLed t Now ledgers
    same_more ledgers on led = events_more ledgers ledgers [] on tt (moves_none t ledgers) led

    opened_here :
        (mid new : S) → ((deeds : List Deed) → GoesOn Since (Reopened deeds ∷ []) Now) →
        IsOpened t mid new → HasLed t Since mid → t.is_live new → ∥ Leads Now (t.tenants new) ∥₁
    opened_here mid new on opened led live =
        ∥∥₁_elim (opened.member live) squash₁ (λ may.
        ∥∥₁_map (led.found (t.tenants new) may) (λ f. record {
          events = f.events ++ Reopened f.deeds ∷ [];
          began = f.began;
          course = record {
            since = on f.deeds f.events f.began f.course.since;
            course =
                Then f.events f.last (Reopened f.deeds) (t.tenants new) f.course.course f.follows
                f.happens;
          };
        }))

    -- behind an opening
    pub opened_more :
        (mid new : S) → ((deeds : List Deed) → GoesOn Since (Reopened deeds ∷ []) Now) →
        IsOpened t mid new → HasLed t Since mid → HasLed t Now new
    opened_more mid new on opened led = record {
      here = opened_here mid new on opened led;
      found = λ found may.
          let now = opened.found found may in
          ∥∥₁_map (opened_here mid new on opened led now.0) (λ leads.
          now_found Now (t.tenants new) found leads now.1);
    }

module _ {S : Type 0} (t : RunMeaning S) (Now : List Event → Tenants → Type 0) where
  -- at a time from which on all is told, by the machines that are there or that an opening may find
  pub begun_anew :
      (new : S) → ((began : Tenants) → MayBegin t new began → Now [] began) → HasLed t Now new
  begun_anew new since = record {
    here = λ live. ∣ (record {
      events = [];
      began = t.tenants new;
      course = record {
        since = since (t.tenants new) (inl (live, λ digest. refl));
        course = Begin;
      };
    }) ∣₁;
    found = λ found may. ∣ (record {
      events = [];
      began = found;
      last = found;
      course = record { since = since found (inr may); course = Begin };
      deeds = [];
      follows = nothing_found [];
      happens = λ digest. refl;
    }) ∣₁;
  }

  -- at the beginning, over ledgers that are live where an opening may find anything
  pub none_yet :
      (old : S) → IsFoundLive t old → IsSettled t old → Now [] (t.tenants old) → HasLed t Now old
  none_yet old live settled since = record {
    here = λ still_live. ∣ (record {
      events = [];
      began = t.tenants old;
      course = record { since = since; course = Begin };
    }) ∣₁;
    found = λ found may. ∣ (record {
      events = [];
      began = t.tenants old;
      last = t.tenants old;
      course = record { since = since; course = Begin };
      deeds = [];
      follows = nothing_found [];
      happens = settled (live found may) found may;
    }) ∣₁;
  }

-- settled ledgers that are what was to be found are opened again
pub is_opened :
    {S : Type 0} (t : RunMeaning S) (old new : S) →
    (t.is_live new → ∥ t.may_find old (t.tenants new) ∥₁) →
    ((found : Tenants) → t.may_find new found → t.is_live new) → IsSettled t new → IsOpened t old new
is_opened t old new member live settled = record {
  member = member;
  found = λ found may. let now = live found may in (now, settled now found may);
}
