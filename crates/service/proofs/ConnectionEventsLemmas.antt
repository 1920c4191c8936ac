-- A connection as a course.
use Rattle.std.proofs.Common.{◌⊎◌, ℕ, inl, inr, List, [], ◌++◌, refl, sym, subst}
use Rattle.std.proofs.lemmas.List.{append-nil}
use Rattle.chain.specs.Ledgers.{LedgersMeaning, Tenants}
use Rattle.ledger_http.specs.declared.reply.Reply.{Reply}
use Rattle.ledger_http.specs.Question.{asked_of}
use Rattle.service.specs.Connections.{Connection, IsFirstAnswered, IsTurnedAway, LacksMemory}
use Rattle.service.specs.Connections.{IsCutOff}
use Rattle.service.specs.Courses.{Event, Replied, Happens, Course, Begin, Then}
use Rattle.service.specs.Courses.{ResponsesHappen}
use Rattle.service.specs.ConnectionEvents.{event_in, events_in, ExchangesLeadOn}
use Rattle.service.specs.ConnectionEvents.{ConnectionsAreCourses}
use Rattle.service.specs.InTurn.{Nothing, More}
use Rattle.service.specs.ExchangeLaws.{HeadsAreUnique, answers_asked, live_before}

-- a response is what happens
pub responses_happen : HeadsAreUnique → ResponsesHappen
responses_happen unique old new bytes moment reply event to r =
    subst (λ (e : Event). Happens old e new) (sym to.is) (record {
      answered =
          answers_asked unique old new bytes to.head (asked_of bytes to.head) moment reply r to.has
          refl;
      same = r.same;
    })

cut_off :
    {S C : Type 0} (t : LedgersMeaning S) (first : Tenants) (events : List Event)
    (Holds : List ℕ → Type 0) (most : List ℕ → ℕ) (old new : Connection S C) →
    Course first events (t.tenants old.ledgers) → IsCutOff Holds most old new →
    Course first (events ++ []) (t.tenants new.ledgers)
cut_off t first events Holds most old new course cut =
    subst (λ (es : List Event). Course first es (t.tenants new.ledgers)) (sym (append-nil events))
    (subst (λ ledgers. Course first events (t.tenants ledgers)) (sym cut.ledgers) course)

one_more :
    {S C : Type 0} (t : LedgersMeaning S) (gives : C → ℕ → C → Type 0) → HeadsAreUnique →
    (first : Tenants) (events : List Event) (old new : Connection S C) (reply : Reply)
    (by :
    IsFirstAnswered t gives old reply new ⊎ (IsTurnedAway old reply new ⊎ LacksMemory old reply new)) →
    t.is_live new.ledgers → Course first events (t.tenants old.ledgers) →
    Course first (events ++ event_in reply by) (t.tenants new.ledgers)
one_more t gives unique first events old new reply (inl answered) live course =
    let head = answered.early.head in
    let event = Replied (asked_of answered.message head) answered.moment reply in
    Then events (t.tenants old.ledgers) event (t.tenants new.ledgers) course tt
    (responses_happen unique (t.tenants old.ledgers) (t.tenants new.ledgers) answered.message
    answered.moment reply event
    (record { head = head; has = answered.early.has; is = refl; whole = answered.early.whole })
    (answered.responds live))
one_more t gives unique first events old new reply (inr (inl away)) live course =
    cut_off t first events _ _ old new course away.cut
one_more t gives unique first events old new reply (inr (inr lacks)) live course =
    cut_off t first events _ _ old new course lacks.cut

pub exchanges_lead_on :
    {S C : Type 0} (t : LedgersMeaning S) (gives : C → ℕ → C → Type 0) → HeadsAreUnique →
    ExchangesLeadOn t gives
exchanges_lead_on t gives unique first events old new reply exchange live course =
    one_more t gives unique first events old new reply exchange.by live course

-- the exchanges of a connection are a course
pub connections_are_courses :
    {S C : Type 0} (t : LedgersMeaning S) (gives : C → ℕ → C → Type 0) → HeadsAreUnique →
    ((a b : S) → t.follows a b → t.is_live b → t.is_live a) → ConnectionsAreCourses t gives
connections_are_courses t gives unique lived first last told Nothing live = Begin
connections_are_courses t gives unique lived first last told (More rs mid reply next runs step)
    live =
    one_more t gives unique (t.tenants first.ledgers) (events_in runs) mid next reply step.by live
    (connections_are_courses t gives unique lived first mid rs runs
    (live_before t gives mid next reply lived step.by live))
