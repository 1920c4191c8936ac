-- What the clients of a round are told that was lost with the disk.
use Rattle.std.proofs.Common.{◌≡◌, ◌≢◌, ◌⊎◌, ◌+◌, inl, inr, refl, ap, sym, ◌∙◌, subst, ℕ, true}
use Rattle.std.proofs.Common.{List, [], ◌∷◌, ◌++◌, Option, Some, Result, Ok}
use Rattle.std.proofs.Math.Path.{fun_ext}
use Rattle.std.proofs.lemmas.Grind.{flat_map-append}
use Rattle.std.specs.List.{flat_map}
use Rattle.chain.specs.Ledgers.{LedgersMeaning, Tenants}
use Rattle.ledger_http.specs.declared.early.Early.{Early}
use Rattle.ledger_http.specs.declared.reply.Reply.{Reply}
use Rattle.ledger_http.specs.ReplyText.{reply_text}
use Rattle.ledger_http.specs.Question.{Question, asked_of}
use Rattle.service.specs.declared.turns.Message.{Message}
use Rattle.service.specs.ConnectionEvents.{event_in}
use Rattle.service.specs.Courses.{Event, untold_in}
use Rattle.service.specs.Courses as course
use Rattle.service.specs.Deeds as service
use Rattle.service.specs.Replies.{unavailable}
use Rattle.service.specs.Responds.{AnswersAsked}
use Rattle.service.specs.Seen.{SeenAt, Whole, seen}
use Rattle.service.specs.Turns.{RespondsTo, RespondInTurn, TakeTurns}
use Rattle.clients.specs.Talk.{Talk, may_answer}
use Rattle.clients.specs.Answering.{IsReplyReady}
use Rattle.clients.specs.Deeds.{Room, Act, Replied, IsActed, Lives}
use Rattle.service.specs.InTurn.{Nothing, More}
use Rattle.clients.specs.Within.{replied_to, Asks, TellsUnavailable, HeadsAreUnique}
use Rattle.polling.specs.Peers.{Doing}
use Rattle.polling.specs.Serving.{Hall, rules, AreGiven, HasFailed, Fails}
use Rattle.polling.specs.Serving.{events_by, events_of, AreToldUnavailable}
use Rattle.polling.specs.Seating.{with_talk, SeatsNow, held, HoldsHall, replies_in}
use Rattle.polling.specs.Round.{AreCopied, IsPutTo, moments_of, AreToldLost}
use Rattle.polling.specs.declared.round.Member.{Member}
use Rattle.polling.proofs.OneLemmas.{once, replies_both, with_talk-own, with_talk-other}
use Rattle.polling.specs.Standing.{stands_after}
use Rattle.polling.proofs.StandLemmas.{after_stand, owes_after, keeps_after}
use Rattle.polling.proofs.AllLemmas.{keeps_room}
use Rattle.polling.proofs.SeatLemmas.{keeps_at}
use Rattle.polling.proofs.RoundLemmas.{was_next}

-- what was answered was done
deed_done :
    HeadsAreUnique → (message : Message) (reply : Reply) (question : Question) (old new : Tenants) →
    Asks message.bytes.items question → RespondsTo old message reply new → reply ≢ unavailable →
    service.IsDeedDone (service.asking question message.moment) old new
deed_done unique message reply question old new asks responds available =
    let answers =
    subst
    (λ (asked : Result Question Early).
    AnswersAsked old new asked message.moment (reply_text reply))
    (ap (asked_of message.bytes.items)
    (unique message.bytes.items responds.head asks.0 responds.has asks.1)
    ∙ asks.2)
    (responds.answered available) in
    record { may = tt; own = answers.own; others = answers.others }

done_then :
    (deeds : List service.Deed) (deed : service.Deed) (old mid new : Tenants) →
    service.AreDone deeds old mid → service.IsDeedDone deed mid new →
    service.AreDone (deeds ++ deed ∷ []) old new
done_then [] deed old mid new keeps done = (
  new,
  subst (λ (from : Tenants). service.IsDeedDone deed from new) (fun_ext keeps) done,
  λ digest. refl,
)
done_then (before ∷ deeds) deed old mid new dones done =
    (dones.0, dones.1, done_then deeds deed dones.0 mid new dones.2 done)

none_more :
    (last machines : Tenants) (replies : List Reply) → RespondInTurn machines [] replies last →
    last ≡ machines
none_more last machines [] same = same
none_more last machines (reply ∷ replies) none = absurd none

-- what one client is told, and its event
abbrev pub IsTold :
    {S C : Type 0} → LedgersMeaning S → (C → ℕ → C → Type 0) → S → C → Talk → S → C → Talk
    → List Event → Type 0
IsTold t gives ledgers moments old ledgers_now moments_now new events =
    (has : IsReplyReady t gives ledgers moments old unavailable ledgers_now moments_now new)
    × (event_in unavailable (has.exchange [] (λ ended. refl)).by ≡ events)

-- a client in a hall is told so
pub record IsToldIn {S C P : Type 0} (t : LedgersMeaning S) (gives : C → ℕ → C → Type 0)
    (ledgers : S) (moments_now : C) (peers : P) (seats_now : ℕ → Option Talk) (next client : ℕ)
    (events : List Event) (first : Hall (SeenAt S) C P) : Type 0 where
  pub room : Room (SeenAt S) C
  pub done : IsActed (seen t) gives first.room (Replied client unavailable) room
  pub are : events_by (Replied client unavailable) done ≡ events
  pub keeps :
      HoldsHall (held (Whole ledgers) moments_now peers seats_now next) (record first { room = room })

told_in :
    {S C P : Type 0} (t : LedgersMeaning S) (gives : C → ℕ → C → Type 0) (ledgers : S)
    (moments moments_now : C) (peers : P) (seats seats_now : ℕ → Option Talk) (next client : ℕ)
    (talk talk_now : Talk) (events : List Event) (first : Hall (SeenAt S) C P) →
    seats client ≡ Some talk → SeatsNow client (Some talk_now) seats seats_now →
    may_answer talk ≡ true →
    IsTold (seen t) gives (Whole ledgers) moments talk (Whole ledgers) moments_now talk_now events →
    HoldsHall (held (Whole ledgers) moments peers seats next) first →
    IsToldIn t gives ledgers moments_now peers seats_now next client events first
told_in {S} {C} {P} t gives ledgers moments moments_now peers seats seats_now next client talk
    talk_now events first was now may told keeps =
    let talks = first.room.talks in
    let here = sym (keeps.seated client talk was) in
    let all =
    subst
    (λ (l : SeenAt S).
    IsTold (seen t) gives l first.room.moments (talks client) (Whole ledgers) moments_now
    (with_talk client talk_now talks client) events)
    (sym keeps.ledgers)
    (subst
    (λ (m : C).
    IsTold (seen t) gives (Whole ledgers) m (talks client) (Whole ledgers) moments_now
    (with_talk client talk_now talks client) events)
    (sym keeps.moments)
    (subst
    (λ (old : Talk).
    IsTold (seen t) gives (Whole ledgers) moments old (Whole ledgers) moments_now
    (with_talk client talk_now talks client) events)
    here
    (subst
    (λ (new : Talk).
    IsTold (seen t) gives (Whole ledgers) moments talk (Whole ledgers) moments_now new events)
    (sym (with_talk-own client talk_now talks)) told))) in
    record {
      room = record {
        ledgers = Whole ledgers;
        moments = moments_now;
        talks = with_talk client talk_now talks;
      };
      done = record {
        does = (all.0, subst (λ (old : Talk). may_answer old ≡ true) here may);
        others = λ other differ. with_talk-other client other talk_now talks differ;
      };
      are = all.1;
      keeps =
          keeps_at client (Whole ledgers) (Whole ledgers) moments moments_now peers peers first.peers
          seats seats_now next talk talk_now first was now keeps.peers keeps;
    }

-- some clients of a hall were told so; and what these messages lead to leads on from what was untold
pub record HasTold {S C P : Type 0} (t : LedgersMeaning S) (gives : C → ℕ → C → Type 0)
    (messages left : List Message) (ledgers : S) (last : C) (peers : P)
    (seats_now : ℕ → Option Talk) (next count : ℕ) (first : Hall (SeenAt S) C P) : Type 0 where
  pub deeds : List Act
  pub room : Room (SeenAt S) C
  pub moments : C
  pub lives : Lives (SeenAt S) C (seen t) gives first.room deeds room
  pub told : AreToldUnavailable first.gone lives
  pub keeps :
      HoldsHall (held (Whole ledgers) moments peers seats_now next) (record first { room = room })
  pub replies : replies_in deeds ≡ count
  pub given : AreGiven gives moments (moments_of left) last
  pub done :
      (machines found : Tenants) (answers : List Reply)
      → TakeTurns messages machines answers found
      → (mid : Tenants)
      × (rest : List Reply)
      × service.AreDone (flat_map untold_in (events_of lives)) machines mid
      × TakeTurns left mid rest found

-- the clients so far were told so
pub record AreToldSoFar {S C P : Type 0} (t : LedgersMeaning S) (gives : C → ℕ → C → Type 0)
    (does : P → Doing → P → Type 0) (messages : List Message) (seats : ℕ → Option Talk)
    (members : List Member) (seats_now : ℕ → Option Talk) (count : ℕ) : Type 0 where
  pub left : List Message
  pub copied : AreCopied seats_now members left
  pub told :
      (ledgers : S) (moments last : C) (peers : P) (next : ℕ) (first : Hall (SeenAt S) C P)
      → t.follows ledgers ledgers
      → AreGiven gives moments (moments_of messages) last
      → HoldsHall (held (Whole ledgers) moments peers seats next) first
      → HasTold t gives messages left ledgers last peers seats_now next count first

module _ {S C P : Type 0} (t : LedgersMeaning S) (gives : C → ℕ → C → Type 0)
    (renews : Option ℕ → S → S → Type 0) (waits : List ℕ → Type 0) (does : P → Doing → P → Type 0) where
  -- nobody is told yet
  pub told_none :
      (messages : List Message) (seats : ℕ → Option Talk) (members : List Member) →
      AreCopied seats members messages →
      AreToldSoFar t gives does messages seats members seats 0
  told_none messages seats members copied = record {
    left = messages;
    copied = copied;
    told = λ ledgers moments last peers next first follows given keeps. record {
      deeds = [];
      room = first.room;
      moments = moments;
      lives = Nothing;
      told = tt;
      keeps =
          keeps_room (held (Whole ledgers) moments peers seats next) first first.room first.stands
          (Whole ledgers) moments keeps.ledgers keeps.moments refl keeps.stands keeps;
      replies = refl;
      given = given;
      done = λ machines found answers turns. (machines, answers, λ digest. refl, turns);
    };
  }

  -- what is untold with one more
  untold_more :
      HeadsAreUnique → (message : Message) (left : List Message) (question : Question)
      (events : List Event) (machines mid found : Tenants) (rest : List Reply) →
      Asks message.bytes.items question →
      service.AreDone (flat_map untold_in events) machines mid →
      TakeTurns (message ∷ left) mid rest found →
      (next : Tenants)
      × (behind : List Reply)
      × service.AreDone
      (flat_map untold_in (events ++ course.Replied (Ok question) message.moment unavailable ∷ []))
      machines next
      × TakeTurns left next behind found
  untold_more unique message left question events machines mid found [] asks dones turns =
      absurd turns.respond
  untold_more unique message left question events machines mid found (reply ∷ rest) asks dones turns =
      let next = turns.respond.0 in (
        next,
        rest,
        subst (λ (deeds : List service.Deed). service.AreDone deeds machines next)
            (sym
            (flat_map-append untold_in events
            (course.Replied (Ok question) message.moment unavailable ∷ [])))
            (done_then (flat_map untold_in events) (service.asking question message.moment) machines
            mid next dones
            (deed_done unique message reply question mid next asks turns.respond.1
            turns.available.0)),
        record { respond = turns.respond.2; available = turns.available.1 },
      )

  told_more_of :
      HeadsAreUnique → TellsUnavailable (seen t) gives → (messages : List Message)
      (seats : ℕ → Option Talk) (member : Member) (members : List Member)
      (seats_now seats_then : ℕ → Option Talk) (count : ℕ) (left : List Message)
      (so_far : AreToldSoFar t gives does messages seats (member ∷ members) seats_now count) →
      so_far.left ≡ left → AreCopied seats_now (member ∷ members) left →
      IsPutTo member unavailable seats_now seats_then →
      AreToldSoFar t gives does messages seats members seats_then (count + 1)
  told_more_of unique tells messages seats member members seats_now seats_then count [] so_far is
      copied now =
      absurd copied
  told_more_of unique tells messages seats member members seats_now seats_then count (message ∷ left)
      so_far is copied now =
      let number = member.number in
      let next_one = was_next member members message left unavailable seats_now seats_then copied now in
      let talk = next_one.talk in
      let copy = next_one.copy in
      record {
        left = left;
        copied = next_one.copied;
        told = λ ledgers moments last peers next first follows given keeps.
            let so = so_far.told ledgers moments last peers next first follows given keeps in
            let rest =
            subst (λ (ms : List Message). AreGiven gives so.moments (moments_of ms) last) is
            so.given in
            let event = course.Replied (Ok copy.question) message.moment unavailable in
            let here = record first { room = so.room } in
            let one =
            told_in t gives ledgers so.moments rest.0 peers seats_now seats_then next number talk
            (replied_to member.size next_one.goes_on unavailable talk) (event ∷ []) here
            next_one.was next_one.now copy.ready.may
            (tells (Whole ledgers) so.moments rest.0 talk member.size copy.question message.moment
            next_one.goes_on copy.ready next_one.going rest.1 follows)
            so.keeps in
            let deed = Replied number unavailable in
            let lives = More so.deeds so.room deed one.room so.lives one.done in
            record {
              deeds = so.deeds ++ deed ∷ [];
              room = one.room;
              moments = rest.0;
              lives = lives;
              told = (so.told, (so.keeps.there number talk next_one.was, refl));
              keeps = one.keeps;
              replies =
                  replies_both so.deeds (deed ∷ []) count 1 (count + 1) so.replies refl refl;
              given = rest.2;
              done = λ machines found answers turns.
                  let before = so.done machines found answers turns in
                  subst
                  (λ (events : List Event).
                  (mid : Tenants)
                  × (behind : List Reply)
                  × service.AreDone (flat_map untold_in (events_of so.lives ++ events)) machines mid
                  × TakeTurns left mid behind found)
                  (sym one.are)
                  (untold_more unique message left copy.question (events_of so.lives) machines
                  before.0 found before.1 next_one.asks before.2
                  (subst (λ (ms : List Message). TakeTurns ms before.0 before.1 found) is before.3));
            };
      }

  -- one more is told
  pub told_more :
      HeadsAreUnique → TellsUnavailable (seen t) gives → (messages : List Message)
      (seats : ℕ → Option Talk) (before : List Member) (member : Member) (members : List Member)
      (seats_now seats_then : ℕ → Option Talk) (count : ℕ) → before ≡ member ∷ members →
      AreToldSoFar t gives does messages seats before seats_now count →
      IsPutTo member unavailable seats_now seats_then →
      AreToldSoFar t gives does messages seats members seats_then (count + 1)
  told_more unique tells messages seats before member members seats_now seats_then count here so_far
      now =
      let so =
      subst
      (λ (ms : List Member). AreToldSoFar t gives does messages seats ms seats_now count) here so_far in
      told_more_of unique tells messages seats member members seats_now seats_then count so.left so refl
      so.copied now

  -- what may be found of a round, all of whose clients were told
  lost_found :
      (old : S) (messages : List Message) (events : List Event) (found : Tenants) →
      ((answers : List Reply) → TakeTurns messages (t.tenants old) answers found →
      (mid : Tenants)
      × (rest : List Reply)
      × service.AreDone (flat_map untold_in events) (t.tenants old) mid
      × TakeTurns [] mid rest found) →
      t.may_find old found
      ⊎ (t.is_live old
      × ((replies : List Reply) × TakeTurns messages (t.tenants old) replies found)) →
      t.may_find old found
      ⊎ (t.is_live old × service.AreDone (flat_map untold_in events) (t.tenants old) found)
  lost_found old messages events found all (inl before) = inl before
  lost_found old messages events found all (inr done) =
      let so = all done.1.0 done.1.1 in
      inr (
        done.0,
        subst
            (λ (now : Tenants). service.AreDone (flat_map untold_in events) (t.tenants old) now)
            (sym (none_more found so.0 so.1 so.3.respond)) so.2,
      )

  -- all are told
  pub told_over :
      (messages : List Message) (seats : ℕ → Option Talk) (members : List Member)
      (seats_now : ℕ → Option Talk) (count : ℕ)
      (so_far : AreToldSoFar t gives does messages seats members seats_now count) →
      so_far.left ≡ [] → AreToldLost t gives renews waits does messages seats seats_now count
  told_over messages seats members seats_now count so_far over ledgers ledgers_now moments last peers
      next follows given lost first keeps =
      let so = so_far.told ledgers moments last peers next first follows given keeps in
      let stands = stands_after so.deeds first.stands in
      let after =
      record first { room = record so.room { ledgers = Whole ledgers_now }; stands = stands } in
      let all_given =
      subst (λ (ms : List Message). AreGiven gives so.moments (moments_of ms) last) over so.given in record {
        deeds = so.deeds;
        last = after;
        leads =
            once (rules t gives renews waits does) first after so.deeds
            (Fails so.deeds so.room (Whole ledgers_now) stands so.lives so.told
            (subst
            (λ (l : SeenAt S). HasFailed (seen t) l (events_of so.lives) (Whole ledgers_now))
            (sym keeps.ledgers)
            (record {
              follows = lost.follows;
              lived = lost.lived;
              same = lost.same;
              found = λ found may.
                  lost_found ledgers messages (events_of so.lives) found
                  (λ answers turns.
                  let done = so.done (t.tenants ledgers) found answers turns in (
                    done.0,
                    done.1,
                    done.2,
                    subst (λ (ms : List Message). TakeTurns ms done.0 done.1 found) over done.3,
                  ))
                  (lost.found found may);
            }))
            refl);
        keeps =
            keeps_room (held (Whole ledgers) so.moments peers seats_now next)
            (record first { room = so.room }) (record so.room { ledgers = Whole ledgers_now }) stands
            (Whole ledgers_now) last refl (so.keeps.moments ∙ sym all_given) refl
            (after_stand so.deeds seats_now first.stands so.keeps.stands) so.keeps;
        count = so.replies;
        owes = owes_after so.deeds first.stands;
        spares = keeps_after ⊥ so.deeds first.stands;
      }
