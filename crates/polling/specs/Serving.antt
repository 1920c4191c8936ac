-- What serving clients at once does.
use Rattle.std.specs.Prelude.{◌≡◌, ◌≢◌, ◌⊎◌, ◌+◌, refl, ℕ, Bool, true, false, List, [], ◌∷◌, ◌++◌, nat_eq, if◌then◌else◌}
use Rattle.std.specs.Prelude.{Option, Some, None}
use Rattle.std.specs.List.{flat_map}
use Rattle.chain.specs.Ledgers.{LedgersMeaning, Tenants, KeepsAll}
use Rattle.service.specs.ConnectionEvents.{event_in}
use Rattle.service.specs.Courses.{Event, untold_in}
use Rattle.service.specs.Deeds as service
use Rattle.service.specs.Openings.{run_meaning, IsSettled}
use Rattle.service.specs.Replies.{unavailable}
use Rattle.service.specs.Seen.{SeenAt, Whole, seen}
use Rattle.clients.specs.Answering.{IsWanting}
use Rattle.clients.specs.Talk.{Talk, new_talk}
use Rattle.clients.specs.Deeds.{Room, Act, Came, Ended, Replied, Continued, Wrote, client_of, IsActed, Lives}
use Rattle.service.specs.InTurn.{Nothing, More, events_along}
use Rattle.polling.specs.Peers.{Doing, Asked, Said, Hands}
use Rattle.polling.specs.Standing.{Standing, Awaited, has_seat, rested, leaving, with_standing, stands_behind, stands_after, MayGo, MayStir}
use Rattle.polling.specs.Kinds.{IsPutOff}
use Rattle.polling.specs.declared.peers.Told.{Told}

-- a room of clients, those who are connected, which clients have gone for good, and how each stands
pub record Hall (S C P : Type 0) : Type 0 where
  pub room : Room S C
  pub peers : P
  pub gone : ℕ → Bool
  pub stands : ℕ → Standing

abbrev pub hall :
    {S C P : Type 0} → S → C → P → (ℕ → Talk) → (ℕ → Bool) → (ℕ → Standing) → Hall S C P
hall ledgers moments peers talks gone stands = record {
  room = record { ledgers = ledgers; moments = moments; talks = talks };
  peers = peers;
  gone = gone;
  stands = stands;
}

-- What ledgers mean, and which moments are given. What a supervisor makes of ledgers, given this moment
-- if it asked for one, and which messages it puts off. What each doing makes of peers.
pub record Terms (S C P : Type 0) : Type 1 where
  pub means : LedgersMeaning S
  pub gives : C → ℕ → C → Type 0
  pub renews : Option ℕ → S → S → Type 0
  pub waits : List ℕ → Type 0
  pub does : P → Doing → P → Type 0

-- a steward attends to ledgers between transactions alone
abbrev pub renews_seen :
    {S : Type 0} → (Option ℕ → S → S → Type 0) → Option ℕ → SeenAt S → SeenAt S → Type 0
renews_seen renews given (Whole old) (Whole new) = renews given old new
renews_seen renews given old new = ⊥

-- the rules for ledgers as they are seen between messages
abbrev pub rules :
    {S C P : Type 0} → LedgersMeaning S → (C → ℕ → C → Type 0) → (Option ℕ → S → S → Type 0)
    → (List ℕ → Type 0) → (P → Doing → P → Type 0) → Terms (SeenAt S) C P
rules means gives renews waits does = record {
  means = seen means;
  gives = gives;
  renews = renews_seen renews;
  waits = waits;
  does = does;
}

-- these have gone, and this client
abbrev pub gone_with : ℕ → (ℕ → Bool) → ℕ → Bool
gone_with client gone other = if nat_eq client other then true else gone other

-- what is known of ledgers behind a deed: those that answered a message are settled
abbrev pub Settles : {S : Type 0} → LedgersMeaning S → Act → S → Type 0
Settles t (Replied client reply) ledgers = IsSettled (run_meaning t) ledgers
Settles t (Came client piece) ledgers = Unit {0}
Settles t (Ended client) ledgers = Unit {0}
Settles t (Continued client part) ledgers = Unit {0}
Settles t (Wrote client bytes) ledgers = Unit {0}

-- a client is read only where its next message is not whole, and written to only where something is
-- to be written
abbrev pub IsDueOf : Act → Talk → Type 0
IsDueOf (Came client piece) talk = IsWanting talk.unread
IsDueOf (Ended client) talk = IsWanting talk.unread
IsDueOf (Replied client reply) talk = Unit {0}
IsDueOf (Continued client part) talk = Unit {0}
IsDueOf (Wrote client bytes) talk = talk.unsent ≢ []

-- a deed of a client that has not gone, in its turn
pub record IsInTurn {S C P : Type 0} (old : Hall S C P) (deed : Act) : Type 0 where
  pub there : old.gone (client_of deed) ≡ false
  pub due : IsDueOf deed (old.room.talks (client_of deed))

-- nobody has a number: it has no seat, and never was used
pub record IsNumberFree {S C P : Type 0} (all : Hall S C P) (number : ℕ) : Type 0 where
  pub nobody : has_seat (all.stands number) ≡ false
  pub there : all.gone number ≡ false
  pub silent : all.room.talks number ≡ new_talk

-- these moments were given, one after the other
abbrev pub AreGiven : {C : Type 0} → (C → ℕ → C → Type 0) → C → List ℕ → C → Type 0
AreGiven gives first [] last = last ≡ first
AreGiven {C} gives first (moment ∷ moments) last =
    (next : C) × gives first moment next × AreGiven gives next moments last

-- this moment was given, or none was asked for
abbrev pub IsGiven : {C : Type 0} → (C → ℕ → C → Type 0) → C → Option ℕ → C → Type 0
IsGiven gives old (Some moment) new = gives old moment new
IsGiven gives old None new = new ≡ old

-- a supervisor has attended to ledgers, and asked for no moment, or for one
pub data HasAttended {S C : Type 0} (gives : C → ℕ → C → Type 0)
    (renews : Option ℕ → S → S → Type 0) (ledgers : S) (moments : C) (ledgers_now : S)
    (moments_now : C) : Type 0 where
  Unasked :
      moments_now ≡ moments → renews None ledgers ledgers_now →
      HasAttended gives renews ledgers moments ledgers_now moments_now
  Asked_once :
      (moment : ℕ) → gives moments moment moments_now → renews (Some moment) ledgers ledgers_now →
      HasAttended gives renews ledgers moments ledgers_now moments_now

-- an opening finds what is there, and that only where the ledgers are live
abbrev pub IsFoundAgain : {S : Type 0} → LedgersMeaning S → S → Type 0
IsFoundAgain t ledgers =
    (found : Tenants) → t.may_find ledgers found
    → t.is_live ledgers × KeepsAll (t.tenants ledgers) found

-- ledgers of the same machines, which an opening finds again
pub record AreAsBefore {S : Type 0} (t : LedgersMeaning S) (old new : S) : Type 0 where
  pub follows : t.follows old new
  pub lived : t.is_live new → t.is_live old
  pub same : t.is_live new → KeepsAll (t.tenants old) (t.tenants new)
  pub found : IsFoundAgain t new

-- the disk failed while a round was kept: the machines are as they were, and an opening may find
-- what it might have found before, or what is as if the round was kept
pub record FailedAs {S : Type 0} (t : LedgersMeaning S) (old : S) (IsKept : Tenants → Type 0)
    (new : S) : Type 0 where
  pub follows : t.follows old new
  pub lived : t.is_live new → t.is_live old
  pub same : t.is_live new → KeepsAll (t.tenants old) (t.tenants new)
  pub found :
      (found : Tenants) → t.may_find new found
      → t.may_find old found ⊎ (t.is_live old × IsKept found)

-- so too, where these are the events of its messages: all that was asked in them was done
abbrev pub HasFailed : {S : Type 0} → LedgersMeaning S → S → List Event → S → Type 0
HasFailed t old events new =
    FailedAs t old
    (λ found. service.AreDone (flat_map untold_in events) (t.tenants old) found) new

-- a client that has not gone is told that the ledgers are unavailable
abbrev pub IsToldUnavailable : (ℕ → Bool) → Act → Type 0
IsToldUnavailable gone (Replied client reply) = (gone client ≡ false) × (reply ≡ unavailable)
IsToldUnavailable gone (Came client piece) = ⊥
IsToldUnavailable gone (Ended client) = ⊥
IsToldUnavailable gone (Continued client part) = ⊥
IsToldUnavailable gone (Wrote client bytes) = ⊥

module _ {S C : Type 0} {t : LedgersMeaning S} {gives : C → ℕ → C → Type 0} where
  -- the event of a deed: that of a message that was replied to, if it was read whole
  abbrev pub events_by :
      {old new : Room S C} (deed : Act) → IsActed t gives old deed new → List Event
  events_by (Replied client reply) done =
      event_in reply (done.does.0.exchange [] (λ ended. refl)).by
  events_by (Came client piece) done = []
  events_by (Ended client) done = []
  events_by (Continued client part) done = []
  events_by (Wrote client bytes) done = []

  abbrev pub events_of :
      {first last : Room S C} {deeds : List Act} → Lives S C t gives first deeds last → List Event
  events_of =
      events_along {Steps = IsActed t gives} (λ old deed new done. events_by deed done)

  -- nothing is done but that clients are told so
  abbrev pub AreToldUnavailable :
      {first last : Room S C} {deeds : List Act} → (ℕ → Bool) → Lives S C t gives first deeds last
      → Type 0
  AreToldUnavailable gone Nothing = Unit {0}
  AreToldUnavailable gone (More deeds last deed next lives done) =
      AreToldUnavailable gone lives × IsToldUnavailable gone deed

-- a deed of a client in its turn, with what peers did of it; peers tell something, and are handed a
-- number that nobody has; anything else among them; a client is put off, for one of the reasons,
-- and is to be told again; a new client has a seat; a client goes, for one of the reasons; a
-- steward attends to the ledgers; a round begins, ends or is taken back; moments were given for a
-- round that was not kept; or the disk fails with a round, and all its clients are told that the
-- ledgers are unavailable
pub data Occurs (S C P : Type 0) (r : Terms S C P) (old : Hall S C P) :
    List Act → Hall S C P → Type 0 where
  Did :
      (deed : Act) (room : Room S C) (peers : P) →
      IsInTurn old deed → IsActed r.means r.gives old.room deed room →
      Settles r.means deed room.ledgers →
      Hands r.does deed (room.talks (client_of deed)) old.peers peers →
      Occurs S C P r old (deed ∷ [])
      (record old { room = room; peers = peers; stands = stands_after (deed ∷ []) old.stands })
  Tells :
      (fresh : ℕ) (told : Told) (peers : P) → IsNumberFree old fresh →
      r.does old.peers (Said fresh told) peers →
      Occurs S C P r old []
      (record old { peers = peers; stands = stands_behind (Said fresh told) old.stands })
  Stirs :
      (doing : Doing) (peers : P) → MayStir doing old.room.talks old.stands →
      r.does old.peers doing peers →
      Occurs S C P r old []
      (record old { peers = peers; stands = stands_behind doing old.stands })
  Puts_off :
      (client : ℕ) (peers : P) → IsPutOff r.waits (old.room.talks client) →
      r.does old.peers (Asked client) peers →
      Occurs S C P r old []
      (record old {
        peers = peers;
        stands = with_standing client (rested (old.stands client)) old.stands;
      })
  Joins :
      (client : ℕ) → has_seat (old.stands client) ≡ false →
      Occurs S C P r old [] (record old { stands = with_standing client Awaited old.stands })
  Goes :
      (client : ℕ) (peers : P) →
      MayGo r.does client (old.stands client) (old.room.talks client) old.peers peers →
      Occurs S C P r old []
      (record old {
        peers = peers;
        gone = gone_with client old.gone;
        stands = with_standing client (leaving (old.stands client)) old.stands;
      })
  Again :
      (ledgers : S) (moments : C) (given : Option ℕ) →
      IsGiven r.gives old.room.moments given moments → r.renews given old.room.ledgers ledgers →
      Occurs S C P r old []
      (record old { room = record old.room { ledgers = ledgers; moments = moments } })
  Rests :
      (ledgers : S) → AreAsBefore r.means old.room.ledgers ledgers →
      Occurs S C P r old [] (record old { room = record old.room { ledgers = ledgers } })
  Passes :
      (moments : C) (given : List ℕ) → AreGiven r.gives old.room.moments given moments →
      Occurs S C P r old [] (record old { room = record old.room { moments = moments } })
  Fails :
      (deeds : List Act) (room : Room S C) (ledgers : S) (stands : ℕ → Standing)
      (lives : Lives S C r.means r.gives old.room deeds room) → AreToldUnavailable old.gone lives →
      HasFailed r.means old.room.ledgers (events_of lives) ledgers →
      stands ≡ stands_after deeds old.stands →
      Occurs S C P r old deeds
      (record old { room = record room { ledgers = ledgers }; stands = stands })

-- all that happens, one after the other, and the deeds among it
pub data Proceeds (S C P : Type 0) (r : Terms S C P) (first : Hall S C P) :
    List Act → Hall S C P → Type 0 where
  Begin : Proceeds S C P r first [] first
  Then :
      (deeds : List Act) (last : Hall S C P) (more : List Act) (next : Hall S C P) →
      Proceeds S C P r first deeds last → Occurs S C P r last more next →
      Proceeds S C P r first (deeds ++ more) next

module _ {S C P : Type 0} {r : Terms S C P} where
  -- how often peers told something: in what happens, and in all that happened
  abbrev pub tellings_of :
      {old new : Hall S C P} {deeds : List Act} → Occurs S C P r old deeds new → ℕ
  tellings_of (Tells fresh told peers free said) = 1
  tellings_of happens = 0

  abbrev pub tellings :
      {first last : Hall S C P} {deeds : List Act} → Proceeds S C P r first deeds last → ℕ
  tellings Begin = 0
  tellings (Then deeds last more next serves happens) = tellings serves + tellings_of happens

  -- how often something of a round happened
  abbrev pub rounds_of :
      {old new : Hall S C P} {deeds : List Act} → Occurs S C P r old deeds new → ℕ
  rounds_of (Rests ledgers same) = 1
  rounds_of (Passes moments given passed) = 1
  rounds_of (Fails deeds room ledgers stands lives told failed begun) = 1
  rounds_of happens = 0

  abbrev pub rounds_in :
      {first last : Hall S C P} {deeds : List Act} → Proceeds S C P r first deeds last → ℕ
  rounds_in Begin = 0
  rounds_in (Then deeds last more next serves happens) = rounds_in serves + rounds_of happens
