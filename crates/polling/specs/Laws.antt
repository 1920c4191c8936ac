-- What serving many clients comes to.
use Rattle.std.specs.Prelude.{◌≡◌, ◌⊎◌, ◌≤◌, ◌+◌, ℕ, false, List, Option, None}
use Rattle.clients.specs.Talk.{new_talk}
use Rattle.clients.specs.Answering.{MayCome}
use Rattle.chain.specs.Ledgers.{Tenants}
use Rattle.clients.specs.Deeds.{Act, Lives, come_from, written_to, IsClientServed}
use Rattle.clients.specs.Deeds.{HasYet, ReadsOn, machines_after, machines_then}
use Rattle.polling.specs.Ending.{Ends, GivesTurns, Turns, most_turns}
use Rattle.service.specs.Seen.{Whole}
use Rattle.polling.specs.Standing.{Away, Debt, IsOwed, KeepsOnly}
use Rattle.polling.specs.Serving.{Hall, hall, Terms, Occurs, Did, Again, Fails, Proceeds, Begin, Then, tellings, rounds_in}
use Rattle.polling.specs.Seating.{AreEmpty, Held, held_by, HoldsHall, ServesAll, replies_in}
use Rattle.polling.specs.declared.seats.Seats.{Seats}

module _ {S C P : Type 0} {r : Terms S C P} where
  -- the machines that were there when something was read for a client last: behind what happens,
  -- and behind all that happened
  abbrev pub machines_by :
      {old new : Hall S C P} {deeds : List Act} → Tenants → Occurs S C P r old deeds new → ℕ
      → Tenants
  machines_by before (Did deed room peers turn done settled hands) client =
      machines_after client deed (r.means.tenants room.ledgers) before
  machines_by before (Fails deeds room ledgers stands lives told failed begun) client =
      machines_then before lives client
  machines_by before happens client = before

  abbrev pub machines_in :
      {first last : Hall S C P} {deeds : List Act} → Tenants → Proceeds S C P r first deeds last → ℕ
      → Tenants
  machines_in before Begin client = before
  machines_in before (Then deeds last more next serves happens) client =
      machines_by (machines_in before serves client) happens client

  -- the parts of its replies that a client was told were read while the ledgers had yet what was
  -- left when the reply was begun
  abbrev pub ReadsBy :
      {old new : Hall S C P} {deeds : List Act} → Tenants → ℕ → Occurs S C P r old deeds new
      → Type 0
  ReadsBy {old} before client (Did deed room peers turn done settled hands) =
      HasYet r.means before client deed old.room
  ReadsBy before client (Fails deeds room ledgers stands lives told failed begun) =
      ReadsOn before client lives
  ReadsBy before client happens = Unit {0}

  abbrev pub ReadsThrough :
      {first last : Hall S C P} {deeds : List Act} → Tenants → ℕ → Proceeds S C P r first deeds last
      → Type 0
  ReadsThrough before client Begin = Unit {0}
  ReadsThrough before client (Then deeds last more next serves happens) =
      ReadsThrough before client serves × ReadsBy (machines_in before serves client) client happens

-- what is written to a new client is a beginning of the replies to its own messages, in order, one
-- a message, over ledgers to which a steward attends between them, as long as its replies go on as
-- they were begun
abbrev pub EachIsServed : {S C P : Type 0} → Terms S C P → Type 0
EachIsServed {S} {C} {P} r =
    (first last : Hall S C P) (deeds : List Act) (serves : Proceeds S C P r first deeds last)
    (before : Tenants) (client : ℕ)
    → ReadsThrough before client serves
    → first.room.talks client ≡ new_talk
    → (later : List ℕ)
    → MayCome (last.room.talks client).unread later
    → IsClientServed r.means r.gives (come_from client deeds) later (written_to client deeds)
    (machines_in before serves client) (last.room.talks client)

-- where the supervisor changes nothing and asks for no moment, and no messages share a round, the
-- deeds are a run of the same ledgers
abbrev pub AreLives : {S C P : Type 0} → Terms S C P → Type 0
AreLives {S} {C} {P} r =
    ((given : Option ℕ) (old new : S) → r.renews given old new → (given ≡ None) × (new ≡ old))
    → (first last : Hall S C P) (deeds : List Act)
    → (serves : Proceeds S C P r first deeds last)
    → rounds_in serves ≡ 0
    → Lives S C r.means r.gives first.room deeds last.room

module _ {S C P : Type 0} {r : Terms S C P} where
  -- whatever a supervisor makes of the ledgers is a run of calls, and no opening
  abbrev pub OpensNone :
      {old new : Hall S C P} {deeds : List Act} → Occurs S C P r old deeds new → Type 0
  OpensNone {old} (Again ledgers moments given asked renewed) =
      r.means.follows old.room.ledgers ledgers
  OpensNone happens = Unit {0}

  abbrev pub OpenNone :
      {first last : Hall S C P} {deeds : List Act} → Proceeds S C P r first deeds last → Type 0
  OpenNone Begin = Unit {0}
  OpenNone (Then deeds last more next serves happens) = OpenNone serves × OpensNone happens

-- whatever else happens makes of the ledgers what calls make of them
abbrev pub AreCalls : {S C P : Type 0} → Terms S C P → Type 0
AreCalls {S} {C} {P} r =
    (last next : Hall S C P) (more : List Act) (happens : Occurs S C P r last more next)
    → OpensNone happens
    → r.means.follows last.room.ledgers next.room.ledgers

-- as long as a supervisor opens no ledgers, all that is done is one run of calls, and keeps what
-- such a run keeps
abbrev pub IsRunOfCalls : {S C P : Type 0} → Terms S C P → Type 0
IsRunOfCalls {S} {C} {P} r =
    (first last : Hall S C P) (deeds : List Act) (serves : Proceeds S C P r first deeds last)
    → OpenNone serves
    → r.means.follows first.room.ledgers last.room.ledgers

-- a hall in which nobody has sent anything
abbrev pub empty_hall : {S C P : Type 0} → S → C → P → Hall S C P
empty_hall ledgers moments peers =
    hall ledgers moments peers (λ client. new_talk) (λ client. false) (λ client. Away)

-- what is held before anybody has come is of such a hall
abbrev pub BeginsEmpty : (S C P : Type 0) → Type 0
BeginsEmpty S C P =
    (ledgers : S) (moments : C) (peers : P) (seats : Seats)
    → AreEmpty seats
    → HoldsHall (held_by ledgers moments peers seats) (empty_hall (Whole ledgers) moments peers)

-- behind what was done clients were served, and in that peers told something so often at least
pub record ServedOn {S C P : Type 0} {r : Terms S C P} {first mid : Hall S C P}
    {before : List Act} (served : Proceeds S C P r first before mid) (new : Held S C P)
    (replies times : ℕ) : Type 0 where
  pub deeds : List Act
  pub last : Hall S C P
  pub all : Proceeds S C P r first deeds last
  pub keeps : HoldsHall new last
  pub count : replies_in deeds ≡ replies_in before + replies
  pub told : tellings served + times ≤ tellings all

-- what is done behind what was done leads on from the same hall
abbrev pub ServingGoesOn : {S C P : Type 0} → Terms S C P → Type 0
ServingGoesOn {S} {C} {P} r =
    (first mid : Hall S C P) (before : List Act) (served : Proceeds S C P r first before mid)
    (old new : Held S C P) (replies : ℕ)
    → HoldsHall old mid
    → ServesAll r old new replies
    → ServedOn served new replies 0

-- nobody is owed a seat, a turn or its end
abbrev pub OwesNobody : {S C P : Type 0} → Hall S C P → Type 0
OwesNobody all = (client : ℕ) (debt : Debt) → IsOwed (all.stands client) debt → ⊥

-- where nobody was owed anything and turns are given, nobody is, and nobody more keeps its place
-- alone unless so many replies were wanted; or no more turns are made
abbrev pub GivesOn : {S C P : Type 0} → Terms S C P → Type 0
GivesOn {S} {C} {P} r =
    (first mid : Hall S C P) (before : List Act) (served : Proceeds S C P r first before mid)
    (old new : Held S C P) (replies most : ℕ)
    → HoldsHall old mid
    → OwesNobody mid
    → GivesTurns S C P r most old new replies
    → ((on : ServedOn served new replies 0)
    × OwesNobody on.last
    × KeepsOnly (replies ≡ most) mid.stands on.last.stands)
    ⊎ Turns S C P r old most_turns replies new

-- where it ended though not enough was done, peers told something in it
abbrev pub EndsTold : {S C P : Type 0} → Terms S C P → Type 0
EndsTold {S} {C} {P} r =
    (first mid : Hall S C P) (before : List Act) (served : Proceeds S C P r first before mid)
    (old new : Held S C P) (replies : ℕ)
    → HoldsHall old mid
    → Ends S C P r ⊥ old new replies
    → ServedOn served new replies 1
