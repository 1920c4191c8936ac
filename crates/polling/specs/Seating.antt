-- Who is seated, and what one client and all of them were served.
use Rattle.std.specs.Prelude.{◌≡◌, ◌≢◌, ◌≤◌, ◌<◌, ℕ, Bool, true, false, ◌&&◌, List, [], ◌∷◌, length, Option, Some, None, nat_eq, if◌then◌else◌}
use Rattle.std.specs.BTreeMap.{BTreeMap, get}
use Rattle.std.specs.Ordering.{nat_cmp}
use Rattle.clients.specs.Talk.{Talk, is_empty, is_written, new_talk}
use Rattle.service.specs.Seen.{SeenAt, Whole}
use Rattle.clients.specs.Deeds.{Act, all_told}
use Rattle.polling.specs.Standing.{Standing, Owed, rested, leaving, with_standing, stands_after, StandsIn, StandTold}
use Rattle.polling.specs.Standing.{Owing, owing, A_seat, A_turn, OwesOnly, KeepsOnly}
use Rattle.polling.specs.Serving.{Hall, hall, Terms, Proceeds, gone_with}
use Rattle.polling.specs.declared.peers.Told.{Told}
use Rattle.polling.specs.declared.seats.Seats.{Seats}
use Rattle.polling.specs.declared.step.Step.{Step}
use Rattle.polling.specs.declared.step.Step.TheVariants.{More, Waits, Goes}

-- all talks, with this one of one client
abbrev pub with_talk : ℕ → Talk → (ℕ → Talk) → ℕ → Talk
with_talk client talk talks other = if nat_eq client other then talk else talks other

-- who has gone behind a step of one client
abbrev pub gone_by : Step → ℕ → (ℕ → Bool) → ℕ → Bool
gone_by More client gone = gone
gone_by Waits client gone = gone
gone_by Goes client gone = gone_with client gone

-- how all stand behind a step of one client, and behind these deeds in it: it rests only where it
-- has to wait, and is owed its end where it goes
abbrev pub stands_by : Step → ℕ → List Act → (ℕ → Standing) → ℕ → Standing
stands_by More client deeds stands = stands_after deeds stands
stands_by Waits client deeds stands =
    with_standing client (rested (stands_after deeds stands client)) (stands_after deeds stands)
stands_by Goes client deeds stands =
    with_standing client (leaving (stands_after deeds stands client)) (stands_after deeds stands)

-- where more may be done for a client, its turn is begun, unless it may be that nothing was done
abbrev pub HasMoved : Step → Bool → Standing → Type 0
HasMoved More idle standing = idle ≡ false → standing ≢ Owed
HasMoved Waits idle standing = Unit {0}
HasMoved Goes idle standing = Unit {0}

-- how many messages were replied to
abbrev pub replies_in : List Act → ℕ
replies_in deeds = length (all_told deeds)

-- one, or none
abbrev pub count_of : Bool → ℕ
count_of replied = if replied then 1 else 0

-- nothing was to be written to it, and nothing is
abbrev pub has_nothing : Talk → Talk → Bool
has_nothing talk talk_now = is_empty talk.unsent && is_empty talk_now.unsent

-- nor was anything left to be read for it, nor is
abbrev pub has_no_more : Talk → Talk → Bool
has_no_more talk talk_now = is_written talk && is_written talk_now

-- one client was served, whichever others there are, and nothing else was done; and where more may
-- be done, something was, or it is told that nothing may have been
pub record ServesOne {S C P : Type 0} (r : Terms S C P) (client : ℕ) (ledgers : S) (moments : C)
    (peers : P) (talk : Talk) (ledgers_now : S) (moments_now : C) (peers_now : P) (talk_now : Talk)
    (step : Step) (idle : Bool) (replies : ℕ) : Type 0 where
  pub leads :
      (talks : ℕ → Talk) (gone : ℕ → Bool) (stands : ℕ → Standing)
      → gone client ≡ false
      → (deeds : List Act)
      × Proceeds S C P r (hall ledgers moments peers (with_talk client talk talks) gone stands) deeds
      (hall ledgers_now moments_now peers_now (with_talk client talk_now talks)
      (gone_by step client gone) (stands_by step client deeds stands))
      × (replies_in deeds ≡ replies)
      × HasMoved step idle (stands_after deeds stands client)

-- one seat is this now, and every other as it was
abbrev pub SeatsNow : ℕ → Option Talk → (ℕ → Option Talk) → (ℕ → Option Talk) → Type 0
SeatsNow client seat old new =
    (new client ≡ seat) × ((other : ℕ) → other ≢ client → new other ≡ old other)

-- every seat is as it was
abbrev pub AreSame : (ℕ → Option Talk) → (ℕ → Option Talk) → Type 0
AreSame old new = (client : ℕ) → new client ≡ old client

-- somebody is in that seat
abbrev pub IsSeated : ℕ → (ℕ → Option Talk) → Type 0
IsSeated client seats = (talk : Talk) × (seats client ≡ Some talk)

-- the talks of a map's clients
abbrev pub seats_in : BTreeMap ℕ Talk → ℕ → Option Talk
seats_in map client = get nat_cmp map client

-- nobody is seated, and no number was used
abbrev pub AreEmpty : Seats → Type 0
AreEmpty seats =
    ((client : ℕ) → seats_in seats.clients client ≡ None) × (seats.next ≡ 0)

-- the client in one seat was served
pub record HadTurn {S C P : Type 0} (r : Terms S C P) (client : ℕ) (ledgers : S) (moments : C)
    (peers : P) (seats : ℕ → Option Talk) (ledgers_now : S) (moments_now : C) (peers_now : P)
    (seats_now : ℕ → Option Talk) (step : Step) (idle : Bool) (replies : ℕ) : Type 0 where
  pub talk : Talk
  pub talk_now : Talk
  pub was : seats client ≡ Some talk
  pub now : SeatsNow client (Some talk_now) seats seats_now
  pub served :
      ServesOne r client ledgers moments peers talk ledgers_now moments_now peers_now talk_now step
      idle replies

-- nobody is in that seat, and nothing was done
pub record HadNone {S C P : Type 0} (client : ℕ) (ledgers : S) (moments : C) (peers : P)
    (seats : ℕ → Option Talk) (ledgers_now : S) (moments_now : C) (peers_now : P)
    (seats_now : ℕ → Option Talk) : Type 0 where
  pub nobody : seats client ≡ None
  pub ledgers_same : ledgers_now ≡ ledgers
  pub moments_same : moments_now ≡ moments
  pub peers_same : peers_now ≡ peers
  pub seats_same : AreSame seats seats_now

-- what is held: the ledgers, what gives the moments, those who are connected, the talks of those
-- who are seated, and the next number, which was never used
pub record Held (S C P : Type 0) : Type 0 where
  pub ledgers : S
  pub moments : C
  pub peers : P
  pub seats : ℕ → Option Talk
  pub next : ℕ

abbrev pub held : {S C P : Type 0} → S → C → P → (ℕ → Option Talk) → ℕ → Held S C P
held ledgers moments peers seats next = record {
  ledgers = ledgers;
  moments = moments;
  peers = peers;
  seats = seats;
  next = next;
}

-- the same between transactions
abbrev pub held_by : {S C P : Type 0} → S → C → P → Seats → Held (SeenAt S) C P
held_by ledgers moments peers seats =
    held (Whole ledgers) moments peers (seats_in seats.clients) seats.next

-- what is held is of this hall: whoever is seated has its talk there, has not gone and has a seat
-- there too, and of numbers that were not used nothing has come
pub record HoldsHall {S C P : Type 0} (held : Held S C P) (all : Hall S C P) : Type 0 where
  pub ledgers : all.room.ledgers ≡ held.ledgers
  pub moments : all.room.moments ≡ held.moments
  pub peers : all.peers ≡ held.peers
  pub seated :
      (client : ℕ) (talk : Talk) → held.seats client ≡ Some talk
      → all.room.talks client ≡ talk
  pub there : (client : ℕ) (talk : Talk) → held.seats client ≡ Some talk → all.gone client ≡ false
  pub below : (client : ℕ) (talk : Talk) → held.seats client ≡ Some talk → client < held.next
  pub unused : (client : ℕ) → held.next ≤ client → all.room.talks client ≡ new_talk
  pub not_gone : (client : ℕ) → held.next ≤ client → all.gone client ≡ false
  pub stands : (client : ℕ) → StandsIn (held.seats client) (all.stands client)

-- clients were served from this hall on: deeds lead to one of what is held
abbrev pub LeadsAll : {S C P : Type 0} → Terms S C P → Hall S C P → Held S C P → ℕ → Type 0
LeadsAll {S} {C} {P} r first new replies =
    (deeds : List Act)
    × (last : Hall S C P)
    × Proceeds S C P r first deeds last
    × HoldsHall new last
    × (replies_in deeds ≡ replies)

-- so too; what is owed behind it is one of `to`, or was owed before and is none of `from`; and a
-- client keeps its place alone, with nothing done for it, only for this reason
pub record LeadsOwed {S C P : Type 0} (r : Terms S C P) (why : Type 0) (from to : List Owing)
    (first : Hall S C P) (new : Held S C P) (replies : ℕ) : Type 0 where
  pub deeds : List Act
  pub last : Hall S C P
  pub leads : Proceeds S C P r first deeds last
  pub keeps : HoldsHall new last
  pub count : replies_in deeds ≡ replies
  pub owes : OwesOnly from to first.stands last.stands
  pub spares : KeepsOnly why first.stands last.stands

-- clients were served, from any hall of what was held
abbrev pub ServesAll : {S C P : Type 0} → Terms S C P → Held S C P → Held S C P → ℕ → Type 0
ServesAll {S} {C} {P} r old new replies =
    (first : Hall S C P) → HoldsHall old first → LeadsAll r first new replies

abbrev pub ServesOwed :
    {S C P : Type 0} → Terms S C P → Type 0 → List Owing → List Owing → Held S C P → Held S C P → ℕ
    → Type 0
ServesOwed {S} {C} {P} r why from to old new replies =
    (first : Hall S C P) → HoldsHall old first → LeadsOwed r why from to first new replies

-- so too, and who has the next number has a seat, or was closed
abbrev pub ServesNext : {S C P : Type 0} → Terms S C P → Held S C P → Held S C P → Type 0
ServesNext r old new = ServesOwed r ⊥ (owing A_seat old.next ∷ []) [] old new 0

-- so too, where peers have just told this
abbrev pub ServesTold :
    {S C P : Type 0} → Terms S C P → Told → List Owing → List Owing → Held S C P → Held S C P → ℕ
    → Type 0
ServesTold {S} {C} {P} r told from to old new replies =
    (first : Hall S C P) → HoldsHall old first → StandTold told first.stands
    → LeadsOwed r ⊥ from to first new replies

-- so too, and what is owed behind it was owed before
abbrev pub ServesEach : {S C P : Type 0} → Terms S C P → Held S C P → Held S C P → ℕ → Type 0
ServesEach r old new replies = ServesOwed r ⊥ [] [] old new replies

-- behind a turn of one client, what its step asks for was done, and it is owed no other; it keeps
-- its place alone only where nothing may have been done for it
abbrev pub IsFollowed :
    {S C P : Type 0} → Terms S C P → ℕ → Step → P → (ℕ → Option Talk) → P → (ℕ → Option Talk)
    → Type 0
IsFollowed {S} {C} {P} r client step peers_then seats_then peers_now seats_now =
    (ledgers ledgers_now : S) (moments moments_now : C) (peers : P) (seats : ℕ → Option Talk)
    (next : ℕ) (idle : Bool) (replies : ℕ)
    → HadTurn r client ledgers moments peers seats ledgers_now moments_now
    peers_then seats_then step
    idle replies
    → ServesOwed r (idle ≡ true) (owing A_turn client ∷ []) []
    (held ledgers moments peers seats next)
    (held ledgers_now moments_now peers_now seats_now next) replies
