-- Many clients of the same ledgers, answered one message at a time.
use Rattle.std.specs.Prelude.{◌≡◌, ◌≢◌, ℕ, Bool, List, [], ◌∷◌, ◌++◌, nat_eq, if◌then◌else◌, Some}
use Rattle.std.specs.List.{flat_map}
use Rattle.chain.specs.Ledgers.{LedgersMeaning, Tenants}
use Rattle.ledger_http.specs.declared.reply.Reply.{Reply}
use Rattle.service.specs.Connections.{Connection, connection, Exchange}
use Rattle.service.specs.ConnectionEvents.{event_in}
use Rattle.service.specs.Courses.{Event, Course}
use Rattle.service.specs.InTurn.{InTurn, OfSteps, events_along}
use Rattle.service.specs.OwnDeeds.{EachSees}

-- what one client has sent that is not answered, and whether another message of it is
pub record Sent : Type 0 where
  pub unread : List ℕ
  pub goes_on : Bool

-- the ledgers, what gives the moments, and each client, by a number that is never used again
pub record Clients (S C : Type 0) : Type 0 where
  pub ledgers : S
  pub moments : C
  pub sent : ℕ → Sent

abbrev pub clients : {S C : Type 0} → S → C → (ℕ → Sent) → Clients S C
clients ledgers moments sent = record { ledgers = ledgers; moments = moments; sent = sent }

-- a client's connection, over these ledgers
abbrev pub connected : {S C : Type 0} → S → C → Sent → Connection S C
connected ledgers moments sent = connection ledgers (Some sent.unread) moments sent.goes_on

-- one client's connection
abbrev pub connection_of : {S C : Type 0} → ℕ → Clients S C → Connection S C
connection_of client clients = connected clients.ledgers clients.moments (clients.sent client)

-- a reply, and to whom
pub record ToldReply : Type 0 where
  pub client : ℕ
  pub reply : Reply

-- one message of one client is answered to that client, and no other's are touched
pub record Turn {S C : Type 0} (t : LedgersMeaning S) (gives : C → ℕ → C → Type 0)
    (old : Clients S C) (told : ToldReply) (new : Clients S C) : Type 0 where
  pub exchange :
      Exchange t gives (connection_of told.client old) told.reply (connection_of told.client new)
  pub others : (other : ℕ) → other ≢ told.client → new.sent other ≡ old.sent other

-- turns, one after the other
abbrev pub ClientTurns :
    (S C : Type 0) → LedgersMeaning S → (C → ℕ → C → Type 0) → Clients S C → List ToldReply
    → Clients S C → Type 0
ClientTurns S C t gives = InTurn (Clients S C) ToldReply (Turn t gives)

-- the replies to one client
abbrev pub if_told : ℕ → ToldReply → List Reply
if_told client told = if nat_eq told.client client then told.reply ∷ [] else []

abbrev pub told_to : ℕ → List ToldReply → List Reply
told_to client all = flat_map (if_told client) all

-- the messages of all clients that were read whole, as events
abbrev pub events_in_turns :
    {S C : Type 0} {t : LedgersMeaning S} {gives : C → ℕ → C → Type 0} {first last : Clients S C}
    {all : List ToldReply} → ClientTurns S C t gives first all last → List Event
events_in_turns {t} {gives} =
    events_along {Steps = Turn t gives} (λ old told new turn. event_in told.reply turn.exchange.by)

-- this is so of the events of all turns, as long as the ledgers are live
abbrev pub OfTurns :
    {S C : Type 0} → LedgersMeaning S → (C → ℕ → C → Type 0)
    → (Tenants → List Event → Tenants → Type 0) → Type 0
OfTurns t gives =
    OfSteps {Steps = Turn t gives} (λ old told new turn. event_in told.reply turn.exchange.by) t
    (λ clients. clients.ledgers)

-- turns lead every course on that has led to their ledgers, whichever clients they are of
abbrev pub TurnsLeadOn : {S C : Type 0} → LedgersMeaning S → (C → ℕ → C → Type 0) → Type 0
TurnsLeadOn t gives =
    OfTurns t gives (λ old more new.
    (began : Tenants) (events : List Event)
    → Course began events old
    → Course began (events ++ more) new)

-- each tenant sees its own requests alone, whichever clients they came from
abbrev pub ServeEachAlone : {S C : Type 0} → LedgersMeaning S → (C → ℕ → C → Type 0) → Type 0
ServeEachAlone t gives = OfTurns t gives EachSees

-- what stands first of what one client has sent gets this reply, by the ledgers as they are then
pub record HearsFirst {S C : Type 0} (t : LedgersMeaning S) (gives : C → ℕ → C → Type 0)
    (old : Sent) (reply : Reply) (new : Sent) : Type 0 where
  pub ledgers : S
  pub moments : C
  pub ledgers_then : S
  pub moments_then : C
  pub exchange :
      Exchange t gives (connected ledgers moments old) reply
      (connected ledgers_then moments_then new)

-- the messages of one client, one after the other, get one reply each
abbrev pub Hears :
    (S C : Type 0) → LedgersMeaning S → (C → ℕ → C → Type 0) → Sent → List Reply → Sent → Type 0
Hears S C t gives = InTurn Sent Reply (HearsFirst t gives)

-- each client hears the replies to its own messages, and no others
abbrev pub HearTheirOwn :
    {S C : Type 0} → LedgersMeaning S → (C → ℕ → C → Type 0) → Type 0
HearTheirOwn {S} {C} t gives =
    (first last : Clients S C) (all : List ToldReply)
    → ClientTurns S C t gives first all last
    → (client : ℕ)
    → Hears S C t gives (first.sent client) (told_to client all) (last.sent client)
