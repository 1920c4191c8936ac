-- What happens to clients that are served at once, and what is written to each.
use Rattle.std.specs.Prelude.{◌≡◌, ◌≢◌, ℕ, Bool, true, false, List, [], ◌∷◌, ◌++◌, Some, nat_eq, if◌then◌else◌}
use Rattle.std.specs.List.{flat_map}
use Rattle.chain.specs.Ledgers.{LedgersMeaning, Tenants}
use Rattle.ledger_http.specs.declared.reply.Reply.{Reply}
use Rattle.parts.specs.Parts.{IsPart, chunks_left}
use Rattle.parts.specs.declared.rest.Part.{Part}
use Rattle.parts.specs.declared.rest.Rest.{Rest}
use Rattle.service.specs.Connections.{texts_of}
use Rattle.service.specs.InTurn.{InTurn, Nothing, More}
use Rattle.clients.specs.Talk.{Talk, continued, owed, new_talk, received, input_ended, may_answer}
use Rattle.clients.specs.Answering.{MayCome, IsUnmoved, IsReplyReady}
use Rattle.clients.specs.Turns.{Sent, Clients, clients, ToldReply, ClientTurns, told_to, Hears}

-- the ledgers, what gives the moments, and each client, by a number that is never used again
pub record Room (S C : Type 0) : Type 0 where
  pub ledgers : S
  pub moments : C
  pub talks : ℕ → Talk

-- a piece came from a client; its input ended; a message of it was replied to; the next part of
-- that reply was read; bytes of it were written to the client
pub data Act : Type 0 where
  Came : ℕ → List ℕ → Act
  Ended : ℕ → Act
  Replied : ℕ → Reply → Act
  Continued : ℕ → Part → Act
  Wrote : ℕ → List ℕ → Act

-- the one client that a deed is about
abbrev pub client_of : Act → ℕ
client_of (Came client piece) = client
client_of (Ended client) = client
client_of (Replied client reply) = client
client_of (Continued client part) = client
client_of (Wrote client bytes) = client

-- the part that comes next of a reply, as the ledgers have it, once all that was read is written
pub record IsNextPart {S : Type 0} (t : LedgersMeaning S) (ledgers : S)
    (talk : Talk) (part : Part) :
    Type 0 where
  pub rest : Rest
  pub written : talk.unsent ≡ []
  pub left : talk.rest ≡ Some rest
  pub told : t.is_live ledgers → IsPart [] (t.tenants ledgers rest.digest) rest part

-- a deed, as its client sees it
abbrev pub Does :
    {S C : Type 0} → LedgersMeaning S → (C → ℕ → C → Type 0) → Act → S → C → Talk → S → C → Talk
    → Type 0
Does t gives (Came client piece) ledgers moments old ledgers_now moments_now new =
    IsUnmoved ledgers moments (received piece old) ledgers_now moments_now new
    × (old.unread.ended ≡ false)
Does t gives (Ended client) ledgers moments old ledgers_now moments_now new =
    IsUnmoved ledgers moments (input_ended old) ledgers_now moments_now new
Does t gives (Replied client reply) ledgers moments old ledgers_now moments_now new =
    IsReplyReady t gives ledgers moments old reply ledgers_now moments_now new
    × (may_answer old ≡ true)
Does t gives (Continued client part) ledgers moments old ledgers_now moments_now new =
    IsUnmoved ledgers moments (continued part old) ledgers_now moments_now new
    × IsNextPart t ledgers old part
Does t gives (Wrote client bytes) ledgers moments old ledgers_now moments_now new =
    IsUnmoved ledgers moments old ledgers_now moments_now
    (record new { unsent = bytes ++ new.unsent })

-- a deed, and nothing else
pub record IsActed {S C : Type 0} (t : LedgersMeaning S) (gives : C → ℕ → C → Type 0)
    (old : Room S C) (deed : Act) (new : Room S C) : Type 0 where
  pub does :
      Does t gives deed old.ledgers old.moments (old.talks (client_of deed)) new.ledgers
      new.moments (new.talks (client_of deed))
  pub others : (other : ℕ) → other ≢ client_of deed → new.talks other ≡ old.talks other

-- deeds, one after the other
abbrev pub Lives :
    (S C : Type 0) → LedgersMeaning S → (C → ℕ → C → Type 0) → Room S C → List Act → Room S C
    → Type 0
Lives S C t gives = InTurn (Room S C) Act (IsActed t gives)

abbrev pub if_own : {A : Type 0} → ℕ → ℕ → List A → List A
if_own client other items = if nat_eq other client then items else []

-- what came from one client
abbrev pub came_in : ℕ → Act → List ℕ
came_in client (Came other piece) = if_own client other piece
came_in client (Ended other) = []
came_in client (Replied other reply) = []
came_in client (Continued other part) = []
came_in client (Wrote other bytes) = []

abbrev pub come_from : ℕ → List Act → List ℕ
come_from client deeds = flat_map (came_in client) deeds

-- what was written to it
abbrev pub written_in : ℕ → Act → List ℕ
written_in client (Came other piece) = []
written_in client (Ended other) = []
written_in client (Replied other reply) = []
written_in client (Continued other part) = []
written_in client (Wrote other bytes) = if_own client other bytes

abbrev pub written_to : ℕ → List Act → List ℕ
written_to client deeds = flat_map (written_in client) deeds

-- the replies, and to whom
abbrev pub told_in : Act → List ToldReply
told_in (Came client piece) = []
told_in (Ended client) = []
told_in (Replied client reply) = record { client = client; reply = reply } ∷ []
told_in (Continued client part) = []
told_in (Wrote client bytes) = []

abbrev pub all_told : List Act → List ToldReply
all_told deeds = flat_map told_in deeds

-- a client, with bytes that are still to come
abbrev pub sent_with : List ℕ → Talk → Sent
sent_with later talk = record { unread = talk.unread.bytes ++ later; goes_on = talk.goes_on }

-- the clients of a room, with bytes that are still to come from each
abbrev pub sent_by : {S C : Type 0} → Room S C → (ℕ → List ℕ) → ℕ → Sent
sent_by room later client = sent_with (later client) (room.talks client)

abbrev pub clients_of : {S C : Type 0} → Room S C → (ℕ → List ℕ) → Clients S C
clients_of room later = clients room.ledgers room.moments (sent_by room later)

-- what may come from each behind a deed, and what came by it, might come before it
abbrev pub MightCome : {S C : Type 0} → LedgersMeaning S → (C → ℕ → C → Type 0) → Type 0
MightCome {S} {C} t gives =
    (old new : Room S C) (deed : Act)
    → IsActed t gives old deed new
    → (later : ℕ → List ℕ)
    → ((client : ℕ) → MayCome (new.talks client).unread (later client))
    → (client : ℕ)
    → MayCome (old.talks client).unread (came_in client deed ++ later client)

-- whatever came in whatever pieces, and whatever comes later, the replies are those of turns over
-- all that came
abbrev pub AreExchanges :
    {S C : Type 0} → LedgersMeaning S → (C → ℕ → C → Type 0) → Type 0
AreExchanges {S} {C} t gives =
    (first last : Room S C) (deeds : List Act)
    → Lives S C t gives first deeds last
    → (later : ℕ → List ℕ)
    → ((client : ℕ) → MayCome (last.talks client).unread (later client))
    → ClientTurns S C t gives (clients_of first (λ client. come_from client deeds ++ later client))
    (all_told deeds) (clients_of last later)

-- whether a deed reads something for a client
abbrev pub reads_for : ℕ → Act → Bool
reads_for client (Came other piece) = false
reads_for client (Ended other) = false
reads_for client (Replied other reply) = nat_eq other client
reads_for client (Continued other part) = nat_eq other client
reads_for client (Wrote other bytes) = false

-- the machines that were there when something was read for a client last
abbrev pub machines_after : ℕ → Act → Tenants → Tenants → Tenants
machines_after client deed now before = if reads_for client deed then now else before

-- a part is read for a client while the ledgers are live, and they have yet what was left for it
-- when something was read for it last
abbrev pub HasYet :
    {S C : Type 0} → LedgersMeaning S → Tenants → ℕ → Act → Room S C → Type 0
HasYet t before client (Continued other part) room =
    other ≡ client
    → t.is_live room.ledgers
    × (chunks_left (t.tenants room.ledgers) (room.talks client).rest
    ≡ chunks_left before (room.talks client).rest)
HasYet t before client (Came other piece) room = Unit {0}
HasYet t before client (Ended other) room = Unit {0}
HasYet t before client (Replied other reply) room = Unit {0}
HasYet t before client (Wrote other bytes) room = Unit {0}

module _ {S C : Type 0} {t : LedgersMeaning S} {gives : C → ℕ → C → Type 0} where
  -- so behind deeds, where these were there before them
  abbrev pub machines_then :
      {first last : Room S C} {deeds : List Act} → Tenants → Lives S C t gives first deeds last → ℕ
      → Tenants
  machines_then before Nothing client = before
  machines_then before (More deeds last deed next lives done) client =
      machines_after client deed (t.tenants next.ledgers) (machines_then before lives client)

  -- each part was read so that a client was told
  abbrev pub ReadsOn :
      {first last : Room S C} {deeds : List Act} → Tenants → ℕ → Lives S C t gives first deeds last
      → Type 0
  ReadsOn before client Nothing = Unit {0}
  ReadsOn before client (More deeds last deed next lives done) =
      ReadsOn before client lives × HasYet t (machines_then before lives client) client deed last

-- what was written to a client, and what is owed, is what was owed and the replies to it, in order,
-- as long as its replies went on as they were begun
abbrev pub AreWritten :
    {S C : Type 0} → LedgersMeaning S → (C → ℕ → C → Type 0) → Type 0
AreWritten {S} {C} t gives =
    (first last : Room S C) (deeds : List Act) (lives : Lives S C t gives first deeds last)
    (before : Tenants) (client : ℕ)
    → ReadsOn before client lives
    → written_to client deeds ++ owed (machines_then before lives client) (last.talks client)
    ≡ owed before (first.talks client) ++ texts_of (told_to client (all_told deeds))

-- what is written to a new client is a beginning of the replies to its own messages, in order, one
-- a message
pub record IsClientServed {S C : Type 0} (t : LedgersMeaning S) (gives : C → ℕ → C → Type 0)
    (came later written : List ℕ) (machines : Tenants) (now : Talk) : Type 0 where
  pub replies : List Reply
  pub heard : Hears S C t gives (sent_with (came ++ later) new_talk) replies (sent_with later now)
  pub begun : written ++ owed machines now ≡ texts_of replies

abbrev pub AreServed : {S C : Type 0} → LedgersMeaning S → (C → ℕ → C → Type 0) → Type 0
AreServed {S} {C} t gives =
    (first last : Room S C) (deeds : List Act) (lives : Lives S C t gives first deeds last)
    (before : Tenants) (client : ℕ)
    → ReadsOn before client lives
    → first.talks client ≡ new_talk
    → (later : List ℕ)
    → MayCome (last.talks client).unread later
    → IsClientServed t gives (come_from client deeds) later (written_to client deeds)
    (machines_then before lives client) (last.talks client)
