-- Deeds as turns over all that came.
use Rattle.std.proofs.Common.{◌≡◌, ◌≢◌, refl, ap, sym, ◌∙◌, subst, ℕ, Bool, List, [], ◌∷◌, ◌++◌, append_assoc, Some}
use Rattle.std.proofs.lemmas.Bool.{and_parts, true≢false}
use Rattle.std.specs.List.{flat_map}
use Rattle.std.proofs.lemmas.Grind.{flat_map-append}
use Rattle.std.proofs.lemmas.List.{append-nil}
use Rattle.std.proofs.Math.Path.{fun_ext}
use Rattle.chain.specs.Ledgers.{LedgersMeaning}
use Rattle.ledger_http.specs.declared.reply.Reply.{Reply}
use Rattle.parts.specs.declared.rest.Part.{Part}
use Rattle.service.specs.Connections.{connection, Exchange}
use Rattle.clients.specs.Talk.{Talk, received, is_written}
use Rattle.clients.specs.Answering.{MayCome}
use Rattle.clients.specs.Turns.{Sent, Clients, clients, ToldReply, Turn, ClientTurns}
use Rattle.service.specs.InTurn.{Nothing, More}
use Rattle.clients.specs.Deeds.{Room, Act, Came, Ended, Replied, Continued, Wrote, client_of, IsActed, came_in, come_from, told_in, all_told, sent_with, sent_by, clients_of, AreExchanges}
use Rattle.clients.proofs.ClientLemmas.{by_client, if_own-own, if_own-other}

-- what one deed adds to a list of all deeds
pub one_deed_more :
    {A : Type 0} (part : Act → List A) (deeds : List Act) (deed : Act) →
    flat_map part (deeds ++ deed ∷ []) ≡ flat_map part deeds ++ part deed
one_deed_more part deeds deed =
    flat_map-append part deeds (deed ∷ [])
    ∙ ap (λ rest. flat_map part deeds ++ rest) (append-nil (part deed))

-- another client has not sent this
came_in-other : (deed : Act) (other : ℕ) → other ≢ client_of deed → came_in other deed ≡ []
came_in-other (Came client piece) other differ = if_own-other client other piece differ
came_in-other (Ended client) other differ = refl
came_in-other (Replied client reply) other differ = refl
came_in-other (Continued client part) other differ = refl
came_in-other (Wrote client bytes) other differ = refl

-- what is still to come behind a deed, with what came by it, was still to come before it
abbrev pub before : Act → (ℕ → List ℕ) → ℕ → List ℕ
before deed later client = came_in client deed ++ later client

may_come_other :
    (old new : Talk) (came later : List ℕ) → new ≡ old → came ≡ [] → MayCome new.unread later →
    MayCome old.unread (came ++ later)
may_come_other old new came later same none may =
    subst (λ (first : List ℕ). MayCome old.unread (first ++ later)) (sym none)
    (subst (λ (talk : Talk). MayCome talk.unread later) same may)

may_come_own :
    {S C : Type 0} (t : LedgersMeaning S) (gives : C → ℕ → C → Type 0) (old new : Room S C)
    (deed : Act) (later : List ℕ) → IsActed t gives old deed new →
    MayCome (new.talks (client_of deed)).unread later →
    MayCome (old.talks (client_of deed)).unread (came_in (client_of deed) deed ++ later)
may_come_own t gives old new (Came client piece) later done may =
    λ ended. absurd (true≢false (sym ended ∙ done.does.1))
may_come_own t gives old new (Ended client) later done may =
    λ ended. may (ap (λ (talk : Talk). talk.unread.ended) done.does.same)
may_come_own t gives old new (Replied client reply) later done may =
    λ ended. may (done.does.0.ended ∙ ended)
may_come_own t gives old new (Continued client part) later done may =
    λ ended. may (ap (λ (talk : Talk). talk.unread.ended) done.does.0.same ∙ ended)
may_come_own t gives old new (Wrote client bytes) later done may =
    λ ended. may (ap (λ (talk : Talk). talk.unread.ended) done.does.same ∙ ended)

pub may_come_before :
    {S C : Type 0} (t : LedgersMeaning S) (gives : C → ℕ → C → Type 0) (old new : Room S C)
    (deed : Act) (later : ℕ → List ℕ) → IsActed t gives old deed new →
    ((client : ℕ) → MayCome (new.talks client).unread (later client)) →
    (client : ℕ) → MayCome (old.talks client).unread (before deed later client)
may_come_before t gives old new deed later done may =
    by_client (λ client. MayCome (old.talks client).unread (before deed later client)) (client_of deed)
    (may_come_own t gives old new deed (later (client_of deed)) done (may (client_of deed)))
    (λ other differ.
    may_come_other (old.talks other) (new.talks other) (came_in other deed) (later other)
    (done.others other differ) (came_in-other deed other differ) (may other))

-- all others have sent the same
sent_same_other :
    {S C : Type 0} (t : LedgersMeaning S) (gives : C → ℕ → C → Type 0) (old new : Room S C)
    (deed : Act) (later : ℕ → List ℕ) → IsActed t gives old deed new →
    (other : ℕ) → other ≢ client_of deed →
    sent_with (later other) (new.talks other) ≡ sent_with (before deed later other) (old.talks other)
sent_same_other t gives old new deed later done other differ =
    ap (λ (talk : Talk). sent_with (later other) talk) (done.others other differ)
    ∙ ap (λ (first : List ℕ). sent_with (first ++ later other) (old.talks other))
    (sym (came_in-other deed other differ))

same_clients :
    {S C : Type 0} (old new : Room S C) (earlier later : ℕ → List ℕ) → new.ledgers ≡ old.ledgers →
    new.moments ≡ old.moments →
    ((client : ℕ) → sent_by new later client ≡ sent_by old earlier client) →
    clients_of new later ≡ clients_of old earlier
same_clients {S} {C} old new earlier later ledgers moments sent =
    let all : sent_by new later ≡ sent_by old earlier = fun_ext sent in
    ap (λ (l : S). clients l new.moments (sent_by new later)) ledgers
    ∙ ap (λ (m : C). clients old.ledgers m (sent_by new later)) moments
    ∙ ap (λ (s : ℕ → Sent). clients old.ledgers old.moments s) all

received_sent :
    (piece later : List ℕ) (old new : Talk) → new ≡ received piece old →
    sent_with later new ≡ sent_with (piece ++ later) old
received_sent piece later old new is =
    ap (λ (talk : Talk). sent_with later talk) is
    ∙ ap (λ (bytes : List ℕ). record { unread = bytes; goes_on = old.goes_on })
    (append_assoc old.unread.bytes piece later)

-- behind a deed that is no reply all that came is the same
came_same :
    {S C : Type 0} (t : LedgersMeaning S) (gives : C → ℕ → C → Type 0) (old new : Room S C)
    (client : ℕ) (piece : List ℕ) (later : ℕ → List ℕ) → IsActed t gives old (Came client piece) new →
    clients_of new later ≡ clients_of old (before (Came client piece) later)
came_same t gives old new client piece later done =
    same_clients old new (before (Came client piece) later) later done.does.0.ledgers_same
    done.does.0.moments_same
    (by_client
    (λ (i : ℕ).
    sent_with (later i) (new.talks i) ≡ sent_with (before (Came client piece) later i) (old.talks i))
    client
    (received_sent piece (later client) (old.talks client) (new.talks client) done.does.0.same
    ∙ ap (λ (first : List ℕ). sent_with (first ++ later client) (old.talks client))
    (sym (if_own-own client piece)))
    (sent_same_other t gives old new (Came client piece) later done))

ended_same :
    {S C : Type 0} (t : LedgersMeaning S) (gives : C → ℕ → C → Type 0) (old new : Room S C)
    (client : ℕ) (later : ℕ → List ℕ) → IsActed t gives old (Ended client) new →
    clients_of new later ≡ clients_of old later
ended_same t gives old new client later done =
    same_clients old new later later done.does.ledgers_same done.does.moments_same
    (by_client
    (λ (i : ℕ). sent_with (later i) (new.talks i) ≡ sent_with (later i) (old.talks i))
    client
    (ap (λ (talk : Talk). sent_with (later client) talk) done.does.same)
    (sent_same_other t gives old new (Ended client) later done))

wrote_same :
    {S C : Type 0} (t : LedgersMeaning S) (gives : C → ℕ → C → Type 0) (old new : Room S C)
    (client : ℕ) (bytes : List ℕ) (later : ℕ → List ℕ) →
    IsActed t gives old (Wrote client bytes) new → clients_of new later ≡ clients_of old later
wrote_same t gives old new client bytes later done =
    same_clients old new later later done.does.ledgers_same done.does.moments_same
    (by_client
    (λ (i : ℕ). sent_with (later i) (new.talks i) ≡ sent_with (later i) (old.talks i))
    client
    (ap (λ (talk : Talk). sent_with (later client) talk) done.does.same)
    (sent_same_other t gives old new (Wrote client bytes) later done))

continued_same :
    {S C : Type 0} (t : LedgersMeaning S) (gives : C → ℕ → C → Type 0) (old new : Room S C)
    (client : ℕ) (part : Part) (later : ℕ → List ℕ) →
    IsActed t gives old (Continued client part) new → clients_of new later ≡ clients_of old later
continued_same t gives old new client part later done =
    same_clients old new later later done.does.0.ledgers_same done.does.0.moments_same
    (by_client
    (λ (i : ℕ). sent_with (later i) (new.talks i) ≡ sent_with (later i) (old.talks i))
    client
    (ap (λ (talk : Talk). sent_with (later client) talk) done.does.0.same)
    (sent_same_other t gives old new (Continued client part) later done))

-- a reply is a turn
replied_turn :
    {S C : Type 0} (t : LedgersMeaning S) (gives : C → ℕ → C → Type 0) (old new : Room S C)
    (client : ℕ) (reply : Reply) (later : ℕ → List ℕ) →
    IsActed t gives old (Replied client reply) new →
    MayCome (old.talks client).unread (later client) →
    Turn t gives (clients_of old later) (record { client = client; reply = reply })
    (clients_of new later)
replied_turn t gives old new client reply later done may = record {
  exchange =
      subst
      (λ (goes_on : Bool).
      Exchange t gives
      (connection old.ledgers (Some ((old.talks client).unread.bytes ++ later client)) old.moments
      goes_on)
      reply
      (connection new.ledgers (Some ((new.talks client).unread.bytes ++ later client)) new.moments
      (new.talks client).goes_on))
      (sym (and_parts (old.talks client).goes_on (is_written (old.talks client)) done.does.1).0)
      (done.does.0.exchange (later client) may);
  others = sent_same_other t gives old new (Replied client reply) later done;
}

abbrev pub TurnsTo :
    {S C : Type 0} → LedgersMeaning S → (C → ℕ → C → Type 0) → Clients S C → List ToldReply → Clients S C
    → Type 0
TurnsTo {S} {C} t gives first all last = ClientTurns S C t gives first all last

stay :
    {S C : Type 0} (t : LedgersMeaning S) (gives : C → ℕ → C → Type 0) (first old new : Clients S C)
    (all : List ToldReply) → TurnsTo t gives first all old → new ≡ old →
    TurnsTo t gives first (all ++ []) new
stay t gives first old new all turns same =
    subst (λ (told : List ToldReply). TurnsTo t gives first told new) (sym (append-nil all))
    (subst (λ now. TurnsTo t gives first all now) (sym same) turns)

one_deed :
    {S C : Type 0} (t : LedgersMeaning S) (gives : C → ℕ → C → Type 0) (first : Clients S C)
    (old new : Room S C) (deed : Act) (all : List ToldReply) (later : ℕ → List ℕ) →
    IsActed t gives old deed new →
    ((client : ℕ) → MayCome (old.talks client).unread (before deed later client)) →
    TurnsTo t gives first all (clients_of old (before deed later)) →
    TurnsTo t gives first (all ++ told_in deed) (clients_of new later)
one_deed t gives first old new (Came client piece) all later done may turns =
    stay t gives first (clients_of old (before (Came client piece) later)) (clients_of new later) all
    turns (came_same t gives old new client piece later done)
one_deed t gives first old new (Ended client) all later done may turns =
    stay t gives first (clients_of old later) (clients_of new later) all turns
    (ended_same t gives old new client later done)
one_deed t gives first old new (Continued client part) all later done may turns =
    stay t gives first (clients_of old later) (clients_of new later) all turns
    (continued_same t gives old new client part later done)
one_deed t gives first old new (Wrote client bytes) all later done may turns =
    stay t gives first (clients_of old later) (clients_of new later) all turns
    (wrote_same t gives old new client bytes later done)
one_deed t gives first old new (Replied client reply) all later done may turns =
    More all (clients_of old later) (record { client = client; reply = reply })
    (clients_of new later) turns
    (replied_turn t gives old new client reply later done (may client))

come_from-more : (client : ℕ) (deeds : List Act) (deed : Act) (later : List ℕ) →
    come_from client deeds ++ (came_in client deed ++ later)
    ≡ come_from client (deeds ++ deed ∷ []) ++ later
come_from-more client deeds deed later =
    sym (append_assoc (come_from client deeds) (came_in client deed) later)
    ∙ ap (λ (came : List ℕ). came ++ later) (sym (one_deed_more (came_in client) deeds deed))

-- all that came, and what comes later
abbrev pub in_all : List Act → (ℕ → List ℕ) → ℕ → List ℕ
in_all deeds later client = come_from client deeds ++ later client

-- whatever came in whatever pieces, the replies are those of turns over all that came
pub are_exchanges :
    {S C : Type 0} (t : LedgersMeaning S) (gives : C → ℕ → C → Type 0) → AreExchanges t gives
are_exchanges t gives first last deeds Nothing later may = Nothing
are_exchanges t gives first last deeds (More earlier mid deed next lives done) later may =
    let come_before = may_come_before t gives mid next deed later done may in
    let came : in_all earlier (before deed later) ≡ in_all (earlier ++ deed ∷ []) later =
    fun_ext (λ (client : ℕ). come_from-more client earlier deed (later client)) in
    subst
    (λ (all : ℕ → List ℕ).
    TurnsTo t gives (clients_of first all) (all_told (earlier ++ deed ∷ [])) (clients_of next later))
    came
    (subst
    (λ (told : List ToldReply).
    TurnsTo t gives (clients_of first (in_all earlier (before deed later))) told
    (clients_of next later))
    (sym (one_deed_more told_in earlier deed))
    (one_deed t gives (clients_of first (in_all earlier (before deed later))) mid next deed
    (all_told earlier) later done come_before
    (are_exchanges t gives first mid earlier lives (before deed later) come_before)))
