-- A connection as a course: the messages that were read whole, as events.
use Rattle.std.specs.Prelude.{◌⊎◌, ℕ, List, [], ◌∷◌, ◌++◌}
use Rattle.std.proofs.Common.{inl, inr}
use Rattle.chain.specs.Ledgers.{LedgersMeaning, Tenants}
use Rattle.ledger_http.specs.declared.reply.Reply.{Reply}
use Rattle.ledger_http.specs.Question.{asked_of}
use Rattle.service.specs.Connections.{Connection, IsFirstAnswered, IsTurnedAway, LacksMemory, Exchange}
use Rattle.service.specs.Connections.{Runs}
use Rattle.service.specs.Courses.{Event, Replied, Course}
use Rattle.service.specs.InTurn.{OfSteps, events_along}
use Rattle.service.specs.OwnDeeds.{EachSees}

-- the event of an exchange; what is refused while it is read is none
abbrev pub event_in :
    {S C : Type 0} {t : LedgersMeaning S} {gives : C → ℕ → C → Type 0} {old new : Connection S C}
    (reply : Reply) →
    IsFirstAnswered t gives old reply new ⊎ (IsTurnedAway old reply new ⊎ LacksMemory old reply new)
    → List Event
event_in reply (inl answered) =
    Replied (asked_of answered.message answered.early.head) answered.moment reply ∷ []
event_in reply (inr refused) = []

-- the events of exchanges, in turn
abbrev pub events_in :
    {S C : Type 0} {t : LedgersMeaning S} {gives : C → ℕ → C → Type 0} {first last : Connection S C}
    {replies : List Reply} → Runs S C t gives first replies last → List Event
events_in {t} {gives} =
    events_along {Steps = Exchange t gives} (λ old reply new exchange. event_in reply exchange.by)

-- an exchange leads every course on that has led to its ledgers
abbrev pub ExchangesLeadOn :
    {S C : Type 0} → LedgersMeaning S → (C → ℕ → C → Type 0) → Type 0
ExchangesLeadOn {S} {C} t gives =
    (first : Tenants) (events : List Event) (old new : Connection S C) (reply : Reply)
    (exchange : Exchange t gives old reply new)
    → t.is_live new.ledgers
    → Course first events (t.tenants old.ledgers)
    → Course first (events ++ event_in reply exchange.by) (t.tenants new.ledgers)

-- this is so of the events of each connection, as long as the ledgers are live
abbrev pub OfConnections :
    {S C : Type 0} → LedgersMeaning S → (C → ℕ → C → Type 0)
    → (Tenants → List Event → Tenants → Type 0) → Type 0
OfConnections {S} {C} t gives =
    OfSteps {Steps = Exchange t gives} (λ old reply new exchange. event_in reply exchange.by) t
    (λ connection. connection.ledgers)

-- so the exchanges of a connection are a course
abbrev pub ConnectionsAreCourses : {S C : Type 0} → LedgersMeaning S → (C → ℕ → C → Type 0) → Type 0
ConnectionsAreCourses t gives = OfConnections t gives Course

-- on a connection each tenant sees its own requests alone
abbrev pub ServesEachAlone : {S C : Type 0} → LedgersMeaning S → (C → ℕ → C → Type 0) → Type 0
ServesEachAlone t gives = OfConnections t gives EachSees
