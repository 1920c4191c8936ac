-- Messages of several clients that share a round.
use Rattle.std.specs.Prelude.{◌≡◌, ◌≢◌, ℕ, List, [], ◌∷◌, take, Option, Some}
use Rattle.std.specs.List.{AllByRecursion}
use Rattle.chain.specs.Ledgers.{LedgersMeaning, Tenants}
use Rattle.ledger_http.specs.declared.reply.Reply.{Reply}
use Rattle.ledger_http.specs.Question.{Question}
use Rattle.service.specs.declared.turns.Message.{Message}
use Rattle.service.specs.Seen.{Whole, Within}
use Rattle.service.specs.Turns.{TakeTurns}
use Rattle.clients.specs.Talk.{Talk}
use Rattle.clients.specs.Within.{IsNextReady, IsRepliedTo}
use Rattle.polling.specs.Peers.{Doing, Handed}
use Rattle.polling.specs.Serving.{rules, AreGiven, FailedAs, IsFoundAgain}
use Rattle.polling.specs.Seating.{SeatsNow, held, ServesEach}
use Rattle.polling.specs.declared.round.Member.{Member}

-- these bytes are a client's next message
pub record IsCopyOf (talk : Talk) (size : ℕ) (bytes : List ℕ) : Type 0 where
  pub question : Question
  pub ready : IsNextReady talk size question
  pub copied : bytes ≡ take size talk.unread.bytes

-- a client is seated, and this is its next message
abbrev pub IsNextMessage : (ℕ → Option Talk) → Member → Message → Type 0
IsNextMessage seats member message =
    (talk : Talk) × (seats member.number ≡ Some talk)
    × IsCopyOf talk member.size message.bytes.items

abbrev pub IsNoneOf : ℕ → List Member → Type 0
IsNoneOf number members = AllByRecursion (λ (member : Member). member.number ≢ number) members

-- these are the next messages of clients, each of whom is there once
abbrev pub AreCopied : (ℕ → Option Talk) → List Member → List Message → Type 0
AreCopied seats [] [] = Unit {0}
AreCopied seats (member ∷ members) (message ∷ messages) =
    IsNextMessage seats member message
    × IsNoneOf member.number members
    × AreCopied seats members messages
AreCopied seats members messages = ⊥

abbrev pub moments_of : List Message → List ℕ
moments_of [] = []
moments_of (message ∷ messages) = message.moment ∷ moments_of messages

-- the reply to a client's message is put, and no other client is touched
abbrev pub IsPutTo : Member → Reply → (ℕ → Option Talk) → (ℕ → Option Talk) → Type 0
IsPutTo member reply seats seats_now =
    (talk : Talk)
    → seats member.number ≡ Some talk
    → (talk_now : Talk)
    × IsRepliedTo member.size reply talk talk_now
    × SeatsNow member.number (Some talk_now) seats seats_now

-- so too, and peers were handed that reply
abbrev pub IsHandedTo :
    {P : Type 0} → (P → Doing → P → Type 0) → Member → Reply → P → (ℕ → Option Talk) → P
    → (ℕ → Option Talk) → Type 0
IsHandedTo does member reply peers seats peers_now seats_now =
    (talk : Talk)
    → seats member.number ≡ Some talk
    → (talk_now : Talk)
    × IsRepliedTo member.size reply talk talk_now
    × SeatsNow member.number (Some talk_now) seats seats_now
    × does peers (Handed member.number talk_now.unsent) peers_now

-- copies, and the moments that were given for them
pub record AreGathered {C : Type 0} (gives : C → ℕ → C → Type 0)
    (seats : ℕ → Option Talk) (first : C)
    (members : List Member) (messages : List Message) (last : C) : Type 0 where
  pub copied : AreCopied seats members messages
  pub given : AreGiven gives first (moments_of messages) last

-- behind a round, of which these replies are not put yet: they lead from these machines to those of
-- the ledgers, where these are live
pub record AreToBePut {S C : Type 0} (t : LedgersMeaning S)
    (gives : C → ℕ → C → Type 0) (ledgers : S)
    (last : C) (machines : Tenants) (moments : C) (messages : List Message) (replies : List Reply) :
    Type 0 where
  pub given : AreGiven gives moments (moments_of messages) last
  pub turns : t.is_live ledgers → TakeTurns messages machines replies (t.tenants ledgers)

-- the replies of a round that was kept are put to its clients, and each is handed to peers
abbrev pub ArePut :
    {S C P : Type 0} → LedgersMeaning S → (C → ℕ → C → Type 0) → (Option ℕ → S → S → Type 0)
    → (List ℕ → Type 0) → (P → Doing → P → Type 0) → List Message → List Reply → P
    → (ℕ → Option Talk) → P → (ℕ → Option Talk) → ℕ → Type 0
ArePut {S} {C} {P} t gives renews waits does messages replies peers seats peers_now seats_now
    count =
    (ledgers : S) (machines : Tenants) (moments last : C) (next : ℕ)
    → t.follows ledgers ledgers
    → IsFoundAgain t ledgers
    → AreToBePut t gives ledgers last machines moments messages replies
    → ServesEach (rules t gives renews waits does)
    (held (Within ledgers machines) moments peers seats next)
    (held (Whole ledgers) last peers_now seats_now next) count

-- the disk failed with a round of these messages
abbrev pub IsLost : {S : Type 0} → LedgersMeaning S → S → List Message → S → Type 0
IsLost t old messages new =
    FailedAs t old
    (λ found. (replies : List Reply) × TakeTurns messages (t.tenants old) replies found) new

-- all clients of a round that was lost are told that the ledgers are unavailable
abbrev pub AreToldLost :
    {S C P : Type 0} → LedgersMeaning S → (C → ℕ → C → Type 0) → (Option ℕ → S → S → Type 0)
    → (List ℕ → Type 0) → (P → Doing → P → Type 0) → List Message → (ℕ → Option Talk)
    → (ℕ → Option Talk) → ℕ → Type 0
AreToldLost {S} {C} {P} t gives renews waits does messages seats seats_now count =
    (ledgers ledgers_now : S) (moments last : C) (peers : P) (next : ℕ)
    → t.follows ledgers ledgers
    → AreGiven gives moments (moments_of messages) last
    → IsLost t ledgers messages ledgers_now
    → ServesEach (rules t gives renews waits does) (held (Whole ledgers) moments peers seats next)
    (held (Whole ledgers_now) last peers seats_now next) count
