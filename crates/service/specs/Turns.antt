-- Messages that are answered in one round: what each is told, and what the round makes of the
-- ledgers.
use Rattle.std.specs.Prelude.{◌≡◌, ◌≢◌, List, [], ◌∷◌}
use Rattle.std.specs.List.{AllByRecursion, AllZip}
use Rattle.chain.specs.Ledgers.{Tenants}
use Rattle.ledger_http.specs.declared.reply.Reply.{Reply}
use Rattle.service.specs.declared.turns.Message.{Message}
use Rattle.service.specs.Replies.{unavailable}
use Rattle.service.specs.Responds.{Responds}
use Rattle.service.specs.Courses.{Event, IsReplyTo}
use Rattle.service.specs.Openings.{RunMeaning, FoundAfterAll, MovesAll}

-- a message gets this reply, and these are the machines before and after it
abbrev pub RespondsTo : Tenants → Message → Reply → Tenants → Type 0
RespondsTo old message reply new = Responds old new message.bytes.items message.moment reply

-- messages get replies, one after the other and each the one in its place
abbrev pub RespondInTurn : Tenants → List Message → List Reply → Tenants → Type 0
RespondInTurn old [] [] new = new ≡ old
RespondInTurn old (message ∷ messages) (reply ∷ replies) new =
    (mid : Tenants) × RespondsTo old message reply mid × RespondInTurn mid messages replies new
RespondInTurn old messages replies new = ⊥

-- what is kept of a round: messages got replies, and none of these is that the ledgers are
-- unavailable
pub record TakeTurns (messages : List Message) (old : Tenants) (replies : List Reply)
    (new : Tenants) : Type 0 where
  pub respond : RespondInTurn old messages replies new
  pub available : AllByRecursion (λ reply. reply ≢ unavailable) replies

-- the events of messages and their replies, in order
abbrev pub AreRepliesTo : List Message → List Reply → List Event → Type 0
AreRepliesTo [] [] [] = Unit {0}
AreRepliesTo (message ∷ messages) (reply ∷ replies) (event ∷ events) =
    IsReplyTo message.bytes.items message.moment reply event
    × AreRepliesTo messages replies events
AreRepliesTo messages replies events = ⊥

-- what a round makes of the ledgers, by the replies to its messages: what may be found is what the
-- events of all of them leave to be found
pub record MovesInRound {S : Type 0} (t : RunMeaning S) (old : S) (messages : List Message)
    (replies : List Reply) (new : S) : Type 0 where
  pub respond :
      t.is_live new → RespondInTurn (t.tenants old) messages replies (t.tenants new)
  pub lived : t.is_live new → t.is_live old
  pub found :
      (found : Tenants) → t.may_find new found →
      (events : List Event) × AreRepliesTo messages replies events
      × FoundAfterAll t old events new found

-- the same where each message is answered alone: the events are those of all messages, whatever has
-- become of the ledgers
pub record MovesEach {S : Type 0} (t : RunMeaning S) (old : S) (messages : List Message)
    (replies : List Reply) (new : S) : Type 0 where
  pub respond :
      t.is_live new → RespondInTurn (t.tenants old) messages replies (t.tenants new)
  pub events : List Event
  pub are : AreRepliesTo messages replies events
  pub moves : MovesAll t old events new

-- a message gets this reply, by the ledgers as they were then
abbrev pub HearsOne : Message → Reply → Type 0
HearsOne message reply = (before : Tenants) × (after : Tenants) × RespondsTo before message reply after

-- in a round each message gets one reply, to itself
abbrev pub EachHearsItsOwn : Type 0
EachHearsItsOwn =
    (old new : Tenants) (messages : List Message) (replies : List Reply)
    → RespondInTurn old messages replies new
    → AllZip HearsOne messages replies
