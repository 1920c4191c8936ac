-- A message that is answered in a round.
use Rattle.std.specs.Prelude.{◌≡◌, ◌≢◌, refl, ℕ, Bool, true, List, [], ◌∷◌, take, bytes_eq, Option, None, Ok, if◌then◌else◌}
use Rattle.httparse.specs.Grammar.{RequestHead}
use Rattle.chain.specs.Ledgers.{LedgersMeaning, Tenants}
use Rattle.ledger_http.specs.declared.reply.Reply.{Reply}
use Rattle.ledger_http.specs.Message.{HasHead}
use Rattle.ledger_http.specs.Question.{Question, asked_of}
use Rattle.ledger_http.specs.ReplyText.{reply_text}
use Rattle.ledger_http.specs.Unread.{without, IsWhole}
use Rattle.service.specs.Connections.{GoesOnAfter}
use Rattle.service.specs.ConnectionEvents.{event_in}
use Rattle.service.specs.Courses.{Replied}
use Rattle.service.specs.Deeds.{asking, tenant_of, after_deed}
pub use Rattle.service.specs.ExchangeLaws.{HeadsAreUnique}
use Rattle.service.specs.Replies.{unavailable}
use Rattle.service.specs.Responds.{Responds}
use Rattle.service.specs.Seen.{Whole, Within, seen}
use Rattle.clients.specs.Talk.{Talk, may_answer}
use Rattle.clients.specs.Answering.{IsReplyReady}

-- the next message, of this size in bytes, is taken, and this reply to it is to be written; the
-- connection goes on after it or not
abbrev pub replied_to : ℕ → Bool → Reply → Talk → Talk
replied_to size goes_on reply talk = record {
  unread = without size talk.unread;
  unsent = reply_text reply;
  rest = None;
  goes_on = goes_on;
}

-- the message says whether it goes on
abbrev pub IsRepliedTo : ℕ → Reply → Talk → Talk → Type 0
IsRepliedTo size reply talk talk_now =
    (goes_on : Bool)
    × GoesOnAfter (take size talk.unread.bytes) goes_on
    × (talk_now ≡ replied_to size goes_on reply talk)

-- the bytes ask this
abbrev pub Asks : List ℕ → Question → Type 0
Asks bytes question =
    (head : Option RequestHead) × HasHead bytes head × (asked_of bytes head ≡ Ok question)

-- the next message may be answered, has so many bytes, and asks this
pub record IsNextReady (talk : Talk) (size : ℕ) (question : Question) : Type 0 where
  pub may : may_answer talk ≡ true
  pub whole : IsWhole talk.unread.bytes size
  pub asks : Asks (take size talk.unread.bytes) question

-- the machines after a question at a moment: that of its tenant is the one that it leaves
abbrev pub after_asking : Question → ℕ → Tenants → Tenants
after_asking question moment machines digest =
    if bytes_eq (tenant_of (asking question moment)) digest
    then after_deed (asking question moment) (machines digest)
    else machines digest

-- they are what an answer leaves
abbrev pub AnswersLeave : Type 0
AnswersLeave =
    (old new : Tenants) (bytes : List ℕ) (question : Question) (moment : ℕ) (reply : Reply)
    → Asks bytes question
    → Responds old new bytes moment reply
    → reply ≢ unavailable
    → new ≡ after_asking question moment old

-- what is replied to between transactions is so at points of rounds as well
abbrev pub AreSeen : {S C : Type 0} → LedgersMeaning S → (C → ℕ → C → Type 0) → Type 0
AreSeen {S} {C} t gives =
    (ledgers ledgers_now : S) (moments moments_now : C) (old new : Talk) (reply : Reply)
    → IsReplyReady t gives ledgers moments old reply ledgers_now moments_now new
    → IsReplyReady (seen t) gives (Whole ledgers) moments old reply
    (Whole ledgers_now) moments_now new

-- the reply that a message gets in a round is to the client's next message, whether or not the
-- ledgers behind the round are live
abbrev pub RepliesWithin : {S C : Type 0} → LedgersMeaning S → (C → ℕ → C → Type 0) → Type 0
RepliesWithin {S} {C} t gives =
    (ledgers : S) (machines : Tenants) (moments moments_now : C) (talk : Talk) (size : ℕ)
    (question : Question) (moment : ℕ) (goes_on : Bool) (reply : Reply)
    → IsNextReady talk size question
    → GoesOnAfter (take size talk.unread.bytes) goes_on
    → gives moments moment moments_now
    → t.follows ledgers ledgers
    → (t.is_live ledgers
    → Responds machines (after_asking question moment machines) (take size talk.unread.bytes)
    moment reply)
    → IsReplyReady (seen t) gives (Within ledgers machines) moments talk reply
    (Within ledgers (after_asking question moment machines)) moments_now
    (replied_to size goes_on reply talk)

-- a message may be told that the ledgers are unavailable, which are as they were; and that is its
-- event
abbrev pub TellsUnavailable : {S C : Type 0} → LedgersMeaning S → (C → ℕ → C → Type 0) → Type 0
TellsUnavailable {S} {C} t gives =
    (ledgers : S) (moments moments_now : C) (talk : Talk) (size : ℕ) (question : Question)
    (moment : ℕ) (goes_on : Bool)
    → IsNextReady talk size question
    → GoesOnAfter (take size talk.unread.bytes) goes_on
    → gives moments moment moments_now
    → t.follows ledgers ledgers
    → (has :
    IsReplyReady t gives ledgers moments talk unavailable ledgers moments_now
    (replied_to size goes_on unavailable talk))
    × (event_in unavailable (has.exchange [] (λ ended. refl)).by
    ≡ Replied (Ok question) moment unavailable ∷ [])
