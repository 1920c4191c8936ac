-- What answering a client's next message does.
use Rattle.std.specs.Prelude.{◌≡◌, ℕ, Bool, true, false, List, [], ◌++◌, Option, Some, IfSome}
use Rattle.chain.specs.Ledgers.{LedgersMeaning}
use Rattle.ledger_http.specs.declared.reply.Reply.{Reply}
use Rattle.ledger_http.specs.declared.reply.Reply.TheVariants.{Fixed}
use Rattle.ledger_http.specs.ReplyText.{reply_text}
use Rattle.ledger_http.specs.Message.{IsAnnounced}
use Rattle.ledger_http.specs.Unread.{Unread, IsShort}
use Rattle.parts.specs.Parts.{IsRestHeld}
use Rattle.parts.specs.declared.rest.Rest.{Rest}
use Rattle.service.specs.Begun.{reply_of}
use Rattle.service.specs.Replies.{unavailable}
use Rattle.service.specs.Connections.{connection, Exchange}
use Rattle.clients.specs.declared.client.Answered.{Answered}
use Rattle.clients.specs.declared.client.Answered.TheVariants.{Replied, Wanting, Over}
use Rattle.clients.specs.declared.exchanging.Exchanged.{Exchanged}
use Rattle.clients.specs.declared.exchanging.Exchanged.TheVariants as exchanged
use Rattle.clients.specs.Talk.{Talk, given_up, owed}

-- these bytes may come behind what has come: none, once the input has ended
abbrev pub MayCome : Unread → List ℕ → Type 0
MayCome unread later = unread.ended ≡ true → later ≡ []

-- an exchange over what has come, whatever comes later
abbrev pub IsExchange :
    {S C : Type 0} → LedgersMeaning S → (C → ℕ → C → Type 0) → S → C → Unread → Reply → S → C
    → Unread → Bool → Type 0
IsExchange t gives ledgers moments unread reply ledgers_now moments_now unread_now goes_on =
    (later : List ℕ)
    → MayCome unread later
    → Exchange t gives (connection ledgers (Some (unread.bytes ++ later)) moments true) reply
    (connection ledgers_now (Some (unread_now.bytes ++ later)) moments_now goes_on)

-- nothing has changed
pub record IsUnmoved {S C T : Type 0} (ledgers : S) (moments : C) (old : T) (ledgers_now : S)
    (moments_now : C) (new : T) : Type 0 where
  pub ledgers_same : ledgers_now ≡ ledgers
  pub moments_same : moments_now ≡ moments
  pub same : new ≡ old

-- no message is whole, and more may come
abbrev pub IsWanting : Unread → Type 0
IsWanting unread = (unread.ended ≡ false) × IsShort unread.bytes

-- nothing is left to answer
abbrev pub IsAllAnswered : Unread → Type 0
IsAllAnswered unread = (unread.ended ≡ true) × (unread.bytes ≡ [])

-- what is left of a statement is held by the ledgers, as long as they are live
abbrev pub AreHeld : {S : Type 0} → LedgersMeaning S → S → Option Rest → Type 0
AreHeld t ledgers rest =
    IfSome rest (λ rest. t.is_live ledgers → IsRestHeld (t.tenants ledgers) rest)

-- what answering the first message of what has come gives
abbrev pub ExchangesFirst :
    {S C : Type 0} → LedgersMeaning S → (C → ℕ → C → Type 0) → S → C → Unread → S → C → Unread
    → Exchanged → Type 0
ExchangesFirst t gives ledgers moments old ledgers_now moments_now new
    (exchanged.Answered begun goes_on) =
    IsExchange t gives ledgers moments old (reply_of (t.tenants ledgers_now) begun) ledgers_now
    moments_now new goes_on
    × (new.ended ≡ old.ended)
    × AreHeld t ledgers_now begun.rest
ExchangesFirst t gives ledgers moments old ledgers_now moments_now new (exchanged.Refused refusal) =
    IsExchange t gives ledgers moments old (Fixed refusal) ledgers_now moments_now new false
    × (new.ended ≡ old.ended)
ExchangesFirst t gives ledgers moments old ledgers_now moments_now new exchanged.Wanting =
    IsUnmoved ledgers moments old ledgers_now moments_now new × IsWanting old
ExchangesFirst t gives ledgers moments old ledgers_now moments_now new exchanged.Over =
    IsUnmoved ledgers moments old ledgers_now moments_now new × IsAllAnswered old

-- a reply to the client's next message is ready to be written, of a statement its first part
pub record IsReplyReady {S C : Type 0} (t : LedgersMeaning S) (gives : C → ℕ → C → Type 0)
    (ledgers : S) (moments : C) (old : Talk) (reply : Reply) (ledgers_now : S) (moments_now : C)
    (new : Talk) : Type 0 where
  pub exchange :
      IsExchange t gives ledgers moments old.unread reply ledgers_now moments_now new.unread
      new.goes_on
  pub unsent : owed (t.tenants ledgers_now) new ≡ reply_text reply
  pub held : AreHeld t ledgers_now new.rest
  pub ended : new.unread.ended ≡ old.unread.ended

-- a reply is ready; or no message is whole, and more may come; or nothing is left to answer
abbrev pub HasAnswered :
    {S C : Type 0} → LedgersMeaning S → (C → ℕ → C → Type 0) → S → C → Talk → S → C → Talk
    → Answered → Type 0
HasAnswered t gives ledgers moments old ledgers_now moments_now new Replied =
    (reply : Reply) × IsReplyReady t gives ledgers moments old reply ledgers_now moments_now new
HasAnswered t gives ledgers moments old ledgers_now moments_now new Wanting =
    IsUnmoved ledgers moments old ledgers_now moments_now new × IsWanting old.unread
HasAnswered t gives ledgers moments old ledgers_now moments_now new Over =
    IsUnmoved ledgers moments old ledgers_now moments_now new × IsAllAnswered old.unread

-- where memory is wanting for a body that is due, the last reply says so
abbrev pub TellsGivenUp : {S C : Type 0} → LedgersMeaning S → (C → ℕ → C → Type 0) → Type 0
TellsGivenUp {S} {C} t gives =
    (ledgers : S) (moments : C) (talk : Talk)
    → IsAnnounced talk.unread.bytes
    → IsReplyReady t gives ledgers moments talk unavailable ledgers moments (given_up talk)
