-- Messages of one connection, one after the other, and their replies.
use Rattle.std.specs.Prelude.{◌≡◌, ◌⊎◌, ℕ, ◌≤◌, Bool, true, false, not, List, [], ◌∷◌, ◌++◌, length, drop}
use Rattle.std.specs.Prelude.{Option, Some, None, Result, Ok, Err}
use Rattle.std.specs.Io.KnownBytes.{Appends, Keeps}
use Rattle.records.specs.Streams.{AppendsFront}
use Rattle.chain.specs.Ledgers.{LedgersMeaning, Finds}
use Rattle.ledger_http.specs.declared.refusal.Refusal.{Refusal}
use Rattle.ledger_http.specs.declared.reply.Reply.{Reply}
use Rattle.ledger_http.specs.declared.reply.Reply.TheVariants.{Fixed}
use Rattle.ledger_http.specs.RefusalTable.{is_of_reading}
use Rattle.ledger_http.specs.ReplyText.{reply_text}
use Rattle.ledger_http.specs.Message.{Begins, IsRefused, IsAnnounced, IsClosing, head_size, refused_size}
use Rattle.ledger_http.specs.First.{IsBrokenOff}
use Rattle.service.specs.declared.exchanging.Exchanged.{Exchanged}
use Rattle.service.specs.declared.serving.ServeFault.{ServeFault}
use Rattle.service.specs.declared.serving.ServeFault.TheVariants.{Read, Write}
use Rattle.service.specs.InTurn.{InTurn}
use Rattle.service.specs.Replies.{unavailable}
use Rattle.service.specs.Responds.{Responds, RefusesEarly, IsLeftBy}
use Rattle.service.specs.Responds as response

-- a connection between two messages: the ledgers, what is unread where that is known, what gives
-- the moments, and whether another message is read
pub record Connection (S C : Type 0) : Type 0 where
  pub ledgers : S
  pub unread : Option (List ℕ)
  pub moments : C
  pub goes_on : Bool

abbrev pub connection : {S C : Type 0} → S → Option (List ℕ) → C → Bool → Connection S C
connection ledgers unread moments goes_on =
    record { ledgers = ledgers; unread = unread; moments = moments; goes_on = goes_on }

-- a connection goes on after a message, unless its head ends it
abbrev pub GoesOnAfter : List ℕ → Bool → Type 0
GoesOnAfter message goes_on =
    (closes : Bool) × IsClosing message closes × (goes_on ≡ not closes)

-- the first message of what is unread is answered, at the moment that is then given; where the
-- ledgers are no longer live, no more is known than what is refused before a tenant is looked up
pub record IsFirstAnswered {S C : Type 0} (t : LedgersMeaning S) (gives : C → ℕ → C → Type 0)
    (old : Connection S C) (reply : Reply) (new : Connection S C) : Type 0 where
  pub message : List ℕ
  pub moment : ℕ
  pub first : (unread : List ℕ) → old.unread ≡ Some unread → Begins unread message new.unread
  pub given : gives old.moments moment new.moments
  pub responds :
      t.is_live new.ledgers
      → Responds (t.tenants old.ledgers) (t.tenants new.ledgers) message moment reply
  pub early : RefusesEarly message reply
  pub finds :
      Finds t (response.IsQuestionAnswered message reply) (IsLeftBy message moment)
      old.ledgers new.ledgers
  pub follows : t.follows old.ledgers new.ledgers
  pub goes_on : GoesOnAfter message new.goes_on

-- of what is unread at most so many bytes are taken
abbrev pub TakesAtMost : ℕ → List ℕ → Option (List ℕ) → Type 0
TakesAtMost most unread left = (size : ℕ) × (size ≤ most) × (left ≡ Some (drop size unread))

-- nothing changes but what is unread, of which this holds and at most so much is taken; no moment is
-- asked for, and the connection ends
pub record IsCutOff {S C : Type 0} (Holds : List ℕ → Type 0) (most : List ℕ → ℕ)
    (old new : Connection S C) : Type 0 where
  pub first : (unread : List ℕ) → old.unread ≡ Some unread → Holds unread
  pub taken :
      (unread : List ℕ) → old.unread ≡ Some unread → TakesAtMost (most unread) unread new.unread
  pub ledgers : new.ledgers ≡ old.ledgers
  pub moments : new.moments ≡ old.moments
  pub ends : new.goes_on ≡ false

-- a message is refused while it is read, and nothing is taken of what is behind its head; where it
-- is not known what is unread, the refusal is still one of those that are told while one is read
pub record IsTurnedAway {S C : Type 0} (old : Connection S C) (reply : Reply)
    (new : Connection S C) : Type 0 where
  pub refusal : Refusal
  pub told : reply ≡ Fixed refusal
  pub early : is_of_reading refusal ≡ true
  pub cut :
      IsCutOff (λ unread. IsRefused unread refusal) (λ unread. refused_size unread refusal) old new

-- memory runs out for the body of a message whose head is good, of which nothing is taken
pub record LacksMemory {S C : Type 0} (old : Connection S C) (reply : Reply)
    (new : Connection S C) : Type 0 where
  pub told : reply ≡ unavailable
  pub cut : IsCutOff IsAnnounced head_size old new

-- one message and its reply
pub record Exchange {S C : Type 0} (t : LedgersMeaning S) (gives : C → ℕ → C → Type 0)
    (old : Connection S C) (reply : Reply) (new : Connection S C) : Type 0 where
  pub open_before : old.goes_on ≡ true
  pub by :
      IsFirstAnswered t gives old reply new
      ⊎ (IsTurnedAway old reply new ⊎ LacksMemory old reply new)

-- the input has ended before the first byte of a message, where it is known what is unread; where it
-- is not, as over a socket, this says nothing: no reader tells its end but by what it gives
abbrev pub HasEnded : {S C : Type 0} → Connection S C → Type 0
HasEnded old = (unread : List ℕ) → old.unread ≡ Some unread → unread ≡ []

-- what reading and answering gives: a reply, or nothing at the end of the input
abbrev pub Exchanges :
    {S C : Type 0} → LedgersMeaning S → (C → ℕ → C → Type 0) → Connection S C → S
    → Option (List ℕ) → C → Option Exchanged → Type 0
Exchanges t gives old ledgers unread moments None =
    HasEnded old × Keeps old.unread unread × (ledgers ≡ old.ledgers) × (moments ≡ old.moments)
Exchanges t gives old ledgers unread moments (Some exchanged) =
    Exchange t gives old exchanged.reply (connection ledgers unread moments exchanged.goes_on)

-- exchanges, one after the other, with these replies
abbrev pub Runs :
    (S C : Type 0) → LedgersMeaning S → (C → ℕ → C → Type 0) → Connection S C → List Reply
    → Connection S C → Type 0
Runs S C t gives = InTurn (Connection S C) Reply (Exchange t gives)

-- the bytes of replies, one after the other
abbrev pub texts_of : List Reply → List ℕ
texts_of [] = []
texts_of (reply ∷ replies) = reply_text reply ++ texts_of replies

-- so many replies are written, and nothing else
pub record HasReplied {S C : Type 0} (t : LedgersMeaning S) (gives : C → ℕ → C → Type 0)
    (first : Connection S C) (written : Option (List ℕ)) (number : ℕ) (last : Connection S C)
    (written_now : Option (List ℕ)) : Type 0 where
  pub replies : List Reply
  pub runs : Runs S C t gives first replies last
  pub many : number ≡ length replies
  pub texts : Appends written written_now (texts_of replies)

-- so many replies are written, and no message is answered behind them, because of this
pub record HasStopped {S C : Type 0} (t : LedgersMeaning S) (gives : C → ℕ → C → Type 0)
    (first : Connection S C) (written : Option (List ℕ)) (number : ℕ)
    (Why : Connection S C → Option (List ℕ) → Type 0) (ledgers : S)
    (unread_now : Option (List ℕ)) (moments : C) (written_now : Option (List ℕ)) :
    Type 0 where
  pub last : Connection S C
  pub replied : HasReplied t gives first written number last written_now
  pub why : Why last unread_now
  pub ledgers_left : ledgers ≡ last.ledgers
  pub moments_left : moments ≡ last.moments

-- a connection is over without a fault: all replies that were asked for are written, or the last
-- one ended it, or the input has ended; nothing is read behind the last message
pub record IsServedOut {S C : Type 0} (most number : ℕ) (last : Connection S C)
    (unread_now : Option (List ℕ)) : Type 0 where
  pub ended : (number ≡ most) ⊎ ((last.goes_on ≡ false) ⊎ HasEnded last)
  pub unread_left : Keeps last.unread unread_now

-- the reader failed before another message was whole or refused
abbrev pub IsReadBroken : {S C : Type 0} → Connection S C → Option (List ℕ) → Type 0
IsReadBroken last unread_now =
    (unread : List ℕ) → last.unread ≡ Some unread → IsBrokenOff unread unread_now

-- the writer failed behind so many replies: the next exchange is done, a beginning of its reply
-- written, and nothing read behind its message
pub record HasFailedToWrite {S C : Type 0} (t : LedgersMeaning S) (gives : C → ℕ → C → Type 0)
    (first : Connection S C) (written : Option (List ℕ)) (number : ℕ) (ledgers : S)
    (unread_now : Option (List ℕ)) (moments : C) (written_now : Option (List ℕ)) :
    Type 0 where
  pub last : Connection S C
  pub between : Option (List ℕ)
  pub replied : HasReplied t gives first written number last between
  pub reply : Reply
  pub next : Connection S C
  pub exchanged : Exchange t gives last reply next
  pub begun : AppendsFront between written_now (reply_text reply)
  pub unread_left : Keeps next.unread unread_now
  pub ledgers_left : ledgers ≡ next.ledgers
  pub moments_left : moments ≡ next.moments

-- how serving a connection ends
abbrev pub IsServed :
    {S C : Type 0} → LedgersMeaning S → (C → ℕ → C → Type 0) → Connection S C → Option (List ℕ)
    → ℕ → S → Option (List ℕ) → C → Option (List ℕ) → Result ℕ ServeFault → Type 0
IsServed t gives first written most ledgers unread_now moments written_now (Ok number) =
    HasStopped t gives first written number (IsServedOut most number) ledgers unread_now moments
    written_now
IsServed t gives first written most ledgers unread_now moments written_now (Err (Read number)) =
    HasStopped t gives first written number IsReadBroken ledgers unread_now moments written_now
IsServed t gives first written most ledgers unread_now moments written_now (Err (Write number)) =
    HasFailedToWrite t gives first written number ledgers unread_now moments written_now

-- how many replies were written whole
abbrev pub replies_in : Result ℕ ServeFault → ℕ
replies_in (Ok number) = number
replies_in (Err (Read number)) = number
replies_in (Err (Write number)) = number

-- whether the reader failed
abbrev pub is_read_fault : Result ℕ ServeFault → Bool
is_read_fault (Ok number) = false
is_read_fault (Err (Read number)) = true
is_read_fault (Err (Write number)) = false

-- whether the writer failed
abbrev pub is_write_fault : Result ℕ ServeFault → Bool
is_write_fault (Ok number) = false
is_write_fault (Err (Read number)) = false
is_write_fault (Err (Write number)) = true
