-- What has come from one client and is not taken yet, and what stands first in it.
use Rattle.std.specs.Prelude.{◌≡◌, ℕ, ◌≤◌, Bool, true, false, List, [], ◌++◌, length, take, drop, Option, Some, Err}
use Rattle.httparse.specs.Grammar.{RequestHead}
use Rattle.ledger_http.specs.declared.refusal.Refusal.TheVariants.{Truncated}
use Rattle.ledger_http.specs.declared.inbox.Next.{Next}
use Rattle.ledger_http.specs.declared.inbox.Next.TheVariants.{Whole, Refused, Wanting, End}
use Rattle.ledger_http.specs.Message.{HasHead, first_message, Begins, IsRefused}

-- the bytes that have come and are not taken, and whether the input has ended behind them
pub record Unread : Type 0 where
  pub bytes : List ℕ
  pub ended : Bool

-- before the first byte
abbrev pub nothing_yet : Unread
nothing_yet = record { bytes = []; ended = false }

-- a piece more has come
abbrev pub with_more : List ℕ → Unread → Unread
with_more piece unread = record unread { bytes = unread.bytes ++ piece }

-- the input has ended
abbrev pub ended_now : Unread → Unread
ended_now unread = record unread { ended = true }

-- so many bytes are taken
abbrev pub without : ℕ → Unread → Unread
without size unread = record unread { bytes = drop size unread.bytes }

-- the bytes are a beginning of a message, or none, and nothing of them is refused yet
abbrev pub IsShort : List ℕ → Type 0
IsShort bytes =
    (head : Option RequestHead) × HasHead bytes head × (first_message bytes head ≡ Err Truncated)

-- the first message has so many bytes
pub record IsWhole (bytes : List ℕ) (size : ℕ) : Type 0 where
  pub within : size ≤ length bytes
  pub begins : Begins bytes (take size bytes) (Some (drop size bytes))

-- what stands first: a whole message, or one that is refused whatever else comes; more is wanted
-- only of a message that is not refused, as long as the input has not ended
abbrev pub IsNextUnread : Unread → Next → Type 0
IsNextUnread unread (Whole size) = IsWhole unread.bytes size
IsNextUnread unread (Refused refusal) =
    IsRefused unread.bytes refusal × (refusal ≡ Truncated → unread.ended ≡ true)
IsNextUnread unread Wanting = (unread.ended ≡ false) × IsShort unread.bytes
IsNextUnread unread End = (unread.ended ≡ true) × (unread.bytes ≡ [])
