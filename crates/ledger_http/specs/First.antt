-- What reading a message gives, where the bytes are known.
use Rattle.std.specs.Prelude.{◌≡◌, ℕ, ◌<◌, ◌≤◌, ◌⊎◌, true, List, [], ◌++◌, length, take, drop, Option, Some, Err, ⊤}
use Rattle.httparse.specs.Grammar.{RequestHead}
use Rattle.ledger_http.specs.declared.refusal.Refusal.{Refusal}
use Rattle.ledger_http.specs.declared.refusal.Refusal.TheVariants.{BadHead, Truncated}
use Rattle.ledger_http.specs.declared.message.Message.{Message}
use Rattle.ledger_http.specs.declared.message.Message.TheVariants.{Whole, End, Refused, NoMemory}
use Rattle.ledger_http.specs.Head.{IsGoodHead}
use Rattle.ledger_http.specs.Message.{length_of_body, Begins, IsRefused, IsAnnounced}
use Rattle.ledger_http.specs.Message.{head_size, refused_size}
use Rattle.ledger_http.specs.RefusalTable.{is_of_reading}
use Rattle.ledger_http.specs.Unread.{IsShort}

-- what a reader gives is the first message of what was unread, and what is left is all behind it;
-- behind a refusal, and where memory is wanting, it is all behind the head
abbrev pub IsFirst : List ℕ → Option (List ℕ) → Message → Type 0
IsFirst unread left (Whole bytes) = Begins unread bytes.items left
IsFirst unread left End = (unread ≡ []) × (left ≡ Some [])
IsFirst unread left (Refused refusal) =
    IsRefused unread refusal × (left ≡ Some (drop (refused_size unread refusal) unread))
IsFirst unread left NoMemory = IsAnnounced unread × (left ≡ Some (drop (head_size unread) unread))

-- a refusal is one of those that are told while a message is read, whatever the reader gives
abbrev pub IsToldReading : Message → Type 0
IsToldReading (Whole bytes) = ⊤
IsToldReading End = ⊤
IsToldReading (Refused refusal) = is_of_reading refusal ≡ true
IsToldReading NoMemory = ⊤

-- where a reader fails, it has given a beginning of a message that is not whole, or nothing, and
-- nothing of it is refused
pub record IsBrokenOff (unread : List ℕ) (left : Option (List ℕ)) : Type 0 where
  pub size : ℕ
  pub within : size ≤ length unread
  pub short : IsShort (take size unread)
  pub rest : left ≡ Some (drop size unread)

-- the bytes are no good head, or a good one behind which no body of allowed length is due
abbrev pub IsHeadRefused : List ℕ → Refusal → Type 0
IsHeadRefused head refusal =
    ((refusal ≡ BadHead) × ((h : RequestHead) → IsGoodHead head h → ⊥))
    ⊎ ((h : RequestHead) × IsGoodHead head h × (length_of_body h ≡ Err refusal))

-- behind a head stands a body of so many bytes, or less than that
abbrev pub IsRead : List ℕ → List ℕ → ℕ → Option (List ℕ) → Message → Type 0
IsRead head bytes size left (Whole message) =
    (message.items ≡ head ++ take size bytes)
    × (size ≤ length bytes) × (left ≡ Some (drop size bytes))
IsRead head bytes size left End = ⊥
IsRead head bytes size left (Refused refusal) =
    (refusal ≡ Truncated) × (length bytes < size) × (left ≡ Some [])
IsRead head bytes size left NoMemory = left ≡ Some bytes
