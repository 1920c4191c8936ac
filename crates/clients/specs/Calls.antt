-- What calls of a client ask for and leave.
use Rattle.std.specs.Prelude.{◌≡◌, ◌≤◌, ℕ, Option, Result, IfOk, IfSome, OnErr}
use Rattle.chain.specs.Ledgers.{LedgersMeaning}
use Rattle.ledger_http.specs.Limits.{longest_message}
use Rattle.ledger_http.specs.Message.{IsAnnounced}
use Rattle.ledger_http.specs.Progress.{HasLength}
use Rattle.ledger_http.specs.Unread.{IsWhole}
use Rattle.clients.specs.Talk.{Talk}

-- this was answered, and the ledgers follow on those before
pub record AnswersOn {S : Type 0} (t : LedgersMeaning S) (old new : S) (Answered : Type 0) :
    Type 0 where
  pub answers : Answered
  pub follows : t.follows old new

-- how long the next message is, if all of it has come; the client is as it was
pub record TellsSize (old new : Talk) (result : Option ℕ) : Type 0 where
  pub whole : IfSome result (IsWhole old.unread.bytes)
  pub same : new ≡ old

-- how long the next message is to be, where that is told
pub record TellsLength (talk : Talk) (result : Option ℕ) : Type 0 where
  pub length : IfSome result (HasLength talk.unread.bytes)
  pub few : IfSome result (λ length. length ≤ longest_message)

-- room for so many bytes at most; it fails only where a body is due; the client is as it was
pub record MakesRoom {E : Type 0} (old new : Talk) (most : ℕ) (result : Result ℕ E) : Type 0 where
  pub same : new ≡ old
  pub few : IfOk result (λ count. count ≤ most)
  pub due : OnErr result (IsAnnounced old.unread.bytes)
