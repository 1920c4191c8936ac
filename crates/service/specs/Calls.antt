-- What a call over the ledgers of many tenants tells and leaves, a word each.
use Rattle.std.specs.Prelude.{◌≡◌, ◌≢◌, ℕ, true, List, Result, IfSome}
use Rattle.chain.specs.Ledgers.{LedgersMeaning, Finds}
use Rattle.ledger_http.specs.declared.reply.Reply.{Reply}
use Rattle.wire.specs.declared.outcome.Outcome.{Outcome}
use Rattle.wire.specs.declared.request.Request.{Request}
use Rattle.service.specs.declared.begun.Begun.{Begun}
use Rattle.service.specs.Begun.{IsLeftOf, reply_of, whole}
use Rattle.service.specs.Deeds.{Asked, IsDeedDone}
use Rattle.service.specs.Replies.{Serves, unavailable}
use Rattle.service.specs.Responds.{Responds, RefusesEarly, TellsPage, TellsHealth, TellsFailure}
use Rattle.service.specs.Responds.{IsQuestionAnswered, IsLeftBy}

-- a request of one tenant is served, or refused where the ledgers have failed
pub record ServesOver {S : Type 0} (t : LedgersMeaning S) (digest : List ℕ)
    (meaning : Result Request Outcome) (moment : ℕ) (old new : S) (reply : Reply) : Type 0 where
  pub serves :
      t.is_live new → Serves (t.tenants old) (t.tenants new) digest meaning moment reply
  pub failed : t.has_failed old ≡ true → reply ≡ unavailable
  pub finds :
      Finds t (reply ≢ unavailable) (IsDeedDone (Asked digest meaning moment)) old new
  pub follows : t.follows old new

-- the same of a reply that is begun; where something of it is left, the machines are as before
pub record BeginsOver {S : Type 0} (t : LedgersMeaning S) (digest : List ℕ)
    (meaning : Result Request Outcome) (moment : ℕ) (old new : S) (begun : Begun) : Type 0 where
  pub serves :
      t.is_live new →
      Serves (t.tenants old) (t.tenants new) digest meaning moment (reply_of (t.tenants new) begun)
  pub failed : t.has_failed old ≡ true → begun ≡ whole unavailable
  pub finds :
      Finds t (reply_of (t.tenants new) begun ≢ unavailable)
      (IsDeedDone (Asked digest meaning moment)) old new
  pub left :
      IfSome begun.rest (λ rest. t.is_live new → IsLeftOf (t.tenants old) (t.tenants new) rest)
  pub follows : t.follows old new

-- a reply to the first message of the bytes: the response to it where the ledgers are live, and
-- what is told whatever they are
pub record RespondsOver {S : Type 0} (t : LedgersMeaning S) (bytes : List ℕ) (moment : ℕ)
    (old new : S) (reply : Reply) : Type 0 where
  pub responds : t.is_live new → Responds (t.tenants old) (t.tenants new) bytes moment reply
  pub early : RefusesEarly bytes reply
  pub page : TellsPage bytes reply
  pub health : TellsHealth (t.has_failed old) bytes reply
  pub failed : TellsFailure (t.has_failed old) bytes reply
  pub finds : Finds t (IsQuestionAnswered bytes reply) (IsLeftBy bytes moment) old new
  pub follows : t.follows old new
