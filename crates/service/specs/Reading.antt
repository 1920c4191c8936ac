-- What a read tells a request.
use Rattle.std.specs.Prelude.{◌≡◌, ◌≢◌, List, Result, Ok, Err}
use Rattle.records.specs.declared.unavailable.Unavailable as faults
use Rattle.chain.specs.declared.reads.QueryPage.{QueryPage}
use Rattle.chain.specs.declared.reads.ReadFault.{ReadFault}
use Rattle.chain.specs.declared.reads.ReadFault.TheVariants as fault
use Rattle.chain.specs.LedgerReads.{IsTold}
use Rattle.ledger_http.specs.declared.refusal.Refusal.{Refusal}
use Rattle.ledger_http.specs.declared.refusal.Refusal.TheVariants.{UnknownKey, NoAccount, NoHistory}
use Rattle.ledger_http.specs.declared.refusal.Refusal.TheVariants.{Unavailable}
use Rattle.ledger_http.specs.declared.reply.Reply.{Reply}
use Rattle.ledger_http.specs.ReplyText.{reply_text}
use Rattle.wire.specs.declared.outcome.Entries.{Entries}
use Rattle.wire.specs.declared.outcome.Outcome.{Outcome}
use Rattle.wire.specs.declared.outcome.Outcome.TheVariants.{Page, Refused}
use Rattle.wire.specs.Told.{outcome_text}
use Rattle.service.specs.declared.begun.Begun.{Begun}
use Rattle.service.specs.Begun.{whole}
use Rattle.service.specs.Replies.{unavailable}

-- the refusal that stands for a fault of a read
abbrev pub refusal_of : ReadFault → Refusal
refusal_of fault.UnknownKey = UnknownKey
refusal_of (fault.Unavailable why) = Unavailable
refusal_of fault.NoAccount = NoAccount
refusal_of fault.NoHistory = NoHistory
refusal_of (fault.Sink why) = Unavailable

-- what a read tells that shows what it finds so: that, or the refusal that stands for its fault;
-- want of memory, size or disk says nothing of that
abbrev pub TellsBy : {X : Type 0} → (X → Outcome → Type 0) → Outcome → Result X ReadFault → Type 0
TellsBy Shows told (Ok found) = (outcome : Outcome) → Shows found outcome → told ≡ outcome
TellsBy Shows told (Err why) = refusal_of why ≢ Unavailable → told ≡ Refused (refusal_of why)

-- the reply to a read that shows what it finds so, or is unavailable
pub record BeginsRead {X : Type 0} (Shows : X → Outcome → Type 0) (read : Result X ReadFault)
    (begun : Begun) : Type 0 where
  pub reply : Reply
  pub is : begun ≡ whole reply
  pub text :
      (told : Outcome) → TellsBy Shows told read → reply ≢ unavailable →
      reply_text reply ≡ outcome_text told
  pub told : reply ≢ unavailable → IsTold read
  pub failed : (why : faults.Unavailable) → read ≡ Err (fault.Unavailable why) → reply ≡ unavailable

-- a page is shown, whose entries are shown so
pub record ShowsPage {A : Type 0} (Shows : List A → Entries → Type 0) (page : QueryPage A)
    (outcome : Outcome) : Type 0 where
  pub entries : Entries
  pub shown : Shows page.entries.items entries
  pub is : outcome ≡ Page page.clock page.next entries
