-- What the reply to one tenant says, and what it leaves of all tenants.
use Rattle.std.specs.Prelude.{◌≡◌, ◌≢◌, ℕ, Bool, true, false, List, length, Option, Result, Ok, Err}
use Rattle.records.specs.declared.reply.BatchReply.{BatchReply}
use Rattle.records.specs.declared.reply.BatchReply.TheVariants.{Done, ClockExhausted}
use Rattle.records.specs.declared.reply.EventResult.{EventResult}
use Rattle.records.specs.Machine.{Machine}
use Rattle.chain.specs.declared.ledgers.BatchFault.{BatchFault}
use Rattle.chain.specs.declared.ledgers.BatchFault.TheVariants as fault
use Rattle.chain.specs.Ledgers.{Tenants, KeepsAll, KeepsOthers}
use Rattle.ledger_http.specs.declared.early.Early.{Early}
use Rattle.ledger_http.specs.declared.early.Early.TheVariants as early
use Rattle.ledger_http.specs.declared.refusal.Refusal.TheVariants.{UnknownKey, Unavailable}
use Rattle.ledger_http.specs.declared.refusal.Refusal.TheVariants as refused
use Rattle.ledger_http.specs.declared.reply.Reply.{Reply}
use Rattle.ledger_http.specs.declared.reply.Reply.TheVariants.{Fixed, Page, Health}
use Rattle.ledger_http.specs.ReplyText.{reply_text}
use Rattle.wire.specs.declared.outcome.Outcome.{Outcome}
use Rattle.wire.specs.declared.request.Request.{Request}
use Rattle.wire.specs.declared.request.Request.TheVariants as asks
use Rattle.wire.specs.Told.{outcome_text}
use Rattle.service.specs.declared.batches.BatchEvents.{BatchEvents}
use Rattle.service.specs.declared.batches.BatchEvents.TheVariants as batch
use Rattle.service.specs.Served.{Served, told_by, left_by, served_to}

-- the reply where memory, size or disk was wanting
abbrev pub unavailable : Reply
unavailable = Fixed Unavailable

-- that the ledgers serve, or that they have failed
abbrev pub health_by : (has_failed : Bool) → Reply
health_by true = unavailable
health_by false = Health

-- what is told before any tenant is looked up
abbrev pub told_early : (has_failed : Bool) → Early → Reply
told_early has_failed early.Page = Page
told_early has_failed early.Health = health_by has_failed
told_early has_failed (early.Refused refusal) = Fixed refusal

-- the tenant with this digest is told what is served to its own machine, its machine is the one
-- after that, and every other tenant's is as before
pub record AnswersTenant (old new : Tenants) (digest : List ℕ)
    (serves : Option Machine → Served (Option Machine)) (text : List ℕ) : Type 0 where
  pub told : text ≡ outcome_text (serves (old digest)).told
  pub own : new digest ≡ (serves (old digest)).left
  pub others : KeepsOthers digest old new

-- a reply that answers the tenant, or is unavailable, and then nothing has changed
pub record Serves (old new : Tenants) (digest : List ℕ) (meaning : Result Request Outcome)
    (moment : ℕ) (reply : Reply) : Type 0 where
  pub answered :
      reply ≢ unavailable
      → AnswersTenant old new digest (λ tenant. served_to tenant meaning moment) (reply_text reply)
  pub same : reply ≡ unavailable → KeepsAll old new

-- what work on a tenant's tables gives for a request: the reply that shows what its machine tells,
-- and the machine after it
pub record Gives (request : Request) (moment : ℕ) (m : Machine) (reply : Reply) (after : Machine) :
    Type 0 where
  pub text : reply_text reply ≡ outcome_text (told_by m moment request)
  pub left : after ≡ left_by m moment request
  pub available : reply ≢ unavailable

-- the reply of a batch of work, or of one that was not run
abbrev pub batch_reply : Result Reply BatchFault → Reply
batch_reply (Ok reply) = reply
batch_reply (Err fault.UnknownKey) = Fixed UnknownKey
batch_reply (Err (fault.Unavailable why)) = unavailable

-- the request for a batch of these events
abbrev pub batch_request : BatchEvents → Request
batch_request (batch.Accounts events) = asks.Accounts events
batch_request (batch.Transfers events) = asks.Transfers events

-- how many they are
abbrev pub batch_size : BatchEvents → ℕ
batch_size (batch.Accounts events) = length events
batch_size (batch.Transfers events) = length events

-- the reply to a batch, whose results are told so
abbrev pub TellsBatch :
    {R : Type 0} → (ℕ → List (EventResult R) → Outcome) → BatchReply R → Reply → Type 0
TellsBatch told ClockExhausted reply = reply ≡ Fixed refused.ClockExhausted
TellsBatch told (Done clock results) reply =
    reply_text reply ≡ outcome_text (told clock results.items)

-- so it is however its results are shown
abbrev pub ShowsBatch :
    {R : Type 0} → (ℕ → List (EventResult R) → Outcome → Type 0) → BatchReply R → Reply → Type 0
ShowsBatch {R} Shows batch reply =
    (told : ℕ → List (EventResult R) → Outcome)
    → ((clock : ℕ) (results : List (EventResult R)) (outcome : Outcome)
    → Shows clock results outcome
    → outcome ≡ told clock results)
    → TellsBatch told batch reply
