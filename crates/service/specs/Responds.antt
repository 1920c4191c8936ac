-- The response to a message, and what two ledgers have in common that agree on a tenant.
use Rattle.std.specs.Prelude.{◌≡◌, ◌≢◌, ℕ, Bool, true, List, Option, Result, Ok, Err, IsOk}
use Rattle.httparse.specs.Grammar.{RequestHead}
use Rattle.sha2.specs.Sha256.{sha256}
use Rattle.chain.specs.Ledgers.{Tenants, KeepsAll}
use Rattle.ledger_http.specs.declared.early.Early.{Early}
use Rattle.ledger_http.specs.declared.early.Early.TheVariants.{Page, Health}
use Rattle.ledger_http.specs.declared.reply.Reply.{Reply}
use Rattle.ledger_http.specs.ReplyText.{early_reply, early_text, page_reply, health_reply}
use Rattle.ledger_http.specs.ReplyText.{reply_text}
use Rattle.ledger_http.specs.Message.{HasHead, first_message, Begins}
use Rattle.ledger_http.specs.Question.{Question, asked_of}
use Rattle.parts.specs.declared.rest.Rest.{Rest}
use Rattle.service.specs.Begun.{IsLeftOf}
use Rattle.service.specs.Served.{served}
use Rattle.service.specs.Deeds.{asking, IsDeedDone}
use Rattle.service.specs.Replies.{AnswersTenant, unavailable, health_by}

-- a message is answered before any tenant is looked up, and nothing changes
pub record TellsEarly (old new : Tenants) (early : Early) (text : List ℕ) : Type 0 where
  pub told : text ≡ early_text early
  pub same : KeepsAll old new

-- what is asked is answered: the tenant that the key names by what is served to its own machine
abbrev pub AnswersAsked : Tenants → Tenants → Result Question Early → ℕ → List ℕ → Type 0
AnswersAsked old new (Ok question) moment text =
    AnswersTenant old new (sha256 question.key)
    (λ tenant. served tenant question moment) text
AnswersAsked old new (Err early) moment text = TellsEarly old new early text

-- the response to the first message of the bytes: an answer, or that the ledgers were unavailable,
-- which changes nothing and never stands for one of the first five refusals
pub record Responds (old new : Tenants) (bytes : List ℕ) (moment : ℕ) (reply : Reply) : Type 0 where
  pub head : Option RequestHead
  pub has : HasHead bytes head
  pub answered :
      reply ≢ unavailable → AnswersAsked old new (asked_of bytes head) moment (reply_text reply)
  pub same : reply ≡ unavailable → KeepsAll old new
  pub whole : reply ≡ unavailable → IsOk (first_message bytes head)

-- what is told before any tenant is looked up is told whatever the ledgers are
pub record RefusesEarly (bytes : List ℕ) (reply : Reply) : Type 0 where
  pub head : Option RequestHead
  pub has : HasHead bytes head
  pub refused :
      (early : Early) → asked_of bytes head ≡ Err early → reply ≢ unavailable →
      reply_text reply ≡ early_text early
  pub whole : reply ≡ unavailable → IsOk (first_message bytes head)

-- whoever asks for the page is told the page, and never that the ledgers are unavailable
pub record TellsPage (bytes : List ℕ) (reply : Reply) : Type 0 where
  pub head : Option RequestHead
  pub has : HasHead bytes head
  pub page : asked_of bytes head ≡ Err Page → reply ≡ early_reply Page

-- whoever asks for health is told it, and that the ledgers are unavailable exactly where they have
-- failed
pub record TellsHealth (has_failed : Bool) (bytes : List ℕ) (reply : Reply) : Type 0 where
  pub head : Option RequestHead
  pub has : HasHead bytes head
  pub health : asked_of bytes head ≡ Err Health → reply ≡ health_by has_failed

-- where the ledgers have failed, whoever asks something of a tenant is told that they are
-- unavailable, whatever the key
pub record TellsFailure (has_failed : Bool) (bytes : List ℕ) (reply : Reply) : Type 0 where
  pub head : Option RequestHead
  pub has : HasHead bytes head
  pub failure : has_failed ≡ true → IsOk (asked_of bytes head) → reply ≡ unavailable

-- the bytes ask a question
pub record IsQuestion (bytes : List ℕ) : Type 0 where
  pub head : Option RequestHead
  pub has : HasHead bytes head
  pub question : Question
  pub is : asked_of bytes head ≡ Ok question

-- the bytes ask a question, and it is answered
pub record IsQuestionAnswered (bytes : List ℕ) (reply : Reply) : Type 0 where
  pub asks : (head : Option RequestHead) → HasHead bytes head → IsOk (asked_of bytes head)
  pub available : reply ≢ unavailable

-- the machines after what the bytes ask was done
abbrev pub IsLeftByAsked : Result Question Early → ℕ → Tenants → Tenants → Type 0
IsLeftByAsked (Ok question) moment old found = IsDeedDone (asking question moment) old found
IsLeftByAsked (Err early) moment old found = ⊥

abbrev pub IsLeftBy : List ℕ → ℕ → Tenants → Tenants → Type 0
IsLeftBy bytes moment old found =
    (head : Option RequestHead) × HasHead bytes head
    × IsLeftByAsked (asked_of bytes head) moment old found

-- and of a statement something is left
abbrev pub IsLeftSame : List ℕ → ℕ → Tenants → Tenants → Rest → Type 0
IsLeftSame bytes moment old new rest = IsLeftBy bytes moment old new × IsLeftOf old new rest

-- the question is asked by the tenant with this digest
abbrev pub IsAsking : Result Question Early → List ℕ → Type 0
IsAsking (Ok question) digest = digest ≡ sha256 question.key
IsAsking (Err early) digest = ⊥

-- the bytes ask by the key of the tenant with this digest
abbrev pub IsCaller : List ℕ → List ℕ → Type 0
IsCaller bytes digest =
    (head : Option RequestHead) × HasHead bytes head × IsAsking (asked_of bytes head) digest

-- two ledgers give the same reply and leave the caller the same machine, and all others stay
pub record AgreesOn (bytes : List ℕ) (old new old' new' : Tenants) (reply reply' : Reply) :
    Type 0 where
  pub same_reply : reply_text reply ≡ reply_text reply'
  pub same_machine : (digest : List ℕ) → IsCaller bytes digest → new digest ≡ new' digest
  pub others :
      (digest : List ℕ) → (IsCaller bytes digest → ⊥) → new digest ≡ old digest
  pub others' :
      (digest : List ℕ) → (IsCaller bytes digest → ⊥) → new' digest ≡ old' digest

-- the law of isolation: the reply and the caller's machine after it depend on the caller's machine,
-- the bytes and the moment alone
abbrev pub Isolates : Type 0
Isolates =
    (old new old' new' : Tenants) (bytes : List ℕ) (moment : ℕ) (reply reply' : Reply)
    → Responds old new bytes moment reply
    → Responds old' new' bytes moment reply'
    → ((digest : List ℕ) → IsCaller bytes digest → old digest ≡ old' digest)
    → reply ≢ unavailable
    → reply' ≢ unavailable
    → AgreesOn bytes old new old' new' reply reply'

-- what is told early is the same bytes for everybody, and nothing changes
abbrev pub EarlyTellsNothing : Early → List ℕ → Type 0
EarlyTellsNothing early text =
    (old new : Tenants) (bytes : List ℕ) (head : Option RequestHead) (moment : ℕ) (reply : Reply)
    → HasHead bytes head
    → asked_of bytes head ≡ Err early
    → Responds old new bytes moment reply
    → reply ≢ unavailable
    → (reply_text reply ≡ text) × KeepsAll old new

-- so is the page, and what is told of ledgers that serve
abbrev pub PageTellsNothing : Type 0
PageTellsNothing = EarlyTellsNothing Page page_reply

abbrev pub HealthTellsNothing : Type 0
HealthTellsNothing = EarlyTellsNothing Health health_reply

-- what stands behind a message does not matter to its answer
abbrev pub MessagesStandAlone : Type 0
MessagesStandAlone =
    (old new : Tenants) (unread message : List ℕ) (left : Option (List ℕ)) (moment : ℕ)
    (reply : Reply)
    → Begins unread message left
    → Responds old new message moment reply
    → Responds old new unread moment reply
