-- What a body of transfers is answered, by what is served to its tenant.
use Rattle.std.specs.Prelude.{◌≡◌, ◌≢◌, ℕ, List, [], Option, Some, Result, Ok, Err}
use Rattle.serde_json.specs.Written.{compact_text}
use Rattle.records.specs.Machine.{Machine}
use Rattle.ledger_http.specs.declared.refusal.Refusal.{Refusal}
use Rattle.ledger_http.specs.declared.refusal.Refusal.TheVariants as refusal
use Rattle.ledger_http.specs.declared.route.Route.TheVariants as route
use Rattle.ledger_http.specs.RefusalTable.{name_of}
use Rattle.wire.specs.declared.outcome.Outcome.{Outcome}
use Rattle.wire.specs.declared.outcome.Outcome.TheVariants as told
use Rattle.wire.specs.declared.request.Request.{Request}
use Rattle.wire.specs.Asked.{told_if_refused}
use Rattle.wire.specs.Meaning.{meaning_of}
use Rattle.wire.specs.Reply.{account_batch_data, transfer_batch_data, accounts_data}
use Rattle.wire.specs.Reply.{transfers_data, balances_data, page_data, holds_data, linted_data, refusal_data}
use Rattle.service.specs.Served.{served_by, served_to}
use Rattle.bodies.specs.declared.plain_reply.PlainReply.{PlainReply}
use Rattle.bodies.specs.declared.plain_reply.PlainReply.TheVariants.{Body, Refused, Unavailable}

-- what is asked with a body of transfers, or the refusal of it
abbrev pub meant_by : List ℕ → Result Request Outcome
meant_by body = told_if_refused told.Refused (meaning_of route.Transfers [] body)

-- the body that shows an outcome, or the refusal
abbrev pub shown : Outcome → Result (List ℕ) Refusal
shown (told.Refused refusal) = Err refusal
shown (told.Detailed refusal fault) = Err refusal
shown (told.AccountResults clock results) = Ok (compact_text (account_batch_data clock results))
shown (told.TransferResults clock results) = Ok (compact_text (transfer_batch_data clock results))
shown (told.Accounts clock accounts) = Ok (compact_text (accounts_data clock accounts))
shown (told.Transfers clock transfers) = Ok (compact_text (transfers_data clock transfers))
shown (told.Balances clock balances) = Ok (compact_text (balances_data clock balances))
shown (told.Page clock next entries) = Ok (compact_text (page_data clock next entries))
shown (told.Holds clock holds) = Ok (compact_text (holds_data clock holds))
shown (told.Statement text) = Ok text
shown (told.Linted events) = Ok (compact_text (linted_data events))

-- what a tenant is told: the reply's body, or why there is none
abbrev pub plain_answer : Option Machine → List ℕ → ℕ → Result (List ℕ) Refusal
plain_answer tenant body moment = shown (served_to tenant (meant_by body) moment).told

-- what a reply says
abbrev pub said : PlainReply → Result (List ℕ) Refusal
said (Body bytes) = Ok bytes.items
said (Refused refusal) = Err refusal
said Unavailable = Err refusal.Unavailable

-- what work on a tenant's tables gives for a body: the reply that says what its machine tells, and
-- the machine after it
pub record GivesPlain (body : List ℕ) (moment : ℕ) (m : Machine) (reply : PlainReply)
    (after : Machine) : Type 0 where
  pub told : said reply ≡ plain_answer (Some m) body moment
  pub left : after ≡ (served_by m (meant_by body) moment).left
  pub available : reply ≢ Unavailable

-- what an answer is printed as: the body, or the refusal as an object
abbrev pub text_of : Result (List ℕ) Refusal → List ℕ
text_of (Ok text) = text
text_of (Err refusal) = compact_text (refusal_data (name_of refusal))
