-- The whole text of a reply, from its status line on.
use Rattle.std.specs.Prelude.{ℕ, List}
use Rattle.serde_json.specs.Data.{Data}
use Rattle.serde_json.specs.Written.{compact_text}
use Rattle.ledger_http.specs.declared.content_type.ContentType.TheVariants.{Json, Csv}
use Rattle.ledger_http.specs.Chunks.{chunked_text}
use Rattle.ledger_http.specs.declared.refusal.Refusal.{Refusal}
use Rattle.ledger_http.specs.RefusalTable.{name_of, status_of}
use Rattle.ledger_http.specs.ReplyText.{body_text, refusal_text, response_text}
use Rattle.wire.specs.declared.body_fault.BodyFault.{BodyFault}
use Rattle.wire.specs.declared.outcome.Outcome.{Outcome}
use Rattle.wire.specs.declared.outcome.Outcome.TheVariants.{Refused, Detailed, AccountResults}
use Rattle.wire.specs.declared.outcome.Outcome.TheVariants.{TransferResults, Accounts, Transfers}
use Rattle.wire.specs.declared.outcome.Outcome.TheVariants.{Balances, Page, Holds, Statement, Linted}
use Rattle.wire.specs.Reply.{account_batch_data, transfer_batch_data, accounts_data, transfers_data}
use Rattle.wire.specs.Reply.{balances_data, page_data, holds_data, linted_data, fault_data}

-- a reply whose body is this value as compact JSON
abbrev pub json_text : Data → List ℕ
json_text d = body_text Json (compact_text d)

-- the reply that refuses a body and says where; its status and its name are those of the refusal
unfoldable pub detailed_text : Refusal → BodyFault → List ℕ
detailed_text refusal fault =
    response_text (status_of refusal) Json (compact_text (fault_data (name_of refusal) fault))

-- the reply to an outcome
abbrev pub outcome_text : Outcome → List ℕ
outcome_text (Refused refusal) = refusal_text refusal
outcome_text (Detailed refusal fault) = detailed_text refusal fault
outcome_text (AccountResults clock results) = json_text (account_batch_data clock results)
outcome_text (TransferResults clock results) = json_text (transfer_batch_data clock results)
outcome_text (Accounts clock accounts) = json_text (accounts_data clock accounts)
outcome_text (Transfers clock transfers) = json_text (transfers_data clock transfers)
outcome_text (Balances clock balances) = json_text (balances_data clock balances)
outcome_text (Page clock next entries) = json_text (page_data clock next entries)
outcome_text (Holds clock holds) = json_text (holds_data clock holds)
outcome_text (Statement chunks) = chunked_text Csv chunks
outcome_text (Linted events) = json_text (linted_data events)
