-- The bytes of a reply.
use Rattle.std.specs.Prelude.{ℕ, List, [], ◌∷◌, ◌++◌, length, codes, decimal}
use Rattle.console.specs.Reply as console
use Rattle.http.specs.StatusCode.{status_text}
use Rattle.ledger_http.specs.declared.early.Early.{Early}
use Rattle.ledger_http.specs.declared.early.Early.TheVariants as early
use Rattle.ledger_http.specs.declared.refusal.Refusal.{Refusal}
use Rattle.ledger_http.specs.declared.content_type.ContentType.{ContentType}
use Rattle.ledger_http.specs.declared.content_type.ContentType.TheVariants.{Json, Csv}
use Rattle.ledger_http.specs.declared.reply.Reply.{Reply}
use Rattle.ledger_http.specs.declared.reply.Reply.TheVariants.{Whole, Fixed, Page, Health}
use Rattle.ledger_http.specs.RefusalTable.{status_of, name_of}

-- carriage return and line feed
abbrev pub line_end : List ℕ
line_end = 13 ∷ 10 ∷ []

-- a content type as a header has it
abbrev pub kind_name : ContentType → List ℕ
kind_name Json = codes "application/json"
kind_name Csv = codes "text/csv"

-- the status line, the length and the type of the body, and an empty line
abbrev pub head_text : ℕ → ContentType → ℕ → List ℕ
head_text status kind size =
    codes "HTTP/1.1 " ++ status_text status ++ line_end
    ++ codes "content-length: " ++ decimal size ++ line_end
    ++ codes "content-type: " ++ kind_name kind ++ line_end
    ++ line_end

-- a whole reply
abbrev pub response_text : ℕ → ContentType → List ℕ → List ℕ
response_text status kind body = head_text status kind (length body) ++ body

-- a reply without refusal
unfoldable pub body_text : ContentType → List ℕ → List ℕ
body_text kind body = response_text 200 kind body

-- the object that names a refusal
abbrev pub refusal_body : Refusal → List ℕ
refusal_body refusal = codes "{\"error\":\"" ++ name_of refusal ++ codes "\"}"

-- the reply that refuses a message
unfoldable pub refusal_text : Refusal → List ℕ
refusal_text refusal = response_text (status_of refusal) Json (refusal_body refusal)

-- the reply that has the console's page
unfoldable pub page_reply : List ℕ
page_reply = console.reply_text

-- the object that tells that the ledgers serve
abbrev pub health_body : List ℕ
health_body = codes "{\"serving\":true}"

-- the reply that tells it
unfoldable pub health_reply : List ℕ
health_reply = response_text 200 Json health_body

-- the bytes of a reply
abbrev pub reply_text : Reply → List ℕ
reply_text (Whole text) = text
reply_text (Fixed refusal) = refusal_text refusal
reply_text Page = page_reply
reply_text Health = health_reply

-- the reply that tells what comes before any tenant is looked up, and its bytes
abbrev pub early_reply : Early → Reply
early_reply early.Page = Page
early_reply early.Health = Health
early_reply (early.Refused refusal) = Fixed refusal

abbrev pub early_text : Early → List ℕ
early_text told = reply_text (early_reply told)
