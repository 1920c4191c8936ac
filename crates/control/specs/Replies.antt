-- The bytes of a reply.
use Rattle.std.specs.Prelude.{ℕ, List, ◌++◌, codes, decimal, length}
use Rattle.http.specs.StatusCode.{status_text}
use Rattle.ledger_http.specs.ReplyText.{line_end}
use Rattle.serde_json.specs.Written.{compact_text}
use Rattle.wire.specs.Reply.{refusal_data}
use Rattle.control.specs.declared.refusal.Refusal.{Refusal}
use Rattle.control.specs.Refusals.{word_of}

-- the status line and the headers, and the empty line behind them
abbrev pub head_text : ℕ → ℕ → List ℕ
head_text status size =
    codes "HTTP/1.1 " ++ status_text status ++ line_end
    ++ codes "content-length: " ++ decimal size ++ line_end
    ++ codes "content-type: application/json" ++ line_end
    ++ codes "connection: close" ++ line_end
    ++ line_end

-- a whole reply
abbrev pub reply_text : ℕ → List ℕ → List ℕ
reply_text status body = head_text status (length body) ++ body

-- the object that tells a refusal
abbrev pub refusal_body : Refusal → List ℕ
refusal_body refusal = compact_text (refusal_data (word_of refusal))
