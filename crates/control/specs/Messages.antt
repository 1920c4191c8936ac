-- What a command sends.
use Rattle.std.specs.Prelude.{ℕ, List, [], ◌∷◌, ◌++◌, codes, decimal, length}
use Rattle.ledger_http.specs.ReplyText.{line_end}
use Rattle.serde_json.specs.Data.{Data, string}
use Rattle.serde_json.specs.Written.{compact_text}
use Rattle.wire.specs.Reply.{object_with}
use Rattle.control.specs.Bodies.{named_data}
use Rattle.control.specs.PieceAsked.{piece_data}
use Rattle.control.specs.declared.messages.Call.{Call}
use Rattle.control.specs.declared.messages.Call.TheVariants.{Tenants, AddTenant, ChangeKey, Status, Copy, Statement, Stop}

-- the method and the path of each call
abbrev pub asked_by : Call → List ℕ × List ℕ
asked_by Tenants = (codes "GET", codes "/control/tenants")
asked_by (AddTenant name key) = (codes "POST", codes "/control/tenants")
asked_by (ChangeKey name key) = (codes "POST", codes "/control/keys")
asked_by Status = (codes "GET", codes "/control/status")
asked_by (Copy to) = (codes "POST", codes "/control/copy")
asked_by (Statement piece) = (codes "POST", codes "/control/statement")
asked_by Stop = (codes "POST", codes "/control/stop")

-- a tenant's name and key
abbrev pub tenant_data : List ℕ → List ℕ → Data
tenant_data name key =
    object_with ((codes "name", string name) ∷ (codes "key", string key) ∷ [])

-- the body of each call
abbrev pub body_text : Call → List ℕ
body_text Tenants = []
body_text (AddTenant name key) = compact_text (tenant_data name.now key.now)
body_text (ChangeKey name key) = compact_text (tenant_data name.now key.now)
body_text Status = []
body_text (Copy to) = compact_text (named_data (codes "to") to.now)
body_text (Statement piece) = compact_text (piece_data piece)
body_text Stop = []

-- the line of the call and the headers, and the empty line behind them
abbrev pub head_text : List ℕ → List ℕ → ℕ → List ℕ
head_text method path size =
    method ++ codes " " ++ path ++ codes " HTTP/1.1" ++ line_end
    ++ codes "host: control" ++ line_end
    ++ codes "connection: close" ++ line_end
    ++ codes "content-length: " ++ decimal size ++ line_end
    ++ line_end

-- a whole message
abbrev pub message_text : Call → List ℕ
message_text call =
    head_text (asked_by call).0 (asked_by call).1 (length (body_text call)) ++ body_text call
