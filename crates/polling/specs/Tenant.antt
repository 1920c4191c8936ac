-- Which tenant a message is of, as far as turns go.
use Rattle.std.specs.Prelude.{◌≡◌, ◌⊎◌, ℕ, List, Option, Ok, take}
use Rattle.std.specs.Int.{w128, from_be_bytes}
use Rattle.sha2.specs.Sha256.{sha256}
use Rattle.httparse.specs.Grammar.{RequestHead}
use Rattle.ledger_http.specs.Message.{HasHead}
use Rattle.ledger_http.specs.Question.{Question, asked_of}

-- tenants are told apart by the first 16 bytes of the digest of the key
abbrev pub tenant_by : List ℕ → ℕ
tenant_by key = from_be_bytes w128 (take 16 (sha256 key))

-- the tenant of a message is that of the key that it names; a message that names none, or one for
-- which memory lacks, is of tenant 0
abbrev pub IsTenantOf : List ℕ → ℕ → Type 0
IsTenantOf message tenant =
    (tenant ≡ 0)
    ⊎ ((head : Option RequestHead) × HasHead message head
    × ((question : Question) × (asked_of message head ≡ Ok question) × (tenant ≡ tenant_by question.key)))
