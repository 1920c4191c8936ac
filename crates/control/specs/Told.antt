-- What a reply tells.
use Rattle.std.specs.Prelude.{◌≡◌, ◌≢◌, ◌⊎◌, ℕ, List, codes, IsSome, Some, option_and_then, unwrap_or}
use Rattle.httparse.specs.Grammar.{ResponseHead, ReadsResponse, status_code}
use Rattle.serde_json.specs.Data.{Data}
use Rattle.serde_json.specs.Find.{as_str, get}
use Rattle.wire.specs.Body.{json_of}
use Rattle.command_texts.specs.declared.fault.Fault.{Fault}
use Rattle.command_texts.specs.declared.fault.Fault.TheVariants.{Unavailable, Unreadable}
use Rattle.command_texts.specs.Faults.{fault_of}

-- the bytes are a head with this status, and then this body
abbrev pub HasReply : List ℕ → ℕ → List ℕ → Type 0
HasReply bytes status body =
    (head : ResponseHead) × ReadsResponse bytes head body × (status_code head ≡ status)

-- the fault whose word an object has; a word that is none tells that it is not known
abbrev pub fault_in : Data → Fault
fault_in d =
    unwrap_or (option_and_then fault_of (option_and_then as_str (get (codes "error") d))) Unavailable

-- the reply tells this body, which is JSON
abbrev pub IsToldIn : List ℕ → List ℕ → Type 0
IsToldIn bytes body = HasReply bytes 200 body × IsSome (json_of body)

-- it tells this fault, or it is not known what it tells
abbrev pub IsFaultIn : List ℕ → Fault → Type 0
IsFaultIn bytes fault =
    (fault ≡ Unavailable)
    ⊎ ((status : ℕ) × (body : List ℕ) × HasReply bytes status body × (status ≢ 200)
    × (d : Data) × (json_of body ≡ Some d) × (fault ≡ fault_in d))

-- why a call is not answered: no reply was read, or the socket is another user's, or a reply tells
-- it
abbrev pub IsCallFault : Fault → Type 0
IsCallFault fault =
    (fault ≡ Unavailable) ⊎ (fault ≡ Unreadable) ⊎ ((reply : List ℕ) × IsFaultIn reply fault)
