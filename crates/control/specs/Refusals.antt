-- Why a call is refused: the word and the status of its reply.
use Rattle.std.specs.Prelude.{ℕ, List, codes}
use Rattle.command_texts.specs.declared.fault.Fault.{Fault}
use Rattle.command_texts.specs.declared.fault.Fault.TheVariants as fault
use Rattle.command_texts.specs.Faults as faults
use Rattle.control.specs.declared.refusal.Refusal.{Refusal}
use Rattle.control.specs.declared.refusal.Refusal.TheVariants.{NoRoute, BadMethod, BadRequest, Judged}

-- the word that tells it
abbrev pub word_of : Refusal → List ℕ
word_of NoRoute = codes "no_route"
word_of BadMethod = codes "bad_method"
word_of BadRequest = codes "bad_request"
word_of (Judged fault) = faults.word_of fault

-- the status of a fault: 404 for what is not there, 409 for what another one has, 400 for words
-- that are wrong, and 503 where nothing was done
abbrev pub fault_status : Fault → ℕ
fault_status fault.NameTaken = 409
fault_status fault.DigestTaken = 409
fault_status fault.NoTenant = 404
fault_status fault.NoAccount = 404
fault_status fault.NotServed = 503
fault_status fault.Exists = 409
fault_status fault.BadName = 400
fault_status fault.BadKey = 400
fault_status fault.BadAccount = 400
fault_status fault.BadVersion = 400
fault_status fault.BadTime = 400
fault_status fault.BadFormat = 400
fault_status fault.BadAddress = 400
fault_status fault.BadRoute = 400
fault_status fault.Unavailable = 503
fault_status fault.Socket = 503
fault_status fault.Output = 503
fault_status fault.Unreadable = 503
fault_status fault.NotALedger = 503
fault_status fault.OldSchema = 503
fault_status fault.NewerSchema = 503
fault_status fault.Damaged = 503
fault_status fault.Behind = 503
fault_status fault.InUse = 503

-- the status of a refusal
abbrev pub status_of : Refusal → ℕ
status_of NoRoute = 404
status_of BadMethod = 405
status_of BadRequest = 400
status_of (Judged fault) = fault_status fault
