-- The faults of commands: the word that tells each, and the status with which the program ends.
use Rattle.std.specs.Prelude.{ℕ, List, [], ◌∷◌, Option, bytes_eq, codes}
use Rattle.std.specs.List.{find}
use Rattle.records.specs.declared.row_sink.SinkFault.{SinkFault}
use Rattle.records.specs.declared.row_sink.SinkFault.TheVariants as sink
use Rattle.command_texts.specs.declared.fault.Fault.{Fault}
use Rattle.command_texts.specs.declared.fault.Fault.TheVariants.{NameTaken, DigestTaken, NoTenant}
use Rattle.command_texts.specs.declared.fault.Fault.TheVariants.{NoAccount, NotServed, Exists, BadName}
use Rattle.command_texts.specs.declared.fault.Fault.TheVariants.{BadKey, BadAccount}
use Rattle.command_texts.specs.declared.fault.Fault.TheVariants.{BadVersion, BadTime, BadFormat}
use Rattle.command_texts.specs.declared.fault.Fault.TheVariants.{BadAddress, BadRoute}
use Rattle.command_texts.specs.declared.fault.Fault.TheVariants.{Unavailable, Socket, Output}
use Rattle.command_texts.specs.declared.fault.Fault.TheVariants.{Unreadable, NotALedger, OldSchema}
use Rattle.command_texts.specs.declared.fault.Fault.TheVariants.{NewerSchema, Damaged, Behind, InUse}

-- the word that tells it
abbrev pub word_of : Fault → List ℕ
word_of NameTaken = codes "name_taken"
word_of DigestTaken = codes "digest_taken"
word_of NoTenant = codes "no_tenant"
word_of NoAccount = codes "no_account"
word_of NotServed = codes "not_served"
word_of Exists = codes "exists"
word_of BadName = codes "bad_name"
word_of BadKey = codes "bad_key"
word_of BadAccount = codes "bad_account"
word_of BadVersion = codes "bad_version"
word_of BadTime = codes "bad_time"
word_of BadFormat = codes "bad_format"
word_of BadAddress = codes "bad_address"
word_of BadRoute = codes "bad_route"
word_of Unavailable = codes "unavailable"
word_of Socket = codes "socket"
word_of Output = codes "output"
word_of Unreadable = codes "unreadable"
word_of NotALedger = codes "not_a_ledger"
word_of OldSchema = codes "old_schema"
word_of NewerSchema = codes "newer_schema"
word_of Damaged = codes "damaged"
word_of Behind = codes "behind"
word_of InUse = codes "in_use"

-- all of them
abbrev pub all_faults : List Fault
all_faults =
    NameTaken ∷ DigestTaken ∷ NoTenant ∷ NoAccount ∷ NotServed ∷ Exists ∷ BadName ∷ BadKey
    ∷ BadAccount ∷ BadVersion ∷ BadTime ∷ BadFormat ∷ BadAddress ∷ BadRoute ∷ Unavailable ∷ Socket ∷ Output
    ∷ Unreadable ∷ NotALedger ∷ OldSchema ∷ NewerSchema ∷ Damaged ∷ Behind ∷ InUse ∷ []

-- the fault that a word tells, if it is the word of one
abbrev pub fault_of : List ℕ → Option Fault
fault_of word = find (λ fault. bytes_eq word (word_of fault)) all_faults

-- the status: 1 where the ledger refuses, nobody serves it, or a copy's name is taken; 2 where the words are wrong, 3 the
-- machine, 4 the file; and 5 where another process has the file
abbrev pub status_of : Fault → ℕ
status_of NameTaken = 1
status_of DigestTaken = 1
status_of NoTenant = 1
status_of NoAccount = 1
status_of NotServed = 1
status_of Exists = 1
status_of BadName = 2
status_of BadKey = 2
status_of BadAccount = 2
status_of BadVersion = 2
status_of BadTime = 2
status_of BadFormat = 2
status_of BadAddress = 2
status_of BadRoute = 2
status_of Unavailable = 3
status_of Socket = 3
status_of Output = 3
status_of Unreadable = 4
status_of NotALedger = 4
status_of OldSchema = 4
status_of NewerSchema = 4
status_of Damaged = 4
status_of Behind = 4
status_of InUse = 5

-- the fault that is told where a sink refuses a row
abbrev pub sink_fault : SinkFault → Fault
sink_fault sink.Write = Output
sink_fault sink.Memory = Unavailable
