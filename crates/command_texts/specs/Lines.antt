-- What commands write.
use Rattle.std.specs.Prelude.{◌≡◌, ℕ, Bool, false, List, [], ◌∷◌, ◌++◌, Option, codes}
use Rattle.std.specs.Io.KnownBytes.{Appends}
use Rattle.std.specs.Fmt.{decimal}
use Rattle.hex.specs.Hex.{encode_lower}
use Rattle.audit.specs.declared.damage.Damage.{Damage}
use Rattle.audit.specs.Damage.{kind_number}
use Rattle.records.specs.Streams.{AppendsFront}
use Rattle.command_texts.specs.declared.fault.Fault.{Fault}
use Rattle.command_texts.specs.Faults.{word_of}

-- the line on standard error that tells a fault
abbrev pub fault_line : Fault → List ℕ
fault_line fault = codes "ledgerd: " ++ word_of fault ++ 10 ∷ []

-- the line that tells a new tenant
abbrev pub added_line : List ℕ → List ℕ
added_line name = codes "added " ++ name ++ 10 ∷ []

-- the line that tells another key of a tenant
abbrev pub changed_line : List ℕ → List ℕ
changed_line name = codes "changed " ++ name ++ 10 ∷ []

-- the line that tells a key which was drawn
abbrev pub key_line : List ℕ → List ℕ
key_line key = codes "key " ++ key ++ 10 ∷ []

-- the line that tells that a service has ended
abbrev pub stopped_line : List ℕ
stopped_line = codes "stopped" ++ 10 ∷ []

-- the first line of a list of tenants, which names what stands in each other line
abbrev pub tenants_line : List ℕ
tenants_line = codes "name,digest,clock" ++ 10 ∷ []

-- the line of a tenant in it
abbrev pub tenant_line : List ℕ → List ℕ → List ℕ → List ℕ
tenant_line name digest clock = name ++ 44 ∷ digest ++ 44 ∷ clock ++ 10 ∷ []

-- the line of a count of a service
abbrev pub count_line : List ℕ → List ℕ → List ℕ
count_line name count = name ++ 32 ∷ count ++ 10 ∷ []

-- the line of a count in the text format of Prometheus
abbrev pub metric_line : List ℕ → List ℕ → List ℕ
metric_line name count = codes "ledgerd_" ++ count_line name count

-- the line on standard error that tells a file which has become a new ledger
abbrev pub new_ledger_line : List ℕ → List ℕ
new_ledger_line path = codes "new ledger " ++ path ++ 10 ∷ []

-- the line that tells how many bytes a copy has
abbrev pub copied_line : List ℕ → List ℕ
copied_line bytes = codes "copied " ++ bytes ++ 10 ∷ []

-- the line that tells the version of a file
abbrev pub schema_line : List ℕ → List ℕ
schema_line version = codes "schema " ++ version ++ 10 ∷ []

-- the line that tells where a file is damaged: the number of the kind, the digest and the place
abbrev pub damage_line : Damage → List ℕ
damage_line damage =
    codes "damaged " ++ decimal (kind_number damage.kind)
    ++ 32 ∷ encode_lower damage.digest
    ++ 32 ∷ decimal damage.place
    ++ 10 ∷ []

-- a text is written whole, or a beginning of it where the writer fails
pub record IsWritten (old new : Option (List ℕ)) (has_failed : Bool) (text : List ℕ) : Type 0 where
  pub front : AppendsFront old new text
  pub whole : has_failed ≡ false → Appends old new text

-- the line of a fault is written, and text may come behind it
abbrev pub IsFaultWritten : Option (List ℕ) → Option (List ℕ) → Bool → Fault → Type 0
IsFaultWritten old new has_failed fault =
    (more : List ℕ) × IsWritten old new has_failed (fault_line fault ++ more)
