-- A statement that is told in parts, and what is left behind each.
use Rattle.std.specs.Prelude.{◌≡◌, ◌≢◌, ◌<◌, ◌≤◌, ◌-◌, ◌^◌, ◌++◌, ℕ, Bool, List, [], Option, Some, None, Result, Ok, Err, All, length, map, min, nat_lt, if◌then◌else◌}
use Rattle.engine.specs.Following.{ContinuesAfter}
use Rattle.records.specs.Facts.{account_in}
use Rattle.records.specs.Machine.{Machine}
use Rattle.records.specs.declared.filter.Order.TheVariants.{Oldest}
use Rattle.records.specs.declared.query.Span.{Span}
use Rattle.records.specs.declared.statement_row.StatementRow.{StatementRow}
use Rattle.chain.specs.AccountEntries.{account_entries, entry_time, row_of}
use Rattle.records.specs.Reads.{statement_of}
use Rattle.records.specs.Step.{max_clock}
use Rattle.records.specs.Valid.{IsValid}
use Rattle.statement.specs.Text.{lines_of}
use Rattle.chain.specs.Ledgers.{Tenants}
use Rattle.chain.specs.Pages.{all_within, behind_last}
use Rattle.chain.specs.declared.account_entry.AccountEntry.{AccountEntry}
use Rattle.chain.specs.declared.reads.ReadFault.{ReadFault}
use Rattle.chain.specs.declared.reads.ReadFault.TheVariants as fault
use Rattle.parts.specs.Chunks.{chunks_of, part_chunks, rows_in_a_chunk}
use Rattle.parts.specs.Pieces.{LacksAccount}
use Rattle.parts.specs.declared.rest.Part.{Part}
use Rattle.parts.specs.declared.rest.Rest.{Rest}

-- the span of time that is left
abbrev pub span_of : Rest → Span
span_of rest =
    record { first = rest.first; last = rest.last; order = Oldest; most = rows_in_a_chunk }

-- all of an account's statement, of the tenant with this digest
abbrev pub whole_rest : List ℕ → ℕ → Rest
whole_rest digest account =
    record { digest = digest; account = account; first = 0; last = 2 ^ 64 - 1 }

-- what is left, as a tenant's machine has it
abbrev pub rows_left : Machine → Rest → List StatementRow
rows_left m rest =
    map (row_of rest.account)
    (all_within entry_time (span_of rest) (account_entries m rest.account))

-- its chunks, behind what stands before its lines
abbrev pub chunks_behind : List ℕ → Machine → Rest → List ℕ
chunks_behind before m rest = chunks_of (length (rows_left m rest)) before (rows_left m rest)

-- the chunks of what is left, if anything is, in a machine; of a tenant that is not there are none
abbrev pub chunks_in : Machine → Option Rest → List ℕ
chunks_in m None = []
chunks_in m (Some rest) = chunks_behind [] m rest

abbrev pub chunks_by : Option Machine → Rest → List ℕ
chunks_by None rest = []
chunks_by (Some m) rest = chunks_behind [] m rest

abbrev pub chunks_left : Tenants → Option Rest → List ℕ
chunks_left tenants None = []
chunks_left tenants (Some rest) = chunks_by (tenants rest.digest) rest

-- what is left behind these entries, where more may be: none of it later than the clock
abbrev pub rest_behind : Rest → ℕ → List AccountEntry → Option Rest
rest_behind rest clock entries =
    if nat_lt (length entries) rows_in_a_chunk then None
    else Some (record rest {
      first = behind_last entry_time Oldest 0 entries;
      last = min rest.last clock;
    })

-- whether entries are the last
abbrev pub are_last : List AccountEntry → Bool
are_last entries = nat_lt (length entries) rows_in_a_chunk

-- a part of these entries, behind what stands before their lines
pub record IsPartOf (before : List ℕ) (rest : Rest) (clock : ℕ) (entries : List AccountEntry)
    (part : Part) : Type 0 where
  pub made :
      part.chunks
      ≡ part_chunks (are_last entries) (before ++ lines_of (map (row_of rest.account) entries))
  pub behind :
      All (λ entry. entry_time entry ≤ max_clock) entries
      → part.rest ≡ rest_behind rest clock entries

-- what is left behind a part is of the same account, and none of it later than the clock
pub record IsBehind (m : Machine) (rest : Rest) (behind : Rest) : Type 0 where
  pub digest : behind.digest ≡ rest.digest
  pub account : behind.account ≡ rest.account
  pub ends : behind.last ≤ m.clock

abbrev pub IsLeftBehind : Machine → Rest → Option Rest → Type 0
IsLeftBehind m rest None = Unit {0}
IsLeftBehind m rest (Some behind) = IsBehind m rest behind

-- a part of what is left, in a tenant's machine: with what is left behind it, it is all of that,
-- and less is left than before, since it has bytes
pub record IsPart (before : List ℕ) (tenant : Option Machine) (rest : Rest) (part : Part) :
    Type 0 where
  pub machine : Machine
  pub is : tenant ≡ Some machine
  pub there : account_in machine rest.account ≢ None
  pub some : 0 < length part.chunks
  pub chunks : part.chunks ++ chunks_in machine part.rest ≡ chunks_behind before machine rest
  pub behind : IsLeftBehind machine rest part.rest

-- the tenant is there, and what is left of its statement ends by its clock
abbrev pub IsRestHeld : Tenants → Rest → Type 0
IsRestHeld tenants rest = (m : Machine) × (tenants rest.digest ≡ Some m) × (rest.last ≤ m.clock)

-- so is what is told of it; that there is no such tenant, or no such account, is told where it is
-- so
abbrev pub IsPartTold :
    List ℕ → Option Machine → Rest → Result Part ReadFault → Type 0
IsPartTold before tenant rest (Ok part) = IsPart before tenant rest part
IsPartTold before tenant rest (Err fault.UnknownKey) = tenant ≡ None
IsPartTold before tenant rest (Err fault.NoAccount) = LacksAccount rest.account tenant
IsPartTold before tenant rest (Err (fault.Unavailable why)) = Unit {0}
IsPartTold before tenant rest (Err fault.NoHistory) = ⊥
IsPartTold before tenant rest (Err (fault.Sink why)) = ⊥

-- before anything is told all of the statement is left
abbrev pub BeginsWhole : Type 0
BeginsWhole =
    (m : Machine) (digest : List ℕ) (account : ℕ)
    → IsValid m
    → rows_left m (whole_rest digest account) ≡ statement_of m account

-- a machine that continues another has the same left, up to the other's clock
abbrev pub RestsStay : Type 0
RestsStay =
    (m later : Machine) (rest : Rest)
    → ContinuesAfter m later
    → rest.last ≤ m.clock
    → rows_left later rest ≡ rows_left m rest
