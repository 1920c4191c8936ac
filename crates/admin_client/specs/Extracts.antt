-- The statement of a period that a command writes.
use Rattle.std.specs.Prelude.{◌≡◌, ℕ, Bool, true, false, List, [], length, map, Option}
use Rattle.std.specs.Prelude.{Result, Ok, Err}
use Rattle.std.specs.Io.KnownBytes.{Appends}
use Rattle.chain.specs.LedgerReads.{Seen, seen_in}
use Rattle.chain.specs.declared.reads.ReadFault.{ReadFault}
use Rattle.chain.specs.declared.reads.ReadFault.TheVariants as read
use Rattle.records.specs.Machine.{Machine}
use Rattle.records.specs.Reads.{Found, found_transfers, in_order}
use Rattle.records.specs.Streams.{AppendsFront}
use Rattle.records.specs.declared.filter.Order.TheVariants.{Oldest}
use Rattle.records.specs.declared.statement_row.StatementRow.{StatementRow}
use Rattle.records.specs.declared.transfer.Transfer.{Transfer}
use Rattle.statement.specs.Extract.{closing_of, kept_of, opening_of}
use Rattle.statement.specs.Period.{closing, opening, within}
use Rattle.statement.specs.Written.{extract_text}
use Rattle.statement.specs.declared.extract.Extract.{Extract}
use Rattle.command_texts.specs.declared.fault.Fault.{Fault}
use Rattle.command_texts.specs.declared.fault.Fault.TheVariants.{NoTenant, NoAccount, Unavailable}
use Rattle.command_texts.specs.declared.fault.Fault.TheVariants.{Output}
use Rattle.admin_client.specs.Asking.{is_whole}
use Rattle.admin_client.specs.Statements.{IsStatementTold, answer_in}
use Rattle.admin_client.specs.declared.asked.Asked.{Asked}

-- the tenant or the account is not there; want of memory and a store that is unavailable say
-- nothing of the tenant
abbrev pub IsAbsenceTold : Result (Seen (List StatementRow)) ReadFault → Fault → Type 0
IsAbsenceTold seen NoTenant = seen ≡ Err read.UnknownKey
IsAbsenceTold seen NoAccount = seen ≡ Err read.NoAccount
IsAbsenceTold seen Unavailable = Unit {0}
IsAbsenceTold seen fault = ⊥

-- the entries that are asked for, in the order asked
abbrev pub rows_asked : Asked → List StatementRow → List StatementRow
rows_asked asked rows = in_order asked.order (within asked.period rows)

-- what of a statement lies in the period
pub record FindsExtract (asked : Asked) (rows : List StatementRow) (e : Extract) : Type 0 where
  pub opening : opening_of e ≡ opening asked.period rows
  pub closing : closing_of e ≡ closing asked.period rows
  pub kept : kept_of e ≡ rows_asked asked rows

-- what of the account's statement lies in the period is found, or there is no such statement
abbrev pub IsExtractFound : Option Machine → ℕ → Asked → Result Extract Fault → Type 0
IsExtractFound tenant account asked (Ok e) =
    (answer : Seen (List StatementRow)) × (answer_in tenant account Oldest ≡ Ok answer)
    × FindsExtract asked answer.shown e
IsExtractFound tenant account asked (Err fault) =
    IsAbsenceTold (answer_in tenant account Oldest) fault

-- the transfers of these entries, in their order, where wide lines are asked for
abbrev pub AreTransfersOf : Option Machine → Bool → List StatementRow → List Transfer → Type 0
AreTransfersOf tenant false rows transfers = transfers ≡ []
AreTransfersOf tenant true rows transfers =
    (clock : ℕ)
    × (seen_in (λ m. Found (found_transfers m (map (λ row. row.transfer_id) rows))) tenant
    ≡ Ok (record { clock = clock; shown = transfers }))
    × (length transfers ≡ length rows)

-- what the statement of a period is: its lines in the form asked for, from the whole statement and
-- the tenant's transfers
pub record IsExtractText (tenant : Option Machine) (asked : Asked) (rows : List StatementRow)
    (text : List ℕ) : Type 0 where
  pub transfers : List Transfer
  pub theirs : AreTransfersOf tenant asked.layout.is_wide (rows_asked asked rows) transfers
  pub is : text ≡ extract_text asked.layout (opening asked.period rows) (rows_asked asked rows)
      transfers (closing asked.period rows)

-- a text is the statement of the period that is asked for
abbrev pub IsTextAsked : Option Machine → ℕ → Asked → List ℕ → Type 0
IsTextAsked tenant account asked text =
    (answer : Seen (List StatementRow)) × (answer_in tenant account Oldest ≡ Ok answer)
    × IsExtractText tenant asked answer.shown text

-- the statement of a period is written whole; or a beginning of it, before a failed write; or
-- nothing, where it is not found
abbrev pub IsExtractTold :
    {O : Type 0} → (O → Option (List ℕ)) → Option Machine → ℕ → Asked → O → O
    → Result Unit Fault → Type 0
IsExtractTold written tenant account asked old new (Ok done) =
    (text : List ℕ) × IsTextAsked tenant account asked text
    × Appends (written old) (written new) text
IsExtractTold written tenant account asked old new (Err Output) =
    (text : List ℕ) × IsTextAsked tenant account asked text
    × AppendsFront (written old) (written new) text
IsExtractTold written tenant account asked old new (Err fault) =
    IsAbsenceTold (answer_in tenant account Oldest) fault × (new ≡ old)

-- what is asked for is written: the whole statement, or that of a period
abbrev pub ToldBy :
    {O : Type 0} → Bool → (O → Option (List ℕ)) → Option Machine → ℕ → Asked → O → O
    → Result Unit Fault → Type 0
ToldBy true written tenant account asked old new result =
    IsStatementTold written (answer_in tenant account asked.order) old new result
ToldBy false written tenant account asked old new result =
    IsExtractTold written tenant account asked old new result

abbrev pub IsAskedTold :
    {O : Type 0} → (O → Option (List ℕ)) → Option Machine → ℕ → Asked → O → O
    → Result Unit Fault → Type 0
IsAskedTold written tenant account asked old new result =
    ToldBy (is_whole asked) written tenant account asked old new result
