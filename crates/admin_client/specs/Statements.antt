-- The statement that a command writes.
use Rattle.std.specs.Prelude.{◌≡◌, ℕ, List, take, Option, Result, Ok, Err}
use Rattle.std.specs.Io.KnownBytes.{Appends}
use Rattle.records.specs.declared.filter.Order.{Order}
use Rattle.records.specs.declared.statement_row.StatementRow.{StatementRow}
use Rattle.records.specs.Machine.{Machine}
use Rattle.records.specs.Reads.{statement_answer}
use Rattle.records.specs.Streams.{AppendsFront}
use Rattle.chain.specs.declared.reads.ReadFault.{ReadFault}
use Rattle.chain.specs.declared.reads.ReadFault.TheVariants as read
use Rattle.chain.specs.Ledgers.{LedgersMeaning}
use Rattle.chain.specs.LedgerReads.{ReadsOnly, Seen, rows_of, seen_in}
use Rattle.statement.specs.Text.{begun_text, statement_text}
use Rattle.command_texts.specs.Faults.{sink_fault}
use Rattle.command_texts.specs.declared.fault.Fault.{Fault}
use Rattle.command_texts.specs.declared.fault.Fault.TheVariants.{NoTenant, NoAccount, Unavailable}
use Rattle.command_texts.specs.declared.fault.Fault.TheVariants.{Output}

-- what a tenant, if there is one, answers when it is asked for an account's statement
abbrev pub answer_in :
    Option Machine → ℕ → Order → Result (Seen (List StatementRow)) ReadFault
answer_in tenant account order = seen_in (λ m. statement_answer m account order) tenant

-- what is told of a tenant is so, and no tenant changes
pub record ReadsOf {S : Type 0} (t : LedgersMeaning S) (digest : List ℕ)
    (IsSo : Option Machine → Type 0) (old new : S) : Type 0 where
  pub told : t.is_live new → IsSo (t.tenants old digest)
  pub reads : ReadsOnly t old new

-- the fault that the program tells where a statement is not read, or not to its end
abbrev pub statement_fault : ReadFault → Fault
statement_fault read.UnknownKey = NoTenant
statement_fault read.NoAccount = NoAccount
statement_fault read.NoHistory = Unavailable
statement_fault (read.Unavailable why) = Unavailable
statement_fault (read.Sink why) = sink_fault why

-- a beginning of a statement is written, up to the end of a line
pub record HasBegunLines {O : Type 0} (written : O → Option (List ℕ)) (rows : List StatementRow)
    (old new : O) : Type 0 where
  pub count : ℕ
  pub lines : Appends (written old) (written new) (begun_text (take count rows))

-- the whole statement is written; or nothing, where the tenant or the account is not there; or a
-- beginning: whole lines before want of memory or a store that is unavailable, any before a failed
-- write
abbrev pub IsStatementTold :
    {O : Type 0} → (O → Option (List ℕ)) → Result (Seen (List StatementRow)) ReadFault → O → O
    → Result Unit Fault → Type 0
IsStatementTold written seen old new (Ok done) =
    (answer : Seen (List StatementRow)) × (seen ≡ Ok answer)
    × Appends (written old) (written new) (statement_text answer.shown)
IsStatementTold written seen old new (Err NoTenant) = (seen ≡ Err read.UnknownKey) × (new ≡ old)
IsStatementTold written seen old new (Err NoAccount) = (seen ≡ Err read.NoAccount) × (new ≡ old)
IsStatementTold written seen old new (Err Unavailable) =
    HasBegunLines written (rows_of seen) old new
IsStatementTold written seen old new (Err Output) =
    (answer : Seen (List StatementRow)) × (seen ≡ Ok answer)
    × AppendsFront (written old) (written new) (statement_text answer.shown)
IsStatementTold written seen old new (Err fault) = ⊥

-- what is told of a writer that is given back where all is written, and let go at a fault
abbrev pub IsGivenBack : {O : Type 0} → (O → Result Unit Fault → Type 0) → Result O Fault → Type 0
IsGivenBack told (Ok new) = told new (Ok tt)
IsGivenBack {O} told (Err fault) = (new : O) × told new (Err fault)
