-- Pieces of an account's statement.
use Rattle.std.specs.Prelude.{◌≡◌, ◌≢◌, ℕ, Option, Some, None, Result, Ok, Err}
use Rattle.records.specs.Facts.{account_in}
use Rattle.records.specs.Machine.{Machine}
use Rattle.records.specs.declared.query.Span.{Span}
use Rattle.chain.specs.AccountEntries.{account_entries_within}
use Rattle.chain.specs.declared.account_entry.AccountEntry.{AccountEntry}
use Rattle.chain.specs.declared.ledgers.BatchFault.{BatchFault}
use Rattle.chain.specs.declared.ledgers.BatchFault.TheVariants as batch_fault
use Rattle.chain.specs.declared.reads.Listed.{Listed}
use Rattle.chain.specs.declared.reads.ReadFault.{ReadFault}
use Rattle.chain.specs.declared.reads.ReadFault.TheVariants as fault

-- the account's entries in the span, and the machine's clock
pub record IsPiece (account : ℕ) (span : Span) (m : Machine) (listed : Listed AccountEntry)
    : Type 0 where
  pub there : account_in m account ≢ None
  pub clock : listed.clock ≡ m.clock
  pub entries : listed.entries.items ≡ account_entries_within m account span

-- what a machine answers: a piece, or that there is no such account
abbrev pub IsAnswer : ℕ → Span → Machine → Option (Listed AccountEntry) → Type 0
IsAnswer account span m (Some listed) = IsPiece account span m listed
IsAnswer account span m None = account_in m account ≡ None

-- the machine answers, and stays as it is
abbrev pub GivesPiece :
    ℕ → Span → Machine → Option (Listed AccountEntry) → Machine → Type 0
GivesPiece account span before answer after = (after ≡ before) × IsAnswer account span before answer

-- what is told of a batch that reads a piece
abbrev pub piece_told :
    Result (Option (Listed AccountEntry)) BatchFault → Result (Listed AccountEntry) ReadFault
piece_told (Ok (Some listed)) = Ok listed
piece_told (Ok None) = Err fault.NoAccount
piece_told (Err batch_fault.UnknownKey) = Err fault.UnknownKey
piece_told (Err (batch_fault.Unavailable why)) = Err (fault.Unavailable why)

-- a tenant's machine, if there is one, that lacks the account
abbrev pub LacksAccount : ℕ → Option Machine → Type 0
LacksAccount account tenant = (m : Machine) × (tenant ≡ Some m) × (account_in m account ≡ None)

-- what a tenant's machine, if there is one, tells when it is asked for a piece
abbrev pub IsPieceOf :
    ℕ → Span → Option Machine → Result (Listed AccountEntry) ReadFault → Type 0
IsPieceOf account span tenant (Ok listed) =
    (m : Machine) × (tenant ≡ Some m) × IsPiece account span m listed
IsPieceOf account span tenant (Err fault.UnknownKey) = tenant ≡ None
IsPieceOf account span tenant (Err fault.NoAccount) = LacksAccount account tenant
IsPieceOf account span tenant (Err (fault.Unavailable why)) = Unit {0}
IsPieceOf account span tenant (Err fault.NoHistory) = ⊥
IsPieceOf account span tenant (Err (fault.Sink why)) = ⊥
