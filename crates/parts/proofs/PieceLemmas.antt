-- Reading a piece of a statement.
use Rattle.std.specs.Result.{IsErrAnd}
use Rattle.std.proofs.Common.{◌≡◌, ℕ, List, Option, Some, None, Result, Ok, Err, ap, sym, subst}
use Rattle.records.specs.declared.query.Span.{Span}
use Rattle.chain.specs.LedgerReads.{IsTold, ReadsTenant}
use Rattle.chain.specs.Ledgers.{Tenants, LedgersMeaning, IsAnswered, IsRun}
use Rattle.chain.specs.declared.account_entry.AccountEntry.{AccountEntry}
use Rattle.chain.specs.declared.ledgers.BatchFault.{BatchFault}
use Rattle.chain.specs.declared.ledgers.BatchFault.TheVariants as batch_fault
use Rattle.chain.specs.declared.reads.Listed.{Listed}
use Rattle.chain.specs.declared.reads.ReadFault.{ReadFault}
use Rattle.chain.specs.declared.reads.ReadFault.TheVariants as fault
use Rattle.parts.specs.Parts.{IsPartTold}
use Rattle.parts.specs.Pieces.{GivesPiece, IsPieceOf, piece_told}
use Rattle.parts.specs.declared.rest.Part.{Part}
use Rattle.parts.specs.declared.rest.Rest.{Rest}

-- what a tenant's machine tells
pub told_by :
    (account : ℕ) (span : Span) (digest : List ℕ) (old new : Tenants)
    (read : Result (Option (Listed AccountEntry)) BatchFault) →
    IsRun (GivesPiece account span) digest old new read →
    IsPieceOf account span (old digest) (piece_told read)
told_by account span digest old new (Ok (Some listed)) run = (run.before, run.held, run.given.1)
told_by account span digest old new (Ok None) run = (run.before, run.held, run.given.1)
told_by account span digest old new (Err batch_fault.UnknownKey) run = run.0
told_by account span digest old new (Err (batch_fault.Unavailable why)) run = tt

-- where that is told, the batch was answered
pub answered :
    (read : Result (Option (Listed AccountEntry)) BatchFault)
    (result : Result (Listed AccountEntry) ReadFault) → result ≡ piece_told read →
    IsTold result → IsAnswered read
answered read result is told =
    at read (subst (λ (r : Result (Listed AccountEntry) ReadFault). IsTold r) is told)
  where
    at : (r : Result (Option (Listed AccountEntry)) BatchFault) → IsTold (piece_told r) → IsAnswered r
    at (Ok answer) h = tt
    at (Err batch_fault.UnknownKey) h = tt
    at (Err (batch_fault.Unavailable why)) h = absurd h

abbrev refused : (X : Type 0) → ReadFault → Result X ReadFault
refused X why = Err why

same_fault : {X : Type 0} (why other : ReadFault) → refused X why ≡ refused X other → refused Part why ≡ refused Part other
same_fault why other is = let same : why ≡ other = cc in ap (refused Part) same

-- a piece that is refused, as a part
module _ {S : Type 0} (t : LedgersMeaning S) (digest before : List ℕ) (rest : Rest) (span : Span) (old new : S) where
  refused_as :
      (why : ReadFault) → ReadsTenant t digest (IsPieceOf rest.account span) old new (Err why) →
      ReadsTenant t digest (λ tenant. IsPartTold before tenant rest) old new (Err why)
  refused_as fault.UnknownKey read =
      record { told = read.told; failed = λ has. same_fault _ _ (read.failed has); finds = read.finds; reads = read.reads }
  refused_as (fault.Unavailable why) read =
      record { told = read.told; failed = λ has. same_fault _ _ (read.failed has); finds = read.finds; reads = read.reads }
  refused_as fault.NoAccount read =
      record { told = read.told; failed = λ has. same_fault _ _ (read.failed has); finds = read.finds; reads = read.reads }
  refused_as fault.NoHistory read =
      record { told = read.told; failed = λ has. same_fault _ _ (read.failed has); finds = read.finds; reads = read.reads }
  refused_as (fault.Sink why) read =
      record { told = read.told; failed = λ has. same_fault _ _ (read.failed has); finds = read.finds; reads = read.reads }

  pub part_refused :
      (result : Result Part ReadFault) (why : ReadFault) → IsErrAnd result (λ fault. fault ≡ why) →
      ReadsTenant t digest (IsPieceOf rest.account span) old new (Err why) →
      ReadsTenant t digest (λ tenant. IsPartTold before tenant rest) old new result
  part_refused (Ok part) why is read = absurd is
  part_refused (Err f) why is read =
      subst (λ (f : ReadFault). ReadsTenant t digest (λ tenant. IsPartTold before tenant rest) old new (Err f))
      (sym is) (refused_as why read)
