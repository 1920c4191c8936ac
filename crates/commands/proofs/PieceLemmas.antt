-- A piece of a statement, as an operator is told it.
use Rattle.std.proofs.Common.{◌≡◌, ℕ, List, Option, Some, None, Result, Ok, Err, refl, subst}
use Rattle.sqlite_disk.specs.declared.Disk as disk
use Rattle.sqlite_wal.specs.Recovery.{Image}
use Rattle.sqlite.specs.Effect.{Database}
use Rattle.records.specs.Machine.{Machine}
use Rattle.records.specs.declared.query.Span.{Span}
use Rattle.chain.specs.Ledgers.{KeepsAll}
use Rattle.chain.specs.declared.account_entry.AccountEntry.{AccountEntry}
use Rattle.chain.specs.declared.reads.Listed.{Listed}
use Rattle.chain.specs.declared.reads.ReadFault.{ReadFault}
use Rattle.chain.specs.declared.reads.ReadFault.TheVariants as fault
use Rattle.parts.specs.Pieces.{IsPieceOf}
use Rattle.stored_ledgers.specs.Directory.{digest_in}
use Rattle.store.specs.Stores.{IsLive, OfDatabase, OfDatabaseAt, tenants_at, tenants_of}
use Rattle.store.specs.declared.place.Place.{Place}
use Rattle.store.specs.declared.place.Place.TheVariants as at
use Rattle.store.specs.declared.store.Store.{Store}
use Rattle.command_texts.specs.declared.fault.Fault.{Fault}
use Rattle.commands.specs.Endings.{ending_told}
use Rattle.commands.specs.Holding.{ComesOf, IsFrom}
use Rattle.commands.specs.Pieces.{IsPieceTold, machine_named, piece_told}
use Rattle.commands.specs.declared.orders.Done.{Done}
use Rattle.commands.proofs.HeldLemmas.{of_then}
use Rattle.commands.proofs.PartLemmas.{read_ending}

-- what a tenant's machine tells
pub told_by :
    (account : ℕ) (span : Span) (tenant : Option Machine) (read : Result (Listed AccountEntry) ReadFault) →
    IsPieceOf account span tenant read → IsPieceTold account span tenant (piece_told read)
told_by account span tenant (Ok listed) told = told
told_by account span tenant (Err fault.UnknownKey) told = told
told_by account span tenant (Err fault.NoAccount) told = told
told_by account span tenant (Err fault.NoHistory) told = tt
told_by account span tenant (Err (fault.Unavailable why)) told = tt
told_by account span tenant (Err (fault.Sink why)) told = tt

-- how that ended
pub ended_so :
    (read : Result (Listed AccountEntry) ReadFault) → ending_told (piece_told read) ≡ read_ending read
ended_so (Ok listed) = refl
ended_so (Err fault.UnknownKey) = refl
ended_so (Err fault.NoAccount) = refl
ended_so (Err fault.NoHistory) = refl
ended_so (Err (fault.Unavailable why)) = refl
ended_so (Err (fault.Sink why)) = refl

module _ {D : Type 0} {g : disk.Ghosts D} where
  named_at :
      (P : Option Machine → Type 0) (name digest : List ℕ) (place : Place D g) →
      OfDatabaseAt (λ db. Some digest ≡ digest_in name db.trees) place →
      P (tenants_at place digest) → OfDatabaseAt (λ db. P (machine_named name db.trees)) place
  named_at P name digest (at.Open conn) is holds =
      subst (λ (known : Option (List ℕ)). P (tenant_of_digest known)) is holds
    where
      tenant_of_digest : Option (List ℕ) → Option Machine
      tenant_of_digest None = None
      tenant_of_digest (Some known) = tenants_at (at.Open conn) known
  named_at P name digest (at.Shut files) is holds = is

  -- what holds of the machine of a digest, behind a call that only reads, holds of that of its name
  pub so_by_name :
      (P : Option Machine → Type 0) (name digest : List ℕ) (known : Option (List ℕ))
      (old mid : Store D g) → known ≡ Some digest → KeepsAll (tenants_of old) (tenants_of mid) →
      OfDatabase (λ db. known ≡ digest_in name db.trees) old → P (tenants_of mid digest) →
      OfDatabase (λ db. P (machine_named name db.trees)) old
  so_by_name P name digest known old mid there keeps is holds =
      named_at P name digest old.place
      (subst
      (λ (found : Option (List ℕ)). OfDatabase (λ db. found ≡ digest_in name db.trees) old) there is)
      (subst P (keeps digest) holds)

  -- so does what it tells
  pub told_by_name :
      (account : ℕ) (span : Span) (name digest : List ℕ) (known : Option (List ℕ))
      (old mid : Store D g) (result : Result Done Fault) → known ≡ Some digest →
      KeepsAll (tenants_of old) (tenants_of mid) →
      OfDatabase (λ db. known ≡ digest_in name db.trees) old →
      IsPieceTold account span (tenants_of mid digest) result →
      OfDatabase (λ db. IsPieceTold account span (machine_named name db.trees) result) old
  told_by_name account span name digest known old mid result =
      so_by_name (λ (tenant : Option Machine). IsPieceTold account span tenant result) name digest
      known old mid

  -- what is made of the machine of a digest, behind a call that only reads, is made of that of its
  -- name in the ledger that was opened
  pub comes_by_name :
      (P : Option Machine → Type 0) (image : Image) (name digest : List ℕ) (known : Option (List ℕ))
      (first mid last : Store D g) → IsFrom image first → known ≡ Some digest →
      (IsLive mid → IsLive first) → (IsLive mid → KeepsAll (tenants_of first) (tenants_of mid)) →
      (IsLive mid → OfDatabase (λ db. known ≡ digest_in name db.trees) first) →
      (IsLive last → IsLive mid) → (IsLive last → P (tenants_of mid digest)) →
      ComesOf (IsFrom image) (λ old new. P (machine_named name old.trees)) last
  comes_by_name P image name digest known first mid last from there lived keeps is lives holds = record {
    first = first;
    begun = from;
    lived = λ live. lived (lives live);
    is = λ live.
        of_then (λ (db : Database). P (machine_named name db.trees)) first last live
        (so_by_name P name digest known first mid there (keeps (lives live)) (is (lives live))
        (holds live));
  }
