-- Pieces of an account's statement, as an operator asks for them.
use Rattle.std.specs.Prelude.{◌≡◌, ◌≢◌, ◌⊎◌, ℕ, List, Option, Some, None, Result, Ok, Err}
use Rattle.std.specs.Prelude.{option_and_then}
use Rattle.sqlite_disk.specs.declared.Disk as disk
use Rattle.sqlite_trees.specs.Tree.{Trees}
use Rattle.records.specs.Machine.{Machine}
use Rattle.records.specs.declared.query.Span.{Span}
use Rattle.wire.specs.declared.read.Read.TheVariants as read
use Rattle.wire.specs.declared.request.Request.TheVariants as asks
use Rattle.chain.specs.Backends.{in_use}
use Rattle.chain.specs.declared.account_entry.AccountEntry.{AccountEntry}
use Rattle.chain.specs.declared.reads.Listed.{Listed}
use Rattle.chain.specs.declared.reads.ReadFault.{ReadFault}
use Rattle.chain.specs.declared.reads.ReadFault.TheVariants as fault
use Rattle.parts.specs.Pieces.{IsPiece, LacksAccount}
use Rattle.parts.specs.declared.rest.Rest.{Rest}
use Rattle.service.specs.Courses.{Ending, Tried}
use Rattle.service.specs.Deeds.{Deed, Asked}
use Rattle.commands.specs.Endings.{ending_told}
use Rattle.service.specs.Openings.{run_meaning, Moves}
use Rattle.polling.specs.Courses.{IsAtRest}
use Rattle.stored_ledgers.specs.Directory.{digest_in, tenants_in}
use Rattle.store.specs.StoreLaws.{store_meaning}
use Rattle.store.specs.declared.store.Store.{Store}
use Rattle.command_texts.specs.declared.fault.Fault.{Fault}
use Rattle.command_texts.specs.declared.fault.Fault.TheVariants.{NoTenant, NoAccount, Unavailable}
use Rattle.commands.specs.declared.orders.Done.{Done}
use Rattle.commands.specs.declared.orders.Done.TheVariants.{Read}

-- what is told of a piece that was read
abbrev pub piece_told : Result (Listed AccountEntry) ReadFault → Result Done Fault
piece_told (Ok listed) = Ok (Read listed)
piece_told (Err fault.UnknownKey) = Err NoTenant
piece_told (Err fault.NoAccount) = Err NoAccount
piece_told (Err fault.NoHistory) = Err Unavailable
piece_told (Err (fault.Unavailable why)) = Err Unavailable
piece_told (Err (fault.Sink why)) = Err Unavailable

-- what a tenant's machine, if there is one, tells when it is asked for a piece
abbrev pub IsPieceTold : ℕ → Span → Option Machine → Result Done Fault → Type 0
IsPieceTold account span tenant (Ok (Read listed)) =
    (m : Machine) × (tenant ≡ Some m) × IsPiece account span m listed
IsPieceTold account span tenant (Ok done) = ⊥
IsPieceTold account span tenant (Err NoTenant) = tenant ≡ None
IsPieceTold account span tenant (Err NoAccount) = LacksAccount account tenant
IsPieceTold account span tenant (Err Unavailable) = Unit {0}
IsPieceTold account span tenant (Err fault) = ⊥

-- the machine of the tenant with this name, if there is one
abbrev pub machine_named : List ℕ → Trees → Option Machine
machine_named name trees = option_and_then (tenants_in trees) (digest_in name trees)

-- the tenant's own question for the statement: reading a piece for an operator changes as little
abbrev pub asked_for : List ℕ → ℕ → Deed
asked_for digest account = Asked digest (Ok (asks.Read (read.Statement account))) 0

module _ {D : Type 0} {g : disk.Ghosts D} where
  -- a piece is read for an operator: nothing is as it was not for any tenant
  abbrev pub IsReadForOperator : ℕ → Store D g → Result Done Fault → Store D g → Type 0
  IsReadForOperator account old result new =
      IsAtRest (run_meaning (in_use store_meaning)) old new
      ⊎ ((digest : List ℕ)
      × Moves (run_meaning (in_use store_meaning)) old
      (Tried (asked_for digest account) (ending_told result)) new)

  -- the next part of a statement was read, as its tenant's own question for it
  abbrev pub IsTried : Rest → Store D g → Store D g → Type 0
  IsTried rest old new =
      (ending : Ending)
      × Moves (run_meaning (in_use store_meaning)) old
      (Tried (asked_for rest.digest rest.account) ending) new
