-- What is told of an accepted transfer beside its record: the balances with it, and what it ends.
use Rattle.std.specs.Prelude.{◌≡◌, Option, Some, None, if◌then◌else◌}
use Rattle.records.specs.declared.transfer.Transfer.{Transfer}
use Rattle.records.specs.declared.accepted.Ending.{Ending}
use Rattle.records.specs.declared.accepted.Ending.TheVariants.{Posted, Voided}
use Rattle.records.specs.declared.accepted.Accepted.{Accepted}
use Rattle.records.specs.Flags.{is_post, is_void}
use Rattle.records.specs.Machine.{Machine}
use Rattle.records.specs.Balances.{balances_in}
use Rattle.records.specs.Valid.{IsNextTransfer, with_transfer}

-- how an entry ends the pending transfer that it names, if it is a post or void
abbrev pub ending_of : Transfer → Option Ending
ending_of entry =
    if is_post entry.flags then Some (Posted entry.pending_id)
    else if is_void entry.flags then Some (Voided entry.pending_id)
    else None

-- the machine's next transfer, its accounts' balances in the machine that has it, and its ending
pub record IsAccepted (m : Machine) (a : Accepted) : Type 0 where
  pub next : IsNextTransfer m a.stored
  pub debit_after :
      a.debit_after ≡ balances_in (with_transfer m a.stored) a.stored.debit_account_id
  pub credit_after :
      a.credit_after ≡ balances_in (with_transfer m a.stored) a.stored.credit_account_id
  pub ends : a.ends ≡ ending_of a.stored
