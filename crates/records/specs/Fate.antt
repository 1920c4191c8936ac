-- What has become of a pending transfer.
use Rattle.std.specs.Prelude.{ℕ, Bool, true, false, List, ◌==◌, ◌&&◌, if◌then◌else◌}
use Rattle.std.specs.List.{list_any}
use Rattle.records.specs.declared.transfer.Transfer.{Transfer}
use Rattle.records.specs.declared.facts.PendingState.{PendingState}
use Rattle.records.specs.declared.facts.PendingState.TheVariants.{Open, Posted, Voided, Expired}
use Rattle.records.specs.Flags.{is_post, is_void}
use Rattle.records.specs.Due.{is_due}

-- whether an entry posts the transfer with this id
abbrev pub posts : ℕ → Transfer → Bool
posts id entry = is_post entry.flags && (entry.pending_id == id)

-- whether it voids it
abbrev pub voids : ℕ → Transfer → Bool
voids id entry = is_void entry.flags && (entry.pending_id == id)

-- posted or voided if some entry of the list does so; else expired once it is due; else open
abbrev pub fate_of : List Transfer → ℕ → Transfer → PendingState
fate_of entries clock transfer =
    if list_any (posts transfer.id) entries then Posted
    else if list_any (voids transfer.id) entries then Voided
    else if is_due clock transfer then Expired
    else Open

-- whether it was neither posted nor voided nor has expired
abbrev pub is_open : PendingState → Bool
is_open Open = true
is_open Posted = false
is_open Voided = false
is_open Expired = false
