-- What tables tell of a hold.
use Rattle.std.proofs.Common.{◌≡◌, ◌≤◌, ℕ, Option, Some, sym, ap, ◌∙◌}
use Rattle.std.specs.Option.{option_map, option_and_then}
use Rattle.records.specs.declared.facts.PendingState.{PendingState}
use Rattle.records.specs.declared.transfer.Transfer.{Transfer}
use Rattle.records.specs.Due.{due_of}
use Rattle.records.specs.Facts.{state_in}
use Rattle.records.specs.Machine.{Machine, transfer_with}
use Rattle.records.specs.Queries.{hold_of, hold_with, shown_due}
use Rattle.records.specs.Step.{max_clock}
use Rattle.records.specs.Valid.{IsValid}
use Rattle.chain.specs.Tables.{pending_state_of}
use Rattle.chain.specs.Pages.{IsRecord}
use Rattle.chain.specs.Records.{transfer_records}
use Rattle.engine.proofs.ValidMachineLemmas.{found_all}

-- an entry of a valid machine is not later than the latest clock
in_time :
    (m : Machine) (transfer : Transfer) → IsValid m →
    transfer_with transfer.id m.transfers ≡ Some transfer → transfer.timestamp ≤ max_clock
in_time m transfer valid found =
    let is : IsRecord (λ (t : Transfer). t.timestamp) (λ t. transfer_with t.id m.transfers ≡ Some t) transfer =
    found_all (IsRecord (λ (t : Transfer). t.timestamp) (λ t. transfer_with t.id m.transfers ≡ Some t))
    (λ (t : Transfer). t.id) transfer.id m.transfers transfer (transfer_records m valid).each found in
    is.bounded

-- the state by id is that of the entry itself
pub state_is :
    (m : Machine) (transfer : Transfer) → transfer_with transfer.id m.transfers ≡ Some transfer →
    pending_state_of m transfer.id ≡ state_in m transfer
state_is m transfer found = ap (option_and_then (state_in m)) found

pub hold_is :
    (m : Machine) (transfer : Transfer) (told : Option PendingState) (state : PendingState) (due : ℕ) →
    IsValid m → transfer_with transfer.id m.transfers ≡ Some transfer →
    told ≡ pending_state_of m transfer.id → told ≡ Some state →
    (transfer.timestamp ≤ max_clock → due ≡ shown_due (due_of transfer)) →
    Some (record { id = transfer.id; timestamp = transfer.timestamp; due = due; state = state })
    ≡ hold_of m transfer
hold_is m transfer told state due valid found is some due_is =
    let state_so = sym some ∙ is ∙ state_is m transfer found in
    ap (λ d. Some (record { id = transfer.id; timestamp = transfer.timestamp; due = d; state = state }))
    (due_is (in_time m transfer valid found))
    ∙ ap (option_map (hold_with transfer)) state_so
