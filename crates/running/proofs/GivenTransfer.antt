-- What the decision on the event that would be sent to make a transfer says of it.
use Rattle.std.proofs.Common.{◌≡◌, Some, sym, ap, ap₂, ◌∙◌}
use Rattle.std.proofs.lemmas.Option.{none-some}
use Rattle.records.specs.declared.accepted.Accepted.{Accepted}
use Rattle.records.specs.declared.transfer.Transfer.{Transfer}
use Rattle.records.specs.declared.transfer.TransferEvent.{TransferEvent}
use Rattle.records.specs.declared.transfer_result.TransferResult.{TransferResult}
use Rattle.records.specs.declared.facts.TransferFacts.{TransferFacts}
use Rattle.records.specs.Machine.{Machine}
use Rattle.records.specs.Facts.{facts_of}
use Rattle.records.specs.TransferVerdict.{transfer_verdict}
use Rattle.records.specs.StoredRecord.{stored_transfer}
use Rattle.records.specs.Step.{transfer_verdict_in}
use Rattle.records.specs.Valid.{IsNextTransfer, event_of_transfer}

pub refuses : (m : Machine) (t : Transfer) (f : TransferFacts) (ev : TransferEvent) (result : TransferResult) → f ≡ facts_of m ev → ev ≡ event_of_transfer t → IsNextTransfer m t → transfer_verdict f ev ≡ Some result → ⊥
unfolding transfer_verdict_in
refuses m t f ev result facts event next verdict =
    let own = event_of_transfer t in
    let same : f ≡ facts_of m own = facts ∙ ap (facts_of m) event in
    none-some result (sym next.accepted ∙ sym (ap₂ transfer_verdict same event) ∙ verdict)

pub gives : (m : Machine) (t : Transfer) (f : TransferFacts) (ev : TransferEvent) (a : Accepted) → f ≡ facts_of m ev → ev ≡ event_of_transfer t → IsNextTransfer m t → a.stored ≡ stored_transfer f ev t.timestamp t.at → a.stored ≡ t
gives m t f ev a facts event next stored =
    let own = event_of_transfer t in
    let same : f ≡ facts_of m own = facts ∙ ap (facts_of m) event in
    stored ∙ ap₂ (λ (g : TransferFacts) (e : TransferEvent). stored_transfer g e t.timestamp t.at) same event ∙ next.stored
