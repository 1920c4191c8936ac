-- What an accepted transfer does to the fates of pending transfers.
use Rattle.std.specs.Prelude.{◌≡◌, ℕ, Bool, true, false, ◌==◌, is_some, All, Option, Some, None}
use Rattle.records.specs.declared.transfer.Transfer.{Transfer}
use Rattle.records.specs.declared.facts.PendingState.{PendingState}
use Rattle.records.specs.declared.facts.PendingState.TheVariants.{Open, Posted, Voided}
use Rattle.records.specs.declared.accepted.Accepted.{Accepted}
use Rattle.records.specs.declared.accepted.Ending.{Ending}
use Rattle.records.specs.declared.accepted.Ending.TheVariants as how
use Rattle.records.specs.Flags.{is_pending, is_post_or_void}
use Rattle.records.specs.Machine.{Machine, transfer_with}
use Rattle.records.specs.Fate.{fate_of}
use Rattle.records.specs.Valid.{IsValid, with_transfer}
use Rattle.records.specs.Accepted.{IsAccepted}

-- the pending transfer that an ending names
abbrev pub ended_id : Ending → ℕ
ended_id (how.Posted id) = id
ended_id (how.Voided id) = id

-- the state that it tells
abbrev pub told_state : Ending → PendingState
told_state (how.Posted id) = Posted
told_state (how.Voided id) = Voided

-- whether what is told ends the transfer with this id
abbrev pub is_told_ended : Option Ending → ℕ → Bool
is_told_ended None id = false
is_told_ended (Some ending) id = ended_id ending == id

-- the fate of a transfer beside the accepted one
abbrev pub fate_with : Machine → Accepted → Transfer → PendingState
fate_with m a t = fate_of (with_transfer m a.stored).transfers m.clock t

-- a pending transfer stands under the id that is told, open before, and in the state that is told
-- with the accepted transfer
pub record EndsOpenTransfer (m : Machine) (a : Accepted) (ending : Ending) : Type 0 where
  pub pending : Transfer
  pub found : transfer_with (ended_id ending) m.transfers ≡ Some pending
  pub is_pending : is_pending pending.flags ≡ true
  pub open_before : fate_of m.transfers m.clock pending ≡ Open
  pub told_after : fate_with m a pending ≡ told_state ending

-- a transfer's fate is the same with the accepted one, at any clock
abbrev pub KeepsFate : Machine → Accepted → Transfer → Type 0
KeepsFate m a t =
    (clock : ℕ) →
    fate_of (with_transfer m a.stored).transfers clock t ≡ fate_of m.transfers clock t

-- every pending transfer keeps its fate but the one that is told
abbrev pub OthersKeepFates : Machine → Accepted → Type 0
OthersKeepFates m a =
    All
    (λ t. is_pending t.flags ≡ true → is_told_ended a.ends t.id ≡ false → KeepsFate m a t)
    m.transfers

-- an ending is told of posts and voids alone, and is right; every other pending transfer keeps its
-- fate, and a new one is open
pub record TellsFates (m : Machine) (a : Accepted) : Type 0 where
  pub told : is_some a.ends ≡ is_post_or_void a.stored.flags
  pub ended : (ending : Ending) → a.ends ≡ Some ending → EndsOpenTransfer m a ending
  pub others : OthersKeepFates m a
  pub new : is_pending a.stored.flags ≡ true → fate_with m a a.stored ≡ Open

-- what is told of an accepted transfer of a valid machine tells the fates
abbrev pub EndingsAreTold : Type 0
EndingsAreTold = (m : Machine) (a : Accepted) → IsValid m → IsAccepted m a → TellsFates m a
