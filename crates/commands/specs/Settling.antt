-- Settling a tenant to a moment: the batch of no transfers that it might have sent itself.
use Rattle.std.specs.Prelude.{◌≡◌, ◌⊎◌, ◌≤◌, ℕ, List, [], Option, Some, None, Result, Ok, Err}
use Rattle.sqlite_disk.specs.declared.Disk as disk
use Rattle.records.specs.Machine.{Machine}
use Rattle.records.specs.Step.{step_machine, transfer_rules}
use Rattle.wire.specs.declared.request.Request.TheVariants as asks
use Rattle.chain.specs.Backends.{in_use}
use Rattle.chain.specs.declared.ledgers.BatchFault.{BatchFault}
use Rattle.chain.specs.declared.ledgers.BatchFault.TheVariants as batch_fault
use Rattle.polling.specs.Courses.{IsAtRest}
use Rattle.service.specs.Courses.{Ending, Done, Declined, Tried}
use Rattle.service.specs.Courses.{Unavailable as WasUnavailable}
use Rattle.service.specs.Deeds.{Deed, Asked}
use Rattle.service.specs.Openings.{run_meaning, Moves}
use Rattle.stored_ledgers.specs.Overdue.{FindsOverdue, piece_of}
use Rattle.stored_ledgers.specs.declared.due_search.Search.{Search}
use Rattle.stored_ledgers.specs.declared.overdue.Overdue.{Overdue}
use Rattle.store.specs.Overdue.{FindsNoneListed}
use Rattle.store.specs.StoreLaws.{store_meaning}
use Rattle.store.specs.declared.store.Store.{Store}
use Rattle.commands.specs.Behind.{NotesPiece, search_behind}
use Rattle.commands.specs.declared.settling.Settler.{Settler}

-- the tenant's own batch of no transfers, at the moment
abbrev pub settling : List ℕ → ℕ → Deed
settling digest moment = Asked digest (Ok (asks.Transfers [])) moment

-- the machine after it, whose reply nobody hears
abbrev pub GivesSettled : ℕ → Machine → Unit {0} → Machine → Type 0
GivesSettled moment before unheard after = after ≡ step_machine transfer_rules before [] moment

-- how such a batch has ended
abbrev pub batch_ending : {T : Type 0} → Result T BatchFault → Ending
batch_ending (Ok output) = Done
batch_ending (Err batch_fault.UnknownKey) = Declined
batch_ending (Err (batch_fault.Unavailable why)) = WasUnavailable

module _ {D : Type 0} {g : disk.Ghosts D} where
  -- nothing has changed for any tenant, or one was settled to a time that is no later than the
  -- moment
  abbrev pub SettlesBy : ℕ → Store D g → Store D g → Type 0
  SettlesBy moment old new =
      IsAtRest (run_meaning (in_use store_meaning)) old new
      ⊎ ((digest : List ℕ) × (until : ℕ) × (until ≤ moment) × (ending : Ending)
      × Moves (run_meaning (in_use store_meaning)) old (Tried (settling digest until) ending) new)

  -- a search that goes on at a moment found none that is overdue, but for a number that no tenant
  -- has; or it found one, whose tenant was settled to the time that it told
  abbrev pub HasSettled :
      ℕ → Search → Search → Store D g → Store D g → Result (Option Overdue) BatchFault → Type 0
  HasSettled moment search searched old new (Ok None) =
      FindsNoneListed moment search searched old new
  HasSettled moment search searched old new (Ok (Some overdue)) =
      FindsOverdue old.due moment search searched overdue.number (piece_of overdue)
      × Moves (run_meaning (in_use store_meaning)) old
      (Tried (settling overdue.digest overdue.until) Done) new
  HasSettled moment search searched old new (Err why) = Unit {0}

  -- a piece of settling at a moment: what a search told was done, and is noted
  pub record SettlesPiece (moment : ℕ) (settler settler' : Settler) (old new : Store D g)
      : Type 0 where
    pub by : SettlesBy moment old new
    pub searched : Search
    pub told : Result (Option Overdue) BatchFault
    pub has : HasSettled moment settler.search searched old new told
    pub goes_on : settler'.search ≡ search_behind told searched
    pub notes : NotesPiece told settler'.search settler.behind settler'.behind

  -- so it is at the moment that was given for it
  pub record SettlesNow {C : Type 0} (gives : C → ℕ → C → Type 0) (moments moments_now : C)
      (settler settler' : Settler) (old new : Store D g) : Type 0 where
    pub moment : ℕ
    pub given : gives moments moment moments_now
    pub piece : SettlesPiece moment settler settler' old new
