-- A tenant's entries, judged one after the other from nothing.
use Rattle.std.specs.Prelude.{◌≡◌, ℕ, ◌<◌, ◌≤◌, max, List, [], ◌∷◌, ◌++◌, map, take, length, slice_get, IfSome, IsPermutation}
use Rattle.std.specs.Ordering.{nat_cmp}
use Rattle.std.specs.List.Sorted.{IsSortedByKey}
use Rattle.records.specs.Machine.{Machine, new_machine}
use Rattle.records.specs.Step.{at_clock, max_clock}
use Rattle.records.specs.Valid.{IsValid, IsNextAccount, IsNextTransfer, with_account, with_transfer}
use Rattle.records.specs.EntryByEntry.{AreFailedApart}
use Rattle.running.specs.declared.entry.Entry.{Entry}
use Rattle.running.specs.declared.entry.Entry.TheVariants.{Opened, Moved}

-- when an entry came
abbrev pub time_of : Entry → ℕ
time_of (Opened account) = account.timestamp
time_of (Moved transfer) = transfer.timestamp

-- an entry that the machine accepts at its clock
abbrev pub IsNextStored : Machine → Entry → Type 0
IsNextStored m (Opened account) = IsNextAccount m account
IsNextStored m (Moved transfer) = IsNextTransfer m transfer

-- the machine with it
abbrev pub with_stored : Machine → Entry → Machine
with_stored m (Opened account) = with_account m account
with_stored m (Moved transfer) = with_transfer m transfer

-- the clock at which an entry came: a transfer tells it; for an account, which is judged alike at
-- every clock, the least that can be
abbrev pub clock_for : Machine → Entry → ℕ
clock_for m (Opened account) = max m.clock account.timestamp
clock_for m (Moved transfer) = transfer.at

-- a clock that the machine can come to
pub record CanCome (m : Machine) (clock : ℕ) : Type 0 where
  pub later : m.clock ≤ clock
  pub bounded : clock ≤ max_clock

-- an entry that the machine accepts once it has come to the entry's clock
pub record IsNext (m : Machine) (entry : Entry) : Type 0 where
  pub clock : CanCome m (clock_for m entry)
  pub accepted : IsNextStored (at_clock m (clock_for m entry)) entry

-- the machine with it
abbrev pub with_entry : Machine → Entry → Machine
with_entry m entry = with_stored (at_clock m (clock_for m entry)) entry

-- the machine with all of them
abbrev pub after : Machine → List Entry → Machine
after m [] = m
after m (entry ∷ entries) = after (with_entry m entry) entries

-- the machine of a new tenant with all of them
abbrev pub machine_of : List Entry → Machine
machine_of entries = after new_machine entries

-- each is accepted behind those before it
abbrev pub AreNext : Machine → List Entry → Type 0
AreNext m [] = Unit {0}
AreNext m (entry ∷ entries) = IsNext m entry × AreNext (with_entry m entry) entries

-- the first that is not
pub record IsFirstRefused (m : Machine) (entries : List Entry) (place : ℕ) : Type 0 where
  pub within : place < length entries
  pub before : AreNext m (take place entries)
  pub refused :
      IfSome (slice_get entries place) (λ entry. IsNext (after m (take place entries)) entry → ⊥)

-- all accounts and transfers of a machine, in order of time
pub record AreEntriesOf (entries : List Entry) (m : Machine) : Type 0 where
  pub in_order : IsSortedByKey time_of nat_cmp entries
  pub all : IsPermutation (map Opened m.accounts ++ map Moved m.transfers) entries

-- they lead to the machine, but for a later clock and for failed ids, of which they tell nothing
pub record Replays (entries : List Entry) (m : Machine) : Type 0 where
  pub next : AreNext new_machine entries
  pub no_later : (machine_of entries).clock ≤ m.clock
  pub same : at_clock (machine_of entries) m.clock ≡ record m { failed = [] }

-- every list of accepted entries leads to a valid machine, at every clock that it can come to
abbrev pub ReplayedIsValid : Type 0
ReplayedIsValid =
    (entries : List Entry) (clock : ℕ) →
    AreNext new_machine entries → CanCome (machine_of entries) clock →
    IsValid (at_clock (machine_of entries) clock)

-- the entries of every valid machine are accepted, and lead to it
abbrev pub ValidReplays : Type 0
ValidReplays =
    (m : Machine) (entries : List Entry) →
    IsValid m → AreEntriesOf entries m → Replays entries m

-- failed ids stand apart from the entries: a valid machine is so with any that ascend and are no
-- transfer's
abbrev pub FailedIdsStandApart : Type 0
FailedIdsStandApart =
    (m : Machine) (ids : List ℕ) →
    IsValid m → AreFailedApart (record m { failed = ids }) → IsValid (record m { failed = ids })
