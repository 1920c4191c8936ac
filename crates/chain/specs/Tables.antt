-- What the tables of one tenant mean inside an open batch, and what a call on them leaves.
use Rattle.std.specs.Prelude.{◌≡◌, ◌⊎◌, ℕ, Bool, true, false, Option, Some, None, Result, IfOk, OnOk}
use Rattle.std.specs.Prelude.{OnErr}
use Rattle.std.specs.Option.{option_and_then}
use Rattle.records.specs.declared.facts.PendingState.{PendingState}
use Rattle.records.specs.declared.unavailable.Unavailable.{Unavailable}
use Rattle.records.specs.Facts.{state_in}
use Rattle.records.specs.Machine.{Machine, transfer_with, has_id}
use Rattle.records.specs.Valid.{IsNextFailed}

-- the machine now, at the beginning of the batch, and at the mark, if one is open
pub record State : Type 0 where
  pub now : Machine
  pub begun : Machine
  pub marked : Option Machine

-- at the beginning of a batch: no mark is open
pub record IsFresh (s : State) : Type 0 where
  pub unmarked : s.marked ≡ None

-- the state where the machine now has changed by this
abbrev pub on_now : (Machine → Machine) → State → State
on_now change s = record s { now = change s.now }

-- the state with a mark at the machine now
abbrev pub marking : State → State
marking s = record s { marked = Some s.now }

-- the state without a mark
abbrev pub unmarked : State → State
unmarked s = record s { marked = None }

-- the machine at the mark, or this one where none is open
abbrev pub marked_or : Machine → Option Machine → Machine
marked_or m None = m
marked_or m (Some marked) = marked

-- the state at the mark, which is closed
abbrev pub at_mark : State → State
at_mark s = record s { now = marked_or s.now s.marked; marked = None }

-- the state without the mark, which keeps the machine now or goes back
abbrev pub closing : Bool → State → State
closing true = unmarked
closing false = at_mark

-- the very state
abbrev pub same : State → State
same s = s

-- what tables mean: their state, whether calls are allowed, whether they are live, and what every
-- run of calls keeps
pub record Meaning (S : Type 0) : Type 1 where
  pub state : S → State
  pub is_usable : S → Type 0
  pub is_live : S → Type 0
  pub follows : S → S → Type 0

-- what a look-up answers, by the machine before it, where the tables are live after it
abbrev pub Tells :
    {S X : Type 0} → Meaning S → S → S → Result X Unavailable → (Machine → X) → Type 0
Tells t old new result value = t.is_live new → IfOk result (λ x. x ≡ value (t.state old).now)

-- what a call leaves: after Ok the old state with this change, and calls are allowed; after Err the
-- machine of the beginning
pub record Leaves {S X : Type 0} (t : Meaning S) (old new : S) (result : Result X Unavailable)
    (change : State → State) : Type 0 where
  pub state : t.is_live new → OnOk result (t.state new ≡ change (t.state old))
  pub usable : OnOk result (t.is_usable new)
  pub undone : t.is_live new → OnErr result ((t.state new).now ≡ (t.state old).begun)
  pub follows : t.follows old new

-- a look-up: where the tables are live this is so of the machine and of what is found, and nothing
-- changes
pub record LooksUp {S X : Type 0} (t : Meaning S) (IsSo : Machine → X → Type 0) (old new : S)
    (result : Result X Unavailable) : Type 0 where
  pub value : t.is_live new → IfOk result (IsSo (t.state old).now)
  pub leaves : Leaves t old new result same

-- what a run of a whole batch leaves: as a call, but after Err it may also be the machine before
-- it, which is the same one where nothing came since the beginning
pub record LeavesRun {S X : Type 0} (t : Meaning S) (old new : S) (result : Result X Unavailable)
    (change : State → State) : Type 0 where
  pub state : t.is_live new → OnOk result (t.state new ≡ change (t.state old))
  pub usable : OnOk result (t.is_usable new)
  pub undone :
      t.is_live new →
      OnErr result
      (((t.state new).now ≡ (t.state old).begun) ⊎ ((t.state new).now ≡ (t.state old).now))
  pub follows : t.follows old new

-- what has become of the transfer with this id, if it is a pending one
abbrev pub pending_state_of : Machine → ℕ → Option PendingState
pending_state_of m id = option_and_then (state_in m) (transfer_with id m.transfers)

-- an id that fails for good, and has not done so before
pub record FailsNow (m : Machine) (id : ℕ) : Type 0 where
  pub next : IsNextFailed m id
  pub unrecorded : has_id id m.failed ≡ false
