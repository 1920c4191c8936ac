-- The due times that are kept in memory beside the tables.
use Rattle.std.specs.Prelude.{◌≡◌, ◌≤◌, ℕ, Bool, Some, All, IfSome, IsTrue}
use Rattle.records.specs.declared.facts.PendingState.TheVariants.{Open}
use Rattle.records.specs.declared.transfer.Transfer.{Transfer}
use Rattle.records.specs.Due.{due_of}
use Rattle.records.specs.Machine.{Machine}
use Rattle.rows.specs.declared.status_row.StatusRow.{StatusRow}
use Rattle.rows.specs.Prescribed.{rows_for}
use Rattle.chain.specs.Tables.{State}

-- a set of due times and ids
abbrev pub DueTest : Type 0
DueTest = ℕ × ℕ → Bool

-- where the transfer is open and has a due time, the set has both
abbrev pub IsCovered : DueTest → StatusRow → Type 0
IsCovered has row =
    (due : ℕ) → row.state ≡ Open → row.due ≡ Some due → IsTrue (has (due, row.transfer))

-- the set has every open pending transfer with a timeout, and may have more
abbrev pub Covers : DueTest → Machine → Type 0
Covers has m = All (IsCovered has) (rows_for 3 m).statuses

-- where the transfer has a due time, the set has it
abbrev pub HasDue : DueTest → Transfer → Type 0
HasDue has t = (due : ℕ) → due_of t ≡ Some due → IsTrue (has (due, t.id))

-- it does so now and at the mark, and no clock of these is before a past moment
pub record CoversBatch (has : DueTest) (past : ℕ) (s : State) : Type 0 where
  pub now : Covers has s.now
  pub marked : IfSome s.marked (Covers has)
  pub behind : past ≤ s.now.clock
  pub behind_marked : IfSome s.marked (λ m. past ≤ m.clock)
