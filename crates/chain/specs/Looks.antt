-- Work that only reads: what it gives, what it leaves, and how its answer is told.
use Rattle.std.specs.Prelude.{◌≡◌, Result, Ok, Err, IfOk, OnOk}
use Rattle.records.specs.declared.unavailable.Unavailable.{Unavailable}
use Rattle.records.specs.Machine.{Machine}
use Rattle.chain.specs.declared.ledgers.BatchFault.{BatchFault}
use Rattle.chain.specs.declared.ledgers.BatchFault.TheVariants as batch_fault
use Rattle.chain.specs.declared.reads.ReadFault.{ReadFault}
use Rattle.chain.specs.declared.reads.ReadFault.TheVariants as fault
use Rattle.records.specs.Reads.{AccountAnswer}
use Rattle.chain.specs.declared.reading.AccountFault.{AccountFault}
use Rattle.chain.specs.declared.reading.AccountFault.TheVariants.{NoAccount, NoHistory}
use Rattle.chain.specs.LedgerReads.{Seen, IsShown, seen_by}
use Rattle.chain.specs.Tables.{Meaning}

-- an output that shows this of the machine, at its clock; the machine stays
pub record Shows {A X : Type 0} (shows : X → Seen A) (answer : Machine → A)
    (before : Machine) (output : X) (after : Machine) : Type 0 where
  pub is : shows output ≡ record { clock = before.clock; shown = answer before }
  pub same : after ≡ before

-- what calls that only look leave: if they answer, the very state
pub record LeavesSame {S X : Type 0} (t : Meaning S) (old new : S) (result : Result X Unavailable) :
    Type 0 where
  pub same : t.is_live new → OnOk result (t.state new ≡ t.state old)
  pub usable : OnOk result (t.is_usable new)
  pub follows : t.follows old new

-- several look-ups: where the tables are live this is so of the machine and of what is found; if
-- they answer, nothing changes
pub record Searches {S X : Type 0} (t : Meaning S) (IsSo : Machine → X → Type 0) (old new : S)
    (result : Result X Unavailable) : Type 0 where
  pub value : t.is_live new → IfOk result (IsSo (t.state old).now)
  pub leaves : LeavesSame t old new result

-- the answer of a batch, as a read
abbrev pub read_answer : {A : Type 0} → Result A BatchFault → Result A ReadFault
read_answer (Ok answer) = Ok answer
read_answer (Err batch_fault.UnknownKey) = Err fault.UnknownKey
read_answer (Err (batch_fault.Unavailable why)) = Err (fault.Unavailable why)

-- an output about an account, as a read tells it
abbrev pub answer_of : {A : Type 0} → Result A AccountFault → Result A ReadFault
answer_of (Ok answer) = Ok answer
answer_of (Err NoAccount) = Err fault.NoAccount
answer_of (Err NoHistory) = Err fault.NoHistory

-- an output about an account that shows what the machine answers, at its clock; the machine stays
pub record Answers {A X : Type 0} (shows : X → Seen A) (answer : Machine → AccountAnswer A)
    (before : Machine) (output : Result X AccountFault) (after : Machine) : Type 0 where
  pub is : IsShown shows (seen_by before.clock (answer before)) (answer_of output)
  pub same : after ≡ before

-- the answer of a batch with such an output, as a read
abbrev pub account_answer : {A : Type 0} → Result (Result A AccountFault) BatchFault →
    Result A ReadFault
account_answer (Ok output) = answer_of output
account_answer (Err batch_fault.UnknownKey) = Err fault.UnknownKey
account_answer (Err (batch_fault.Unavailable why)) = Err (fault.Unavailable why)
