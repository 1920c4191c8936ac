-- What a service does for a tenant between messages.
use Rattle.std.specs.Prelude.{◌≡◌, ◌≤◌, ℕ, List, [], Option, Some, Ok}
use Rattle.records.specs.Machine.{Machine}
use Rattle.wire.specs.declared.read.Read.TheVariants.{Statement}
use Rattle.wire.specs.declared.request.Request.TheVariants.{Transfers, Read}
use Rattle.service.specs.Courses.{Event, Replied, Tried, Reopened}
use Rattle.service.specs.Deeds.{Deed, Asked, Joined, Keyed, after_deed}

-- The deeds that it may do, given this moment if it asked for one. A tenant joins, or has another
-- key. Or it is settled by a batch of no transfers, to a time that is no later than the moment. Or a
-- part of a statement is read.
pub data MayTry (given : Option ℕ) : Deed → Type 0 where
  Joins : (digest : List ℕ) → MayTry given (Joined digest)
  Changes_key : (was now : List ℕ) → MayTry given (Keyed was now)
  Settles :
      (digest : List ℕ) (moment until : ℕ) → given ≡ Some moment → until ≤ moment →
      MayTry given (Asked digest (Ok (Transfers [])) until)
  Reads_part :
      (digest : List ℕ) (account : ℕ) →
      MayTry given (Asked digest (Ok (Read (Statement account))) 0)

-- no account and no transfer is added, and no id fails
pub record BooksNothing (m now : Machine) : Type 0 where
  pub accounts : now.accounts ≡ m.accounts
  pub transfers : now.transfers ≡ m.transfers
  pub failed : now.failed ≡ m.failed

-- such a deed, which books nothing for its tenant
pub record IsOfService (deed : Deed) : Type 0 where
  pub given : Option ℕ
  pub may : MayTry given deed
  pub books :
      (m now : Machine) → after_deed deed (Some m) ≡ Some now → BooksNothing m now

-- an event: where no message asked for its deed, that is such a one
abbrev pub IsAskedOrOfService : Event → Type 0
IsAskedOrOfService (Replied asked moment reply) = Unit {0}
IsAskedOrOfService (Tried deed ending) = IsOfService deed
IsAskedOrOfService (Reopened deeds) = Unit {0}

-- what a service may do for a tenant books nothing
abbrev pub ServiceBooksNothing : Type 0
ServiceBooksNothing = (given : Option ℕ) (deed : Deed) → MayTry given deed → IsOfService deed
