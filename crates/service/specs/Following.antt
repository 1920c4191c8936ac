-- What a tenant was told in a course up to a clock stays, and all that came since is later.
use Rattle.std.specs.Prelude.{◌≡◌, ℕ, ◌≤◌, List, Option, Some, None}
use Rattle.records.specs.declared.query.QueryFilter.{QueryFilter}
use Rattle.records.specs.declared.query.Span.{Span}
use Rattle.records.specs.Machine.{Machine}
use Rattle.records.specs.Queries.{last_time, queried_transfers}
use Rattle.engine.specs.Following.{ContinuesAfter, IsToldAgain}
use Rattle.wire.specs.declared.outcome.Outcome.{Outcome}
use Rattle.wire.specs.declared.outcome.Outcome.TheVariants as told
use Rattle.wire.specs.declared.request.Request.{Request}
use Rattle.chain.specs.Ledgers.{Tenants}
use Rattle.parts.specs.Parts.{IsRestHeld, chunks_left}
use Rattle.parts.specs.declared.rest.Rest.{Rest}
use Rattle.service.specs.Courses.{Course, Event}
use Rattle.service.specs.OwnDeeds.{digest_since}
use Rattle.service.specs.Served.{told_by, left_by}

-- the clock that a reply tells, if it tells one
abbrev pub clock_in : Outcome → Option ℕ
clock_in (told.Refused why) = None
clock_in (told.Detailed why fault) = None
clock_in (told.AccountResults clock results) = Some clock
clock_in (told.TransferResults clock results) = Some clock
clock_in (told.Accounts clock accounts) = Some clock
clock_in (told.Transfers clock transfers) = Some clock
clock_in (told.Balances clock balances) = Some clock
clock_in (told.Page clock next entries) = Some clock
clock_in (told.Holds clock holds) = Some clock
clock_in (told.Statement text) = None
clock_in (told.Linted events) = None

-- a tenant's machine goes on from the one that a request has left
pub record GoesOnFrom (left now : Machine) (reply : Outcome) : Type 0 where
  -- the clock that was told is that of the machine that was left
  pub told_clock : (clock : ℕ) → clock_in reply ≡ Some clock → left.clock ≡ clock
  -- all entries are kept in place, and those that came since are later than that clock
  pub continues : ContinuesAfter left now
  -- and what lies in a span of time that ends by it is told again
  pub spans : (span : Span) → span.last ≤ left.clock → IsToldAgain left now span
  pub pages :
      (asked : QueryFilter) → last_time asked.page.timestamp_max ≤ left.clock →
      queried_transfers now asked ≡ queried_transfers left asked

-- so it is of each request of a tenant that was done, whatever any tenant did since
abbrev pub ToldStays : (List ℕ → Request → ℕ → Machine → Machine → Type 0) → Type 0
ToldStays WasAsked =
    (digest : List ℕ) (request : Request) (moment : ℕ) (m now : Machine)
    → WasAsked digest request moment m now
    → GoesOnFrom (left_by m moment request) now (told_by m moment request)

-- what is left of a statement stays in a course, as long as its tenant has the digest that it had
abbrev pub LeftStays : Type 0
LeftStays =
    (old new : Tenants) (events : List Event)
    → Course old events new
    → (rest : Rest)
    → IsRestHeld old rest
    → digest_since rest.digest events ≡ rest.digest
    → chunks_left new (Some rest) ≡ chunks_left old (Some rest)
