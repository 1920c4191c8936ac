-- Whose batches wait, since they have more due than is released at once.
use Rattle.std.specs.Prelude.{◌≡◌, ◌⊎◌, ◌||◌, ◌++◌, ◌∷◌, filter, ℕ, ℤ, List, [], Bool, bytes_eq, not, IsTrue}
use Rattle.std.specs.Prelude.{Option, Some, None, Result, Ok, Err}
use Rattle.std.specs.List.{list_any}
use Rattle.std.specs.Ordering.{int_eq}
use Rattle.sha2.specs.Sha256.{sha256}
use Rattle.chain.specs.declared.ledgers.BatchFault.{BatchFault}
use Rattle.ledger_http.specs.Question.{IsAsked}
use Rattle.ledger_http.specs.declared.request.Asked.{Asked}
use Rattle.stored_ledgers.specs.declared.overdue.Overdue.{Overdue}
use Rattle.stored_ledgers.specs.declared.due_search.Search.{Search}
use Rattle.stored_ledgers.specs.Overdue.{BeginsSearch, least_number}
use Rattle.commands.specs.declared.behind.Behind.{Behind}
use Rattle.commands.specs.declared.behind.Tenant.{Tenant}

-- the tenant has this digest
abbrev pub has_digest : List ℕ → Tenant → Bool
has_digest digest tenant = bytes_eq tenant.digest digest

-- one that was found has it
abbrev pub is_waiting : List ℕ → Behind → Bool
is_waiting digest behind =
    list_any (has_digest digest) behind.before.items
    || list_any (has_digest digest) behind.since.items

-- the bytes ask for one that was found
abbrev pub AsksForOneBehind : List ℕ → Behind → Type 0
AsksForOneBehind bytes behind =
    (asked : Asked) × IsAsked bytes (Ok asked) × IsTrue (is_waiting (sha256 asked.key) behind)

-- they ask for one that is among some that were found
abbrev pub MayWait : List ℕ → Type 0
MayWait bytes = (behind : Behind) × AsksForOneBehind bytes behind

-- a tenant with another number
abbrev pub is_other : ℤ → Tenant → Bool
is_other number tenant = not (int_eq tenant.number number)

-- the tenant that was found
abbrev pub late : Overdue → Tenant
late overdue = record { number = overdue.number; digest = overdue.digest }

-- nobody waits
pub record IsEmpty (behind : Behind) : Type 0 where
  pub before : behind.before.items ≡ []
  pub since : behind.since.items ≡ []

-- what was known of a tenant that is found goes, and it waits from now on if more is due, unless
-- memory is wanting
pub record Notes (overdue : Overdue) (old new : Behind) : Type 0 where
  pub before : new.before.items ≡ filter (is_other overdue.number) old.before.items
  pub since : (new.since.items ≡ old.since.items)
      ⊎ (IsTrue overdue.has_more × (new.since.items ≡ old.since.items ++ late overdue ∷ []))

-- all were looked at: who was not found again waits no more
pub record EndsSearch (old new : Behind) : Type 0 where
  pub before : new.before.items ≡ old.since.items
  pub since : new.since.items ≡ []

-- what a piece of settling told is noted
abbrev pub NotesTold : Result (Option Overdue) BatchFault → Behind → Behind → Type 0
NotesTold (Ok (Some overdue)) old new = Notes overdue old new
NotesTold (Ok None) old new = new ≡ old
NotesTold (Err why) old new = new ≡ old

-- and so is the end of a search, where it ends with that
pub record NotesPiece (told : Result (Option Overdue) BatchFault) (search : Search)
    (old new : Behind)
    : Type 0 where
  pub noted : Behind
  pub notes : NotesTold told old noted
  pub ends : BeginsSearch search → EndsSearch noted new
  pub goes_on : (BeginsSearch search → ⊥) → new ≡ noted

-- a search as it goes on: behind a fault it is not known that whoever was found last was settled
abbrev pub search_behind : Result (Option Overdue) BatchFault → Search → Search
search_behind (Ok found) search = search
search_behind (Err why) search = record search { last = (least_number, 0) }
