-- Whose turn is next among messages that wait: turns go round the tenants, and then round a
-- tenant's clients.
use Rattle.std.specs.Prelude.{◌≡◌, ◌≢◌, ◌&&◌, ◌||◌, ℕ, Bool, false, List, [], ◌∷◌, ◌++◌, map, take, nat_lt, slice_get, Some, Contains, if◌then◌else◌}
use Rattle.polling.specs.declared.ring.Waiting.{Waiting}

-- the messages that wait, in the order in which they came, and the tenant that had the last turn
pub record Order : Type 0 where
  pub waiting : List Waiting
  pub last : ℕ

abbrev pub numbers_of : List Waiting → List ℕ
numbers_of = map (λ (waiting : Waiting). waiting.number)

abbrev pub tenants_of : List Waiting → List ℕ
tenants_of = map (λ (waiting : Waiting). waiting.tenant)

-- one more message waits
abbrev pub with_waiting : Waiting → Order → Order
with_waiting waiting order = record order { waiting = order.waiting ++ waiting ∷ [] }

-- whether one tenant's turn is before another's, where this one had the last: turns go up from
-- there to the greatest, and on from the least up to the last
abbrev pub is_before : ℕ → ℕ → ℕ → Bool
is_before last one other =
    if nat_lt last other then nat_lt last one && nat_lt one other
    else nat_lt last one || nat_lt one other

-- no message is of a tenant whose turn is before this one's
abbrev pub IsFirst : ℕ → List Waiting → ℕ → Type 0
IsFirst last waiting tenant =
    (other : Waiting) → Contains waiting other → is_before last other.tenant tenant ≡ false

-- no message is of this tenant
abbrev pub IsNoneOfTenant : List Waiting → ℕ → Type 0
IsNoneOfTenant waiting tenant =
    (other : Waiting) → Contains waiting other → other.tenant ≢ tenant

-- the message at this place has the next turn: no tenant that waits is before its tenant, and none
-- of its tenant's came before it
pub record IsNextPlace (last : ℕ) (waiting : List Waiting) (place : ℕ) : Type 0 where
  pub next : Waiting
  pub at : slice_get waiting place ≡ Some next
  pub first : IsFirst last waiting next.tenant
  pub oldest : IsNoneOfTenant (take place waiting) next.tenant

-- this message has its turn, and waits no more
pub record HasTurnNow (old : Order) (waiting : Waiting) (new : Order) : Type 0 where
  pub front : List Waiting
  pub back : List Waiting
  pub were : old.waiting ≡ front ++ waiting ∷ back
  pub left : new ≡ record { waiting = front ++ back; last = waiting.tenant }
  pub first : IsFirst old.last old.waiting waiting.tenant
  pub oldest : IsNoneOfTenant front waiting.tenant

-- messages come and have their turns, which are these
pub data Turns (first : Order) : List Waiting → Order → Type 0 where
  Begin : Turns first [] first
  Comes :
      (turns : List Waiting) (last : Order) (waiting : Waiting) → Turns first turns last →
      Turns first turns (with_waiting waiting last)
  Turn :
      (turns : List Waiting) (last : Order) (waiting : Waiting) (next : Order) →
      Turns first turns last → HasTurnNow last waiting next →
      Turns first (turns ++ waiting ∷ []) next

-- a message of this tenant waits
abbrev pub Waits : ℕ → Order → Type 0
Waits tenant order =
    (waiting : Waiting) × Contains order.waiting waiting × (waiting.tenant ≡ tenant)

-- among these turns one tenant had one, before which the other had none
pub record HadTurnBefore (one other : ℕ) (turns : List Waiting) : Type 0 where
  pub front : List Waiting
  pub turn : Waiting
  pub back : List Waiting
  pub is : turns ≡ front ++ turn ∷ back
  pub own : turn.tenant ≡ one
  pub none : IsNoneOfTenant front other

-- after a turn of one tenant, each other tenant that waits has a turn before that one has its next
abbrev pub TurnsGoRound : Type 0
TurnsGoRound =
    (first last : Order) (turns : List Waiting) (tenant : ℕ) (next : Waiting)
    → Turns first turns last
    → Waits tenant first
    → tenant ≢ first.last
    → Contains turns next
    → next.tenant ≡ first.last
    → HadTurnBefore tenant first.last turns
