-- What steps of serving ask for and leave.
use Rattle.std.specs.Prelude.{◌≡◌, ◌≢◌, ◌≤◌, ◌⊎◌, ◌++◌, ℕ, true, false, not, List, [], ◌∷◌, Option, Some, Contains, IfSome, filter, length}
use Rattle.std.specs.BTreeMap.{BTreeMap}
use Rattle.service.specs.declared.turns.Message.{Message}
use Rattle.service.specs.Seen.{SeenAt}
use Rattle.parts.specs.declared.rest.Rest.{Rest}
use Rattle.clients.specs.Answering.{IsWanting}
use Rattle.clients.specs.Talk.{Talk, may_answer}
use Rattle.polling.specs.Kinds.{IsNextKind}
use Rattle.polling.specs.Peers.{Doing, Said}
use Rattle.polling.specs.Serving.{Terms}
use Rattle.polling.specs.Standing.{AreSomeOf}
use Rattle.polling.specs.Seating.{Held, ServesAll, AreSame}
use Rattle.polling.specs.Round.{AreGathered}
use Rattle.polling.specs.Ending.{Ends, GivesTurns, NothingIsLeft}
use Rattle.polling.specs.Ring.{Order, Turns, numbers_of}
use Rattle.polling.specs.declared.gathering.Chosen.{Chosen}
use Rattle.polling.specs.declared.gathering.Kind.{Kind}
use Rattle.polling.specs.declared.gathering.Place.{Place}
use Rattle.polling.specs.declared.gathering.Place.TheVariants as place
use Rattle.polling.specs.declared.peers.Told.{Told}
use Rattle.polling.specs.declared.peers.Told.TheVariants as telling
use Rattle.polling.specs.declared.ring.Waiting.{Waiting}
use Rattle.polling.specs.declared.round.Member.{Member}

-- all that is there of a reply is written, and this is left to be read of it
pub record MayReadPart (talk : Talk) (rest : Rest) : Type 0 where
  pub written : talk.unsent ≡ []
  pub left : talk.rest ≡ Some rest

-- a client's next message may be answered, but is not whole
pub record MayReadMore (talk : Talk) : Type 0 where
  pub may : may_answer talk ≡ true
  pub more : IsWanting talk.unread

-- this was served, with so many replies at most
pub record RepliesUpTo (most replies : ℕ) (Served : Type 0) : Type 0 where
  pub serves : Served
  pub few : replies ≤ most

-- this was served by writing alone: what is left to be read of the reply stays
pub record WritesAlone (old new : Talk) (Served : Type 0) : Type 0 where
  pub serves : Served
  pub rest : new.rest ≡ old.rest

-- these replies were put, so many at most
pub record PutsUpTo (most replies : ℕ) (Put : Type 0) : Type 0 where
  pub put : Put
  pub few : replies ≤ most

-- which kind a client's next message is; the client is as it was
pub record TellsKind (waits : List ℕ → Type 0) (old new : Talk) (told : Kind) : Type 0 where
  pub kind : IsNextKind waits old told
  pub same : new ≡ old

-- a client is gathered only as one of those who are; who else is was gathered before, and still is
pub record GathersNext (old new : List ℕ) (number : ℕ) (placed : Place) : Type 0 where
  pub kept : AreSomeOf old new
  pub gathered : placed ≡ place.Gathered → Contains new number

-- the client of one more message that has its turn: a batch, or another one
pub record IsAdded (waiting : Waiting) (old new : Chosen) : Type 0 where
  pub batch :
      waiting.is_batch ≡ true
      → (new.others.items ≡ old.others.items)
      × (new.batches.items ≡ old.batches.items ++ waiting.number ∷ [])
  pub other :
      waiting.is_batch ≡ false
      → (new.others.items ≡ old.others.items ++ waiting.number ∷ [])
      × (new.batches.items ≡ old.batches.items)

-- messages have their turns, and these are their clients: those whose messages are no batches, and
-- the others. A client that waited is one of them, or waits still
pub record TakesTurns (old new : Order) (chosen : Chosen) : Type 0 where
  pub given : List Waiting
  pub turns : Turns old given new
  pub others :
      chosen.others.items ≡ numbers_of (filter (λ (one : Waiting). not one.is_batch) given)
  pub batches : chosen.batches.items ≡ numbers_of (filter (λ (one : Waiting). one.is_batch) given)
  pub owed :
      AreSomeOf (numbers_of old.waiting)
      (chosen.others.items ++ (chosen.batches.items ++ numbers_of new.waiting))

-- a client's next message, where it was copied; the client is as it was
pub record CopiesOne {A : Type 0} (old new : Talk) (result : Option A) (Copied : A → Type 0) :
    Type 0 where
  pub same : new ≡ old
  pub copied : IfSome result Copied

-- next messages of clients were copied, so many at most, and each seat is as it was
pub record CopiesNext {C : Type 0} (gives : C → ℕ → C → Type 0) (seats seats_now : ℕ → Option Talk)
    (first : C) (members : List Member) (messages : List Message) (last : C) (most : ℕ) :
    Type 0 where
  pub same : AreSame seats seats_now
  pub gathered : AreGathered gives seats first members messages last
  pub few : length members ≤ most

-- all who were ready were served, with so many replies at most: why that ended, and who had a turn
pub record ServesReady {S C P : Type 0} (r : Terms (SeenAt S) C P) (most : ℕ)
    (old new : Held (SeenAt S) C P) (replies : ℕ) : Type 0 where
  pub serves : ServesAll r old new replies
  pub ends : Ends (SeenAt S) C P r (replies ≡ most) old new replies
  pub turns : GivesTurns (SeenAt S) C P r most old new replies
  pub few : replies ≤ most

-- what was left of replies was written, whatever gives the moments: why that ended
pub record WritesRest {S C P : Type 0} (r : Terms (SeenAt S) C P) (clients : BTreeMap ℕ Talk)
    (old new : C → Held (SeenAt S) C P) : Type 0 where
  pub serves : (moments : C) → ServesAll r (old moments) (new moments) 0
  pub ends :
      (moments : C) →
      Ends (SeenAt S) C P r (NothingIsLeft clients) (old moments) (new moments) 0

-- peers told something, or that nothing more had happened where somebody was gathered
pub record TellsMore {P : Type 0} (does : P → Doing → P → Type 0) (next : ℕ)
    (gathered : List Waiting) (old : P) : Type 0 where
  pub told : Told
  pub peers : P
  pub said : does old (Said next told) peers
  pub more : (told ≢ telling.Nothing) ⊎ (gathered ≢ [])
