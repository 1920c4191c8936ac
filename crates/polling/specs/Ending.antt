-- The turns of serving clients, and when it ends.
use Rattle.std.specs.Prelude.{◌≡◌, ◌⊎◌, ℕ, Bool, false, ◌+◌, ◌-◌, ◌^◌, [], IfSome}
use Rattle.std.specs.BTreeMap.{BTreeMap}
use Rattle.clients.specs.Talk.{HasNothingUnsent, Talk}
use Rattle.polling.specs.Peers.{Said}
use Rattle.polling.specs.Serving.{Hall, Terms}
use Rattle.polling.specs.Seating.{Held, HoldsHall, LeadsAll, ServesAll, ServesOwed, seats_in}
use Rattle.polling.specs.Standing.{StandTold}
use Rattle.polling.specs.declared.peers.Told.{Told}
use Rattle.polling.specs.declared.peers.Told.TheVariants as told
use Rattle.polling.specs.declared.step.Step.{Step}
use Rattle.polling.specs.declared.step.Step.TheVariants.{More, Waits}
use Rattle.polling.specs.declared.serving.Done.{Done}
use Rattle.polling.specs.declared.serving.Done.TheVariants.{Nothing, Served}

-- a step is told so, and for whom more may be done something was; where nothing more is read, such
-- a client may be let wait
abbrev pub IsToldAs : Step → Bool → Step → Type 0
IsToldAs done idle told =
    ((told ≡ done) × (idle ≡ false)) ⊎ ((done ≡ More) × (told ≡ Waits))

-- a turn: nobody is replied to before peers tell something, and then what it asks for is done, as
-- all stand behind that
pub record HasTurn {S C P : Type 0} (r : Terms S C P) (old new : Held S C P) (replies : ℕ) :
    Type 0 where
  pub before : Held S C P
  pub told : Told
  pub peers : P
  pub first : ServesAll r old before 0
  pub said : r.does before.peers (Said before.next told) peers
  pub served :
      (first : Hall S C P) → HoldsHall (record before { peers = peers }) first
      → StandTold told first.stands
      → LeadsAll r first new replies

-- clients were served, and the last that happened is that peers told that nothing more had
pub record IsIdleNow {S C P : Type 0} (r : Terms S C P) (old new : Held S C P) (replies : ℕ) :
    Type 0 where
  pub before : Held S C P
  pub served : ServesAll r old before replies
  pub said : r.does before.peers (Said before.next told.Nothing) new.peers
  pub same : new ≡ record before { peers = new.peers }

-- turns, one after the other, and how many messages were replied to in them
pub data Turns (S C P : Type 0) (r : Terms S C P) (first : Held S C P) :
    ℕ → ℕ → Held S C P → Type 0 where
  Start : Turns S C P r first 0 0 first
  Turn :
      (turns replies : ℕ) (last : Held S C P) (more : ℕ) (next : Held S C P) →
      Turns S C P r first turns replies last → HasTurn r last next more →
      Turns S C P r first (turns + 1) (replies + more) next

abbrev pub most_turns : ℕ
most_turns = 2 ^ 64 - 1

-- why serving ended: enough was done, or nothing more had happened, or no more turns are made
pub data Ends (S C P : Type 0) (r : Terms S C P) (is_enough : Type 0) (old new : Held S C P)
    (replies : ℕ) : Type 0 where
  Enough : is_enough → Ends S C P r is_enough old new replies
  Quiet : IsIdleNow r old new replies → Ends S C P r is_enough old new replies
  Long : Turns S C P r old most_turns replies new → Ends S C P r is_enough old new replies

-- nothing is owed that was not before: who is new has a seat or was closed, who was told as ready
-- had its turn or was put off, and who was told as late was closed. A client keeps its place alone,
-- with nothing done for it, only where so many replies were wanted. Or no more turns are made
abbrev pub GivesTurns :
    (S C P : Type 0) → Terms S C P → ℕ → Held S C P → Held S C P → ℕ → Type 0
GivesTurns S C P r most old new replies =
    ServesOwed r (replies ≡ most) [] [] old new replies ⊎ Turns S C P r old most_turns replies new

-- nothing is left of any reply
abbrev pub NothingIsLeft : BTreeMap ℕ Talk → Type 0
NothingIsLeft clients = (client : ℕ) → IfSome (seats_in clients client) HasNothingUnsent

-- what was done of what had happened
abbrev pub HasDone :
    {S C P : Type 0} → Terms S C P → Held S C P → Held S C P → Done → Type 0
HasDone r old new Nothing = IsIdleNow r old new 0
HasDone r old new (Served replies) = HasTurn r old new replies

-- how many messages were replied to
abbrev pub replies_of : Done → ℕ
replies_of Nothing = 0
replies_of (Served replies) = replies
