-- How clients stand between their turns, and what is owed to them.
use Rattle.std.specs.Prelude.{◌≡◌, ◌≢◌, ◌⊎◌, ℕ, Bool, true, false, List, [], ◌∷◌, Option, None, is_some, nat_eq, if◌then◌else◌}
use Rattle.std.specs.List.{Contains}
use Rattle.clients.specs.Answering.{IsWanting, IsAllAnswered}
use Rattle.clients.specs.Deeds.{Act, client_of}
use Rattle.clients.specs.Talk.{HasNothingUnsent, Talk}
use Rattle.polling.specs.Peers.{Doing, Gave, Gave_none, Took_none, Broke, Asked, Closed, Said, Stirred}
use Rattle.polling.specs.declared.peers.Told.{Told}
use Rattle.polling.specs.declared.peers.Told.TheVariants.{Joined, Ready, Late, Nothing}

-- a client has no seat; it is new, and is owed a seat or its end; it has one, and waits until peers
-- tell of it; it was told as ready, and is owed a turn; in its turn something was done for it; it
-- is to be told as ready again, though nothing was; it was told as late, and is owed its end; or it
-- goes for good, and is owed its end too
pub data Standing : Type 0 where
  Away : Standing
  New : Standing
  Awaited : Standing
  Owed : Standing
  Begun : Standing
  Kept : Standing
  Overdue : Standing
  Leaving : Standing

-- who has a seat
abbrev pub has_seat : Standing → Bool
has_seat Away = false
has_seat New = false
has_seat standing = true

-- behind the telling that somebody new is there: a number that has no seat is owed one
abbrev pub greeted : Standing → Standing
greeted Away = New
greeted standing = standing

-- a client that has a seat stands so from now on
abbrev pub stands_now : Standing → Standing → Standing
stands_now next Away = Away
stands_now next New = New
stands_now next standing = next

-- so too, unless it is owed its end
abbrev pub unless_ending : Standing → Standing → Standing
unless_ending next Overdue = Overdue
unless_ending next Leaving = Leaving
unless_ending next standing = stands_now next standing

-- behind the telling that a client is ready: it is owed a turn, unless it is owed its end
abbrev pub woken : Standing → Standing
woken standing = unless_ending Owed standing

-- behind the telling that it has had its time: it is owed its end
abbrev pub expired : Standing → Standing
expired standing = stands_now Overdue standing

-- behind a deed of it: what was owed to it is begun
abbrev pub begun : Standing → Standing
begun Owed = Begun
begun standing = standing

-- where it sends or takes nothing for now, or is put off: it waits until peers tell of it again
abbrev pub rested : Standing → Standing
rested standing = unless_ending Awaited standing

-- where it is to be told as ready again: so it waits behind a turn in which something was done for
-- it, and where nothing was it has kept its place alone
abbrev pub asked : Standing → Standing
asked Owed = Kept
asked Begun = Awaited
asked standing = standing

-- where it goes for good: it is owed its end
abbrev pub leaving : Standing → Standing
leaving standing = stands_now Leaving standing

-- all as they stand, but one
abbrev pub with_standing : ℕ → Standing → (ℕ → Standing) → ℕ → Standing
with_standing client standing stands other =
    if nat_eq client other then standing else stands other

-- behind a doing among peers; who is closed has no seat
abbrev pub stands_behind : Doing → (ℕ → Standing) → ℕ → Standing
stands_behind (Said fresh Joined) stands = with_standing fresh (greeted (stands fresh)) stands
stands_behind (Said fresh (Ready client)) stands =
    with_standing client (woken (stands client)) stands
stands_behind (Said fresh (Late client)) stands =
    with_standing client (expired (stands client)) stands
stands_behind (Gave_none client) stands = with_standing client (rested (stands client)) stands
stands_behind (Took_none client) stands = with_standing client (rested (stands client)) stands
stands_behind (Asked client) stands = with_standing client (asked (stands client)) stands
stands_behind (Closed client) stands = with_standing client Away stands
stands_behind doing stands = stands

-- behind deeds, one after the other
abbrev pub stands_after : List Act → (ℕ → Standing) → ℕ → Standing
stands_after [] stands = stands
stands_after (deed ∷ deeds) stands =
    stands_after deeds
    (with_standing (client_of deed) (begun (stands (client_of deed))) stands)

-- nothing is left for a client: its replies are written, and no message of it is answered any more
abbrev pub IsFinished : Talk → Type 0
IsFinished talk = HasNothingUnsent talk × ((talk.goes_on ≡ false) ⊎ IsAllAnswered talk.unread)

-- a client goes only for a reason: it was told as late; its connection was told as broken; a piece
-- of its next message is lost, since memory was wanting for it, which no contract can tell; the
-- next part of its reply could not be read; or nothing is left for it
pub data MayGo {P : Type 0} (does : P → Doing → P → Type 0) (client : ℕ) (standing : Standing)
    (talk : Talk) (old new : P) : Type 0 where
  Told_late : standing ≡ Overdue → new ≡ old → MayGo does client standing talk old new
  Told_broken : does old (Broke client) new → MayGo does client standing talk old new
  Lost_piece :
      (piece : List ℕ) → IsWanting talk.unread → does old (Gave client piece) new →
      MayGo does client standing talk old new
  Cut_short :
      talk.unsent ≡ [] → talk.rest ≢ None → new ≡ old → MayGo does client standing talk old new
  Finished : IsFinished talk → new ≡ old → MayGo does client standing talk old new

-- a client is closed only where it has no seat, or goes for good
abbrev pub MayClose : Standing → Type 0
MayClose Away = Unit {0}
MayClose New = Unit {0}
MayClose Leaving = Unit {0}
MayClose standing = ⊥

-- what happens among peers beside deeds and what they tell: reading from a client is tried only
-- where its next message is not whole, and writing only where something is to be written
abbrev pub MayStir : Doing → (ℕ → Talk) → (ℕ → Standing) → Type 0
MayStir (Gave_none client) talks stands = IsWanting (talks client).unread
MayStir (Took_none client) talks stands = (talks client).unsent ≢ []
MayStir (Asked client) talks stands = Unit {0}
MayStir (Closed client) talks stands = MayClose (stands client)
MayStir Stirred talks stands = Unit {0}
MayStir doing talks stands = ⊥

-- behind a telling: a client that was told as late is owed its end, if it has a seat
abbrev pub StandTold : Told → (ℕ → Standing) → Type 0
StandTold (Late client) stands = stands client ≡ expired (stands client)
StandTold told stands = Unit {0}

-- who has no seat is away or new, and nobody else
abbrev pub StandsIn : Option Talk → Standing → Type 0
StandsIn seat standing = is_some seat ≡ has_seat standing

-- what may be owed: a seat, a turn, or the end
pub data Debt : Type 0 where
  A_seat : Debt
  A_turn : Debt
  An_end : Debt

-- what is owed, and to whom
pub record Owing : Type 0 where
  pub debt : Debt
  pub client : ℕ

abbrev pub owing : Debt → ℕ → Owing
owing debt client = record { debt = debt; client = client }

abbrev pub turns_of : List ℕ → List Owing
turns_of [] = []
turns_of (client ∷ clients) = owing A_turn client ∷ turns_of clients

-- a turn that is begun is owed until it ends
abbrev pub IsOwed : Standing → Debt → Type 0
IsOwed New A_seat = Unit {0}
IsOwed Owed A_turn = Unit {0}
IsOwed Begun A_turn = Unit {0}
IsOwed Overdue An_end = Unit {0}
IsOwed Leaving An_end = Unit {0}
IsOwed standing debt = ⊥

-- what is owed once this is told, where the number is handed in
abbrev pub told_of : ℕ → Told → List Owing
told_of fresh Joined = owing A_seat fresh ∷ []
told_of fresh (Ready client) = owing A_turn client ∷ []
told_of fresh (Late client) = owing An_end client ∷ []
told_of fresh Nothing = []

-- each of these is one of those
abbrev pub AreSomeOf : {A : Type 0} → List A → List A → Type 0
AreSomeOf {A} some others = (one : A) → Contains some one → Contains others one

-- what is owed behind something is one of `to`, or was owed before; and if it was one of `from`, it
-- is one of `to`
abbrev pub OwesOnly : List Owing → List Owing → (ℕ → Standing) → (ℕ → Standing) → Type 0
OwesOnly from to old new =
    (client : ℕ) (debt : Debt)
    → IsOwed (new client) debt
    → (Contains from (owing debt client) → Contains to (owing debt client))
    × (IsOwed (old client) debt ⊎ Contains to (owing debt client))

-- nobody else is to be told again with nothing done for it, but for this reason
abbrev pub KeepsOnly : Type 0 → (ℕ → Standing) → (ℕ → Standing) → Type 0
KeepsOnly why old new = (client : ℕ) → new client ≡ Kept → (old client ≡ Kept) ⊎ why
