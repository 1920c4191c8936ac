-- Ledgers that are opened again: what they mean, what an event and an opening make of them, and what
-- has led to them.
use Rattle.std.specs.Prelude.{◌≡◌, ◌⊎◌, ℕ, List, ◌∷◌, ◌++◌}
use Rattle.std.specs.List.{AllByRecursion, flat_map}
use Rattle.chain.specs.Ledgers.{LedgersMeaning, Tenants, KeepsAll, Finds}
use Rattle.ledger_http.specs.declared.reply.Reply.{Reply}
use Rattle.ledger_http.specs.Question.{asked_of}
use Rattle.service.specs.Deeds.{Deed, AreDone}
use Rattle.service.specs.Responds.{Responds, RefusesEarly, IsQuestionAnswered, IsLeftBy}
use Rattle.service.specs.Courses.{Event, Replied, Happens, HappenInTurn, MayFollow, IsStill, untold_in}
use Rattle.service.specs.Courses.{MayBeFound, Course, IsReplyTo}

-- what ledgers that can be opened again mean: their machines, whether they are live, and which
-- machines an opening may find in what they stand on
pub record RunMeaning (S : Type 0) : Type 1 where
  pub tenants : S → Tenants
  pub is_live : S → Type 0
  pub may_find : S → Tenants → Type 0

-- the same of ledgers that answer messages
abbrev pub run_meaning : {S : Type 0} → LedgersMeaning S → RunMeaning S
run_meaning t = record {
  tenants = t.tenants;
  is_live = t.is_live;
  may_find = t.may_find;
}

-- while the ledgers are live, an opening finds what is there
abbrev pub IsSettled : {S : Type 0} → RunMeaning S → S → Type 0
IsSettled t ledgers =
    t.is_live ledgers → (found : Tenants) → t.may_find ledgers found
    → KeepsAll (t.tenants ledgers) found

-- where an opening may find anything, the ledgers are live: so it is of live ledgers, and of none
abbrev pub IsFoundLive : {S : Type 0} → RunMeaning S → S → Type 0
IsFoundLive t ledgers = (found : Tenants) → t.may_find ledgers found → t.is_live ledgers

-- what an opening may find after an event: what is there; or, where the event says nothing of any
-- tenant, what might have been found before; or the machines after the deeds of which it was
-- answered that the ledgers are unavailable
pub data FoundAfter {S : Type 0} (t : RunMeaning S) (old : S) (event : Event) (new : S)
    (found : Tenants) : Type 0 where
  As_now : t.is_live new → KeepsAll (t.tenants new) found → FoundAfter t old event new found
  As_before : IsStill event → t.may_find old found → FoundAfter t old event new found
  As_done :
      (deed : Deed) (more : List Deed) → untold_in event ≡ deed ∷ more → t.is_live old →
      AreDone (deed ∷ more) (t.tenants old) found → FoundAfter t old event new found

-- what an event makes of the ledgers
pub record Moves {S : Type 0} (t : RunMeaning S) (old : S) (event : Event) (new : S) : Type 0 where
  pub happens : t.is_live new → Happens (t.tenants old) event (t.tenants new)
  pub lived : t.is_live new → t.is_live old
  pub found : (found : Tenants) → t.may_find new found → FoundAfter t old event new found

-- what an opening may find after events, one after the other: what is there; or, where none of them
-- says anything of any tenant, what might have been found before; or the machines after all that was
-- untold in a round of them, where nothing was said of any tenant in that round and since
pub data FoundAfterAll {S : Type 0} (t : RunMeaning S) (old : S) (events : List Event) (new : S)
    (found : Tenants) : Type 0 where
  All_as_now : t.is_live new → KeepsAll (t.tenants new) found → FoundAfterAll t old events new found
  All_as_before :
      AllByRecursion IsStill events → t.may_find old found → FoundAfterAll t old events new found
  All_done :
      (before round since : List Event) (mid : Tenants) → events ≡ before ++ (round ++ since) →
      AllByRecursion IsStill (round ++ since) → t.is_live old →
      HappenInTurn (t.tenants old) before mid → AreDone (flat_map untold_in round) mid found →
      FoundAfterAll t old events new found

-- what events make of the ledgers, one after the other
pub record MovesAll {S : Type 0} (t : RunMeaning S) (old : S) (events : List Event) (new : S) :
    Type 0 where
  pub happen : t.is_live new → HappenInTurn (t.tenants old) events (t.tenants new)
  pub lived : t.is_live new → t.is_live old
  pub found : (found : Tenants) → t.may_find new found → FoundAfterAll t old events new found

-- a message is replied to
pub record Replies {S : Type 0} (t : RunMeaning S) (old : S) (bytes : List ℕ) (moment : ℕ)
    (reply : Reply) (new : S) : Type 0 where
  pub event : Event
  pub is : IsReplyTo bytes moment reply event
  pub moves : Moves t old event new

-- the ledgers are opened again: they are what was to be found, and that is what may be found
pub record IsOpened {S : Type 0} (t : RunMeaning S) (old new : S) : Type 0 where
  pub member : t.is_live new → ∥ t.may_find old (t.tenants new) ∥₁
  pub found : (found : Tenants) → t.may_find new found
      → t.is_live new × KeepsAll (t.tenants new) found

-- of ledgers that are settled, a response makes what the event of its message does
abbrev pub ResponsesMove : {S : Type 0} → LedgersMeaning S → Type 0
ResponsesMove {S} t =
    (old new : S) (bytes : List ℕ) (moment : ℕ) (reply : Reply) (early : RefusesEarly bytes reply)
    → (t.is_live new → Responds (t.tenants old) (t.tenants new) bytes moment reply)
    → Finds t (IsQuestionAnswered bytes reply) (IsLeftBy bytes moment) old new
    → t.follows old new
    → IsSettled (run_meaning t) new
    → Moves (run_meaning t) old (Replied (asked_of bytes early.head) moment reply) new

-- What was done is told by events and by the machines at a time: `Since events began` says that
-- these events are all that there has been since the ledgers were last opened anew, or since the
-- beginning, and that these were the machines then.

-- the events since then are a course, from the machines at that time to these
pub record CourseSince (Since : List Event → Tenants → Type 0) (events : List Event)
    (began last : Tenants) : Type 0 where
  pub since : Since events began
  pub course : Course began events last

-- a course to these machines
pub record Leads (Since : List Event → Tenants → Type 0) (last : Tenants) : Type 0 where
  pub events : List Event
  pub began : Tenants
  pub course : CourseSince Since events began last

-- a course to an opening that finds these machines
pub record MayFind (Since : List Event → Tenants → Type 0) (found : Tenants) : Type 0 where
  pub events : List Event
  pub began : Tenants
  pub last : Tenants
  pub course : CourseSince Since events began last
  pub deeds : List Deed
  pub follows : MayBeFound deeds events
  pub happens : AreDone deeds last found

-- some course leads to what is there, and one to whatever an opening may find
pub record HasLed {S : Type 0} (t : RunMeaning S) (Since : List Event → Tenants → Type 0) (now : S) :
    Type 0 where
  pub here : t.is_live now → ∥ Leads Since (t.tenants now) ∥₁
  pub found : (found : Tenants) → t.may_find now found → ∥ MayFind Since found ∥₁

-- behind what there was there are these events more
abbrev pub GoesOn :
    (List Event → Tenants → Type 0) → List Event → (List Event → Tenants → Type 0) → Type 0
GoesOn Since more Now =
    (events : List Event) (began : Tenants) → Since events began → Now (events ++ more) began

-- an event that needs nothing before it
abbrev pub IsFree : Event → Type 0
IsFree event = (events : List Event) → MayFollow events event

-- the machines that are there, or that an opening may find
abbrev pub MayBegin : {S : Type 0} → RunMeaning S → S → Tenants → Type 0
MayBegin t ledgers began =
    (t.is_live ledgers × KeepsAll (t.tenants ledgers) began) ⊎ t.may_find ledgers began
