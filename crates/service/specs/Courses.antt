-- What happens to the ledgers of many tenants, event by event, stops and reopenings included. A
-- connection, and a whole run, is such a course.
use Rattle.std.specs.Prelude.{◌≡◌, ◌≢◌, ℕ, Bool, true, false, List, [], ◌∷◌, ◌++◌}
use Rattle.std.specs.Prelude.{Option, Result, IsOk, if◌then◌else◌}
use Rattle.std.specs.List.{AllByRecursion, flat_map}
use Rattle.httparse.specs.Grammar.{RequestHead}
use Rattle.chain.specs.Ledgers.{Tenants, KeepsAll}
use Rattle.ledger_http.specs.declared.early.Early.{Early}
use Rattle.ledger_http.specs.declared.refusal.Refusal.TheVariants as refusal
use Rattle.ledger_http.specs.declared.reply.Reply.{Reply}
use Rattle.ledger_http.specs.declared.reply.Reply.TheVariants.{Whole, Fixed, Page, Health}
use Rattle.ledger_http.specs.ReplyText.{reply_text}
use Rattle.ledger_http.specs.Message.{HasHead, first_message}
use Rattle.ledger_http.specs.Question.{Question, asked_of}
use Rattle.service.specs.Replies.{unavailable}
use Rattle.service.specs.Responds.{AnswersAsked, Responds}
use Rattle.service.specs.Deeds.{Deed, deeds_in, IsDeedDone, AreDone}

-- how a deed that no message asks for ended: it was done; it was declined; or the ledgers were
-- unavailable
pub data Ending : Type 0 where
  Done : Ending
  Declined : Ending
  Unavailable : Ending

-- a message that was read whole: what it asks, the moment, and the reply; a deed that was tried,
-- and how that ended; or that the ledgers were opened again, and that all these deeds were found
-- done, of which it had been answered that the ledgers were unavailable
pub data Event : Type 0 where
  Replied : Result Question Early → ℕ → Reply → Event
  Tried : Deed → Ending → Event
  Reopened : List Deed → Event

-- a message is answered, or the ledgers are unavailable, and then nothing has changed
pub record IsReplied (asked : Result Question Early) (moment : ℕ) (reply : Reply)
    (old new : Tenants) : Type 0 where
  pub answered : reply ≢ unavailable → AnswersAsked old new asked moment (reply_text reply)
  pub same : reply ≡ unavailable → KeepsAll old new

-- what an event makes of the tenants' machines
abbrev pub Happens : Tenants → Event → Tenants → Type 0
Happens old (Replied asked moment reply) new = IsReplied asked moment reply old new
Happens old (Tried deed Done) new = IsDeedDone deed old new
Happens old (Tried deed Declined) new = KeepsAll old new
Happens old (Tried deed Unavailable) new = KeepsAll old new
Happens old (Reopened deeds) new = AreDone deeds old new

-- whether the reply tells that the ledgers were unavailable
abbrev pub is_unavailable : Reply → Bool
is_unavailable (Whole bytes) = false
is_unavailable (Fixed refusal.Unavailable) = true
is_unavailable (Fixed refusal) = false
is_unavailable Page = false
is_unavailable Health = false

-- the deeds of which it was answered that the ledgers are unavailable
abbrev pub untold_in : Event → List Deed
untold_in (Replied asked moment reply) =
    if is_unavailable reply then deeds_in asked moment else []
untold_in (Tried deed Unavailable) = deed ∷ []
untold_in (Tried deed Done) = []
untold_in (Tried deed Declined) = []
untold_in (Reopened deeds) = []

-- a reply that tells nothing of what a message asks, and that is right whatever the machines are
pub record TellsNothing (asked : Result Question Early) (moment : ℕ) (reply : Reply) : Type 0 where
  pub untold : untold_in (Replied asked moment reply) ≡ deeds_in asked moment
  pub right : (tenants : Tenants) → IsReplied asked moment reply tenants tenants

-- an answer that says nothing of any tenant: that the ledgers are unavailable, or what is told
-- before a tenant is looked up
abbrev pub IsStill : Event → Type 0
IsStill (Replied asked moment reply) = TellsNothing asked moment reply
IsStill (Tried deed Unavailable) = Unit {0}
IsStill (Tried deed Done) = ⊥
IsStill (Tried deed Declined) = ⊥
IsStill (Reopened deeds) = ⊥

-- the deeds that an opening may find done after these events: all that was untold in a round of
-- them, where nothing was said of any tenant in that round and since. A round may be of one event,
-- or of none, and then no deed is found.
pub record MayBeFound (deeds : List Deed) (events : List Event) : Type 0 where
  pub before : List Event
  pub round : List Event
  pub since : List Event
  pub are : events ≡ before ++ (round ++ since)
  pub still : AllByRecursion IsStill (round ++ since)
  pub all : deeds ≡ flat_map untold_in round

-- what may come after these events: a reopening finds no other deeds
abbrev pub MayFollow : List Event → Event → Type 0
MayFollow events (Replied asked moment reply) = Unit {0}
MayFollow events (Tried deed ending) = Unit {0}
MayFollow events (Reopened deeds) = MayBeFound deeds events

-- events, one after the other
pub data Course (first : Tenants) : List Event → Tenants → Type 0 where
  Begin : Course first [] first
  Then :
      (events : List Event) (last : Tenants) (event : Event) (next : Tenants) →
      Course first events last → MayFollow events event → Happens last event next →
      Course first (events ++ event ∷ []) next

-- events happen, one after the other
abbrev pub HappenInTurn : Tenants → List Event → Tenants → Type 0
HappenInTurn old [] new = new ≡ old
HappenInTurn old (event ∷ events) new =
    (mid : Tenants) × Happens old event mid × HappenInTurn mid events new

-- the event of the first message of some bytes, at a moment, and its reply; of bytes that begin with
-- no whole message it is never told that the ledgers are unavailable
pub record IsReplyTo (bytes : List ℕ) (moment : ℕ) (reply : Reply) (event : Event) : Type 0 where
  pub head : Option RequestHead
  pub has : HasHead bytes head
  pub is : event ≡ Replied (asked_of bytes head) moment reply
  pub whole : reply ≡ unavailable → IsOk (first_message bytes head)

-- a response is what happens
abbrev pub ResponsesHappen : Type 0
ResponsesHappen =
    (old new : Tenants) (bytes : List ℕ) (moment : ℕ) (reply : Reply) (event : Event)
    → IsReplyTo bytes moment reply event
    → Responds old new bytes moment reply
    → Happens old event new
