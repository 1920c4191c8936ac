-- Laws of events, one after the other.
use Rattle.std.proofs.Common.{◌≡◌, ◌≢◌, Bool, true, false, List, [], ◌∷◌, ◌++◌, Result, refl, ℕ}
use Rattle.std.proofs.Common.{if◌then◌else◌, sym, subst, ap, ◌∙◌, append_assoc}
use Rattle.std.proofs.lemmas.Bool.{true≢false}
use Rattle.std.proofs.lemmas.List.{append-nil}
use Rattle.std.specs.List.{AllByRecursion}
use Rattle.chain.specs.Ledgers.{Tenants}
use Rattle.ledger_http.specs.declared.early.Early.{Early}
use Rattle.ledger_http.specs.declared.refusal.Refusal.TheVariants as refusal
use Rattle.ledger_http.specs.declared.reply.Reply.{Reply}
use Rattle.ledger_http.specs.declared.reply.Reply.TheVariants.{Whole, Fixed, Page, Health}
use Rattle.ledger_http.specs.Question.{Question}
use Rattle.service.specs.Replies.{unavailable}
use Rattle.service.specs.Deeds.{Deed, deeds_in}
use Rattle.service.specs.Courses.{Event, Replied, Tried, Reopened, Done, Declined, Unavailable}
use Rattle.service.specs.Courses.{Happens, HappenInTurn, is_unavailable, TellsNothing, IsStill}
use Rattle.service.specs.Courses.{untold_in, MayBeFound, Course, Then}
use Rattle.service.specs.Openings.{IsFree}

pub told_unavailable : (reply : Reply) → is_unavailable reply ≡ true → reply ≡ unavailable
told_unavailable (Whole bytes) is = absurd (cc)
told_unavailable (Fixed refusal.Unavailable) is = refl
told_unavailable (Fixed refusal) is = absurd (cc)
told_unavailable Page is = absurd (cc)
told_unavailable Health is = absurd (cc)

pub told_available : (reply : Reply) → is_unavailable reply ≡ false → reply ≢ unavailable
told_available reply is same = true≢false (sym (ap is_unavailable same) ∙ is)

pub all_append :
    {X : Type 0} (P : X → Type 0) (xs more : List X) → AllByRecursion P xs → AllByRecursion P more →
    AllByRecursion P (xs ++ more)
all_append P [] more all also = also
all_append P (x ∷ xs) more all also = (all.0, all_append P xs more all.1 also)

-- that the ledgers are unavailable tells nothing
pub unavailable_tells_nothing :
    (asked : Result Question Early) (moment : ℕ) (reply : Reply) → reply ≡ unavailable →
    TellsNothing asked moment reply
unavailable_tells_nothing asked moment reply is = record {
  untold = ap (λ (r : Reply). untold_in (Replied asked moment r)) is;
  right = λ tenants.
      record { answered = λ available. absurd (available is); same = λ u digest. refl };
}

untold_reply :
    (untold : Bool) (asked : Result Question Early) (moment : ℕ) (reply : Reply) (deed : Deed)
    (more : List Deed) → is_unavailable reply ≡ untold →
    (if untold then deeds_in asked moment else []) ≡ deed ∷ more → reply ≡ unavailable
untold_reply true asked moment reply deed more is untold = told_unavailable reply is
untold_reply false asked moment reply deed more is untold = absurd (cc)

-- an event of which something is untold says nothing of any tenant
pub untold_still :
    (event : Event) (deed : Deed) (more : List Deed) → untold_in event ≡ deed ∷ more → IsStill event
untold_still (Replied asked moment reply) deed more untold =
    unavailable_tells_nothing asked moment reply
    (untold_reply (is_unavailable reply) asked moment reply deed more refl untold)
untold_still (Tried tried Unavailable) deed more untold = tt
untold_still (Tried tried Done) deed more untold = absurd (cc)
untold_still (Tried tried Declined) deed more untold = absurd (cc)
untold_still (Reopened deeds) deed more untold = absurd (cc)

-- an event that says nothing of any tenant leaves any machines as they are
still_happens :
    (event : Event) (tenants : Tenants) → IsStill event → Happens tenants event tenants
still_happens (Replied asked moment reply) tenants still = still.right tenants
still_happens (Tried deed Unavailable) tenants still = λ digest. refl
still_happens (Tried deed Done) tenants still = absurd still
still_happens (Tried deed Declined) tenants still = absurd still
still_happens (Reopened deeds) tenants still = absurd still

-- and so do several
pub still_happen :
    (events : List Event) (tenants : Tenants) → AllByRecursion IsStill events →
    HappenInTurn tenants events tenants
still_happen [] tenants still = refl
still_happen (event ∷ events) tenants still =
    (tenants, still_happens event tenants still.0, still_happen events tenants still.1)

-- events behind others
pub happen_then :
    (events more : List Event) (old mid new : Tenants) → HappenInTurn old events mid →
    HappenInTurn mid more new → HappenInTurn old (events ++ more) new
happen_then [] more old mid new first second =
    subst (λ (from : Tenants). HappenInTurn from more new) first second
happen_then (event ∷ events) more old mid new first second =
    (first.0, first.1, happen_then events more first.0 mid new first.2 second)

-- a course goes on
pub course_then :
    (events more : List Event) (began mid new : Tenants) → Course began events mid →
    AllByRecursion IsFree more → HappenInTurn mid more new → Course began (events ++ more) new
course_then events [] began mid new course free happen =
    subst (λ (last : Tenants). Course began (events ++ []) last) (sym happen)
    (subst (λ (all : List Event). Course began all mid) (sym (append-nil events)) course)
course_then events (event ∷ more) began mid new course free happen =
    subst (λ (all : List Event). Course began all new) (append_assoc events (event ∷ []) more)
    (course_then (events ++ event ∷ []) more began happen.0 new
    (Then events mid event happen.0 course (free.0 events) happen.1) free.1 happen.2)

-- nothing is found done
pub nothing_found : (events : List Event) → MayBeFound [] events
nothing_found events = record {
  before = events;
  round = [];
  since = [];
  are = sym (append-nil events);
  still = tt;
  all = refl;
}

-- what may be found still may be, where nothing was said of any tenant since
pub found_since :
    (deeds : List Deed) (events more : List Event) → MayBeFound deeds events →
    AllByRecursion IsStill more → MayBeFound deeds (events ++ more)
found_since deeds events more may still = record {
  before = may.before;
  round = may.round;
  since = may.since ++ more;
  are =
      ap (λ (es : List Event). es ++ more) may.are
      ∙ (append_assoc may.before (may.round ++ may.since) more
      ∙ ap (λ (es : List Event). may.before ++ es) (append_assoc may.round may.since more));
  still =
      subst (AllByRecursion IsStill) (append_assoc may.round may.since more)
      (all_append IsStill (may.round ++ may.since) more may.still still);
  all = may.all;
}
