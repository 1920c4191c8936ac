-- Laws of rounds: what has led to the ledgers leads on by all messages of a round.
use Rattle.std.proofs.Common.{List, [], ◌∷◌, refl, subst, sym}
use Rattle.std.specs.List.{AllByRecursion}
use Rattle.chain.specs.Ledgers.{Tenants}
use Rattle.ledger_http.specs.declared.reply.Reply.{Reply}
use Rattle.ledger_http.specs.Question.{asked_of}
use Rattle.service.specs.declared.turns.Message.{Message}
use Rattle.service.specs.Courses.{Event, Replied, HappenInTurn}
use Rattle.service.specs.Openings.{RunMeaning, Leads, HasLed, GoesOn, IsFree}
use Rattle.service.specs.OpeningLaws.{here_more, found_more}
use Rattle.service.specs.Turns.{RespondInTurn, AreRepliesTo, MovesInRound}

-- what happens where messages get replies
pub record RepliesHappen (old : Tenants) (messages : List Message) (replies : List Reply)
    (new : Tenants) : Type 0 where
  pub events : List Event
  pub are : AreRepliesTo messages replies events
  pub happen : HappenInTurn old events new

pub replies_happen :
    (messages : List Message) (replies : List Reply) (old new : Tenants) →
    RespondInTurn old messages replies new → RepliesHappen old messages replies new
replies_happen [] [] old new same = record { events = []; are = tt; happen = same }
replies_happen [] (reply ∷ replies) old new none = absurd none
replies_happen (message ∷ messages) [] old new none = absurd none
replies_happen (message ∷ messages) (reply ∷ replies) old new responds =
    let rest = replies_happen messages replies responds.0 new responds.2 in
    let head = responds.1.head in
    record {
      events = Replied (asked_of message.bytes.items head) message.moment reply ∷ rest.events;
      are = (
        record { head = head; has = responds.1.has; is = refl; whole = responds.1.whole },
        rest.are,
      );
      happen = (
        responds.0,
        record { answered = responds.1.answered; same = responds.1.same },
        rest.happen,
      );
    }

-- replies need nothing before them
pub replies_free :
    (messages : List Message) (replies : List Reply) (events : List Event) →
    AreRepliesTo messages replies events → AllByRecursion IsFree events
replies_free [] [] [] are = tt
replies_free [] [] (event ∷ events) are = absurd are
replies_free [] (reply ∷ replies) events are = absurd are
replies_free (message ∷ messages) [] events are = absurd are
replies_free (message ∷ messages) (reply ∷ replies) [] are = absurd are
replies_free (message ∷ messages) (reply ∷ replies) (event ∷ events) are =
    (subst IsFree (sym are.0.is) (λ before. tt), replies_free messages replies events are.1)

module _ {S : Type 0} (t : RunMeaning S) (Since Now : List Event → Tenants → Type 0) where
  -- behind a round
  pub round_more :
      (mid new : S) (messages : List Message) (replies : List Reply) →
      ((events : List Event) → AreRepliesTo messages replies events → GoesOn Since events Now) →
      MovesInRound t mid messages replies new → HasLed t Since mid → HasLed t Now new
  round_more mid new messages replies on moves led =
      let here : (t.is_live new → ∥ Leads Now (t.tenants new) ∥₁) =
      λ live.
      let all =
      replies_happen messages replies (t.tenants mid) (t.tenants new) (moves.respond live) in
      here_more Since Now t mid new all.events (on all.events all.are)
      (replies_free messages replies all.events all.are) all.happen (moves.lived live) led in
      record {
        here = here;
        found = λ found may.
            let all = moves.found found may in
            found_more Since Now t mid new all.0 found (on all.0 all.1)
            (replies_free messages replies all.0 all.1) here led all.2;
      }
