-- Messages in turn.
use Rattle.std.proofs.Common.{◌≡◌, ◌≢◌, inl, inr, ℕ, ◌+◌, ◌<◌, false, List, [], ◌∷◌, ◌++◌}
use Rattle.std.proofs.Common.{length, take, get_or, Result, Ok, Err, refl, sym, ap, ◌∙◌, subst}
use Rattle.std.proofs.Math.Path.{fun_ext}
use Rattle.std.proofs.lemmas.List.{append-nil, take_more}
use Rattle.std.specs.List.{AllByRecursion, flat_map}
use Rattle.chain.specs.Ledgers.{LedgersMeaning, Tenants, KeepsAll, Finds, LeadsByRound}
use Rattle.ledger_http.specs.declared.early.Early.{Early}
use Rattle.ledger_http.specs.declared.reply.Reply.{Reply}
use Rattle.ledger_http.specs.ReplyText.{reply_text}
use Rattle.ledger_http.specs.Question.{Question, asked_of}
use Rattle.service.specs.declared.turns.Message.{Message}
use Rattle.service.specs.Replies.{unavailable}
use Rattle.service.specs.Responds.{AnswersAsked, RefusesEarly}
use Rattle.service.specs.Deeds.{Deed, deeds_in, AreDone}
use Rattle.service.specs.Courses.{Event, Replied, HappenInTurn, is_unavailable, IsStill, untold_in}
use Rattle.service.specs.Courses.{IsReplyTo}
use Rattle.service.specs.Openings.{RunMeaning, run_meaning, IsSettled, Moves}
use Rattle.service.specs.Openings.{FoundAfterAll, All_as_now, All_as_before, All_done}
use Rattle.service.specs.EventLaws.{all_append, told_available}
use Rattle.service.specs.OpeningLaws.{moves_none, moves_one, moves_then}
use Rattle.service.specs.Turns.{RespondsTo, RespondInTurn, TakeTurns, AreRepliesTo, MovesInRound}
use Rattle.service.specs.Turns.{MovesEach, EachHearsItsOwn}
use Rattle.service.specs.TurnLaws.{replies_happen}
use Rattle.service.specs.ExchangeLaws.{HeadsAreUnique, answers_asked}

-- the message at an index is the next one
message_more :
    (messages : List Message) (i : ℕ) (message : Message) → i < length messages →
    message ≡ get_or messages i message → take (i + 1) messages ≡ take i messages ++ message ∷ []
message_more messages i message below is =
    take_more messages i message below
    ∙ ap (λ (m : Message). take i messages ++ m ∷ []) (sym is)

respond_more :
    (messages : List Message) (replies : List Reply) (old mid new : Tenants) (message : Message)
    (reply : Reply) → RespondInTurn old messages replies mid → RespondsTo mid message reply new →
    RespondInTurn old (messages ++ message ∷ []) (replies ++ reply ∷ []) new
respond_more [] [] old mid new message reply same next =
    (new, subst (λ (from : Tenants). RespondsTo from message reply new) same next, refl)
respond_more [] (r ∷ replies) old mid new message reply responds next = absurd responds
respond_more (m ∷ messages) [] old mid new message reply responds next = absurd responds
respond_more (m ∷ messages) (r ∷ replies) old mid new message reply responds next = (
  responds.0,
  responds.1,
  respond_more messages replies responds.0 mid new message reply responds.2 next,
)

are_more :
    (messages : List Message) (replies : List Reply) (events : List Event) (message : Message)
    (reply : Reply) (event : Event) → AreRepliesTo messages replies events →
    IsReplyTo message.bytes.items message.moment reply event →
    AreRepliesTo (messages ++ message ∷ []) (replies ++ reply ∷ []) (events ++ event ∷ [])
are_more [] [] [] message reply event are is = (is, tt)
are_more [] [] (e ∷ events) message reply event are is = absurd are
are_more [] (r ∷ replies) events message reply event are is = absurd are
are_more (m ∷ messages) [] events message reply event are is = absurd are
are_more (m ∷ messages) (r ∷ replies) [] message reply event are is = absurd are
are_more (m ∷ messages) (r ∷ replies) (e ∷ events) message reply event are is =
    (are.0, are_more messages replies events message reply event are.1 is)

-- before the first message
pub no_turns : (old : Tenants) → TakeTurns [] old [] old
no_turns old = record { respond = refl; available = tt }

-- one turn more
pub turn_on :
    (old mid new : Tenants) (messages : List Message) (replies more : List Reply) (i : ℕ)
    (message : Message) (reply : Reply) → i < length messages →
    message ≡ get_or messages i message → more ≡ replies ++ reply ∷ [] →
    TakeTurns (take i messages) old replies mid → RespondsTo mid message reply new →
    is_unavailable reply ≡ false → TakeTurns (take (i + 1) messages) old more new
turn_on old mid new messages replies more i message reply below is grown turns next told =
    rw (message_more messages i message below is, grown) (record {
      respond =
          respond_more (take i messages) replies old mid new message reply turns.respond next;
      available =
          all_append (λ (r : Reply). r ≢ unavailable) replies (reply ∷ []) turns.available
          (told_available reply told, tt);
    })

-- none is answered yet
pub none_answered :
    {S : Type 0} (t : RunMeaning S) (ledgers : S) → MovesEach t ledgers [] [] ledgers
none_answered t ledgers = record {
  respond = λ live. refl;
  events = [];
  are = tt;
  moves = moves_none t ledgers;
}

-- one more is answered
pub each_on :
    {S : Type 0} (t : RunMeaning S) (old mid new : S) (messages : List Message)
    (replies more : List Reply) (i : ℕ) (message : Message) (reply : Reply) → i < length messages →
    message ≡ get_or messages i message → more ≡ replies ++ reply ∷ [] →
    (early : RefusesEarly message.bytes.items reply) →
    MovesEach t old (take i messages) replies mid →
    (t.is_live new → RespondsTo (t.tenants mid) message reply (t.tenants new)) →
    Moves t mid (Replied (asked_of message.bytes.items early.head) message.moment reply) new →
    MovesEach t old (take (i + 1) messages) more new
each_on t old mid new messages replies more i message reply below is grown early each next moves =
    let event = Replied (asked_of message.bytes.items early.head) message.moment reply in
    rw (message_more messages i message below is, grown) (record {
      respond = λ live.
          respond_more (take i messages) replies (t.tenants old) (t.tenants mid) (t.tenants new)
          message reply (each.respond (moves.lived live)) (next live);
      events = each.events ++ event ∷ [];
      are =
          are_more (take i messages) replies each.events message reply event each.are
          (record { head = early.head; has = early.has; is = refl; whole = early.whole });
      moves =
          moves_then t old mid new each.events (event ∷ []) each.moves
          (moves_one t mid new event moves);
    })

-- a round that is kept
pub kept_moves :
    {S : Type 0} (t : LedgersMeaning S) (old new : S) (messages : List Message)
    (replies : List Reply) (Answered : Type 0) (Leads : Tenants → Tenants → Type 0) → Answered →
    (t.is_live new → TakeTurns messages (t.tenants old) replies (t.tenants new)) →
    (t.is_live new → t.is_live old) → Finds t Answered Leads old new →
    IsSettled (run_meaning t) new → MovesInRound (run_meaning t) old messages replies new
kept_moves t old new messages replies Answered Leads answered run lived finds settled = record {
  respond = λ live. (run live).respond;
  lived = lived;
  found = λ found may.
      let live = finds.live answered found may in
      let all =
      replies_happen messages replies (t.tenants old) (t.tenants new) (run live).respond in
      (all.events, all.are, All_as_now live (settled live found may));
}

-- what was answered was done
answered_done :
    (asked : Result Question Early) (moment : ℕ) (text : List ℕ) (old new : Tenants) →
    AnswersAsked old new asked moment text → AreDone (deeds_in asked moment) old new
answered_done (Ok question) moment text old new a =
    (new, record { may = tt; own = a.own; others = a.others }, λ digest. refl)
answered_done (Err refusal) moment text old new a = a.same

done_then :
    (deeds more : List Deed) (old mid new : Tenants) → AreDone deeds old mid →
    AreDone more mid new → AreDone (deeds ++ more) old new
done_then [] more old mid new keeps second =
    subst (λ (from : Tenants). AreDone more from new) (fun_ext keeps) second
done_then (deed ∷ deeds) more old mid new first second =
    (first.0, first.1, done_then deeds more first.0 mid new first.2 second)

module _ (unique : HeadsAreUnique) where
  -- what one message asks was done, and of another reply to it nothing was told
  one_done :
      (message : Message) (reply told : Reply) (event : Event) (old new : Tenants) →
      IsReplyTo message.bytes.items message.moment reply event → IsStill event →
      RespondsTo old message told new → told ≢ unavailable → AreDone (untold_in event) old new
  one_done message reply told event old new to still responds available =
      let bytes = message.bytes.items in
      let asked = asked_of bytes to.head in
      subst (λ (deeds : List Deed). AreDone deeds old new)
      (sym (ap untold_in to.is ∙ (subst IsStill to.is still).untold))
      (answered_done asked message.moment (reply_text told) old new
      (answers_asked unique old new bytes to.head asked message.moment told responds to.has refl
      available))

  -- so it is of all messages of a round
  all_done :
      (messages : List Message) (replies told : List Reply) (events : List Event)
      (old new : Tenants) → AreRepliesTo messages replies events → AllByRecursion IsStill events →
      RespondInTurn old messages told new →
      AllByRecursion (λ (reply : Reply). reply ≢ unavailable) told →
      AreDone (flat_map untold_in events) old new
  all_done [] [] [] [] old new are still same available =
      λ digest. ap (λ (tenants : Tenants). tenants digest) same
  all_done [] [] (told ∷ tolds) [] old new are still none available = absurd none
  all_done [] [] tolds (event ∷ events) old new are still turns available = absurd are
  all_done [] (reply ∷ replies) tolds events old new are still turns available = absurd are
  all_done (message ∷ messages) [] tolds events old new are still turns available = absurd are
  all_done (message ∷ messages) (reply ∷ replies) tolds [] old new are still turns available =
      absurd are
  all_done (message ∷ messages) (reply ∷ replies) [] (event ∷ events) old new are still turns
      available = absurd turns
  all_done (message ∷ messages) (reply ∷ replies) (told ∷ tolds) (event ∷ events) old new are still
      turns available =
      done_then (untold_in event) (flat_map untold_in events) old turns.0 new
      (one_done message reply told event old turns.0 are.0 still.0 turns.1 available.0)
      (all_done messages replies tolds events turns.0 new are.1 still.1 turns.2 available.1)

  module _ {S O : Type 0} (t : LedgersMeaning S) (old mid new : S) (messages : List Message)
      (replies : List Reply) (told : O → List Reply) (Answered : Type 0)
      (finds :
      Finds t Answered
      (LeadsByRound (λ from (output : O) next. TakeTurns messages from (told output) next)) old mid)
      (same : t.is_live mid → KeepsAll (t.tenants old) (t.tenants mid))
      (each : MovesEach (run_meaning t) mid messages replies new)
      (lived : t.is_live mid → t.is_live old)
    where
      found_refused :
          (found : Tenants) → FoundAfterAll (run_meaning t) mid each.events new found →
          FoundAfterAll (run_meaning t) old each.events new found
      found_refused found (All_as_now live keeps) = All_as_now live keeps
      found_refused found (All_as_before still before) =
          elim (finds.found found before) [
            | inl earlier ↦ All_as_before still earlier
            | inr done ↦
                All_done [] each.events [] (t.tenants old) (sym (append-nil each.events))
                (subst (AllByRecursion IsStill) (sym (append-nil each.events)) still) done.0 refl
                (all_done messages replies (told done.1.0) each.events (t.tenants old) found
                each.are still done.1.1.respond done.1.1.available)
          ]
      found_refused found (All_done before round since last are still live happen done) =
          All_done before round since last are still (lived live)
          (subst (λ (from : Tenants). HappenInTurn from before last) (fun_ext (same live)) happen)
          done

      -- a round that is refused, and each message answered for itself
      pub refused_moves : MovesInRound (run_meaning t) old messages replies new
      refused_moves = record {
        respond = λ live.
            subst (λ (from : Tenants). RespondInTurn from messages replies (t.tenants new))
            (fun_ext (same (each.moves.lived live))) (each.respond live);
        lived = λ live. lived (each.moves.lived live);
        found = λ found may.
            (each.events, each.are, found_refused found (each.moves.found found may));
      }

-- each message gets the reply in its place
pub each_hears : EachHearsItsOwn
each_hears old new [] [] responds = tt
each_hears old new [] (reply ∷ replies) responds = absurd responds
each_hears old new (message ∷ messages) [] responds = absurd responds
each_hears old new (message ∷ messages) (reply ∷ replies) responds =
    ((old, responds.0, responds.1), each_hears responds.0 new messages replies responds.2)
