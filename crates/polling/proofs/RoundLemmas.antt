-- Replies of a round that was kept.
use Rattle.std.proofs.Common.{◌≡◌, ◌⊎◌, ◌+◌, inl, inr, refl, ap, sym, ◌∙◌, subst, ℕ, Bool, false, List, [], ◌∷◌, take}
use Rattle.std.proofs.Common.{Option, Some, IfSome, arith, ◌<◌, ◌≤◌, length, drop, slice_index_or}
use Rattle.std.proofs.lemmas.List.{at_drop_more, at_drop_all}
use Rattle.chain.specs.Ledgers.{LedgersMeaning, Tenants}
use Rattle.ledger_http.specs.declared.reply.Reply.{Reply}
use Rattle.ledger_http.specs.Question.{Question}
use Rattle.ledger_http.specs.ReplyText.{reply_text}
use Rattle.service.specs.declared.turns.Message.{Message}
use Rattle.service.specs.Responds.{Responds}
use Rattle.service.specs.Seen.{Whole, Within}
use Rattle.service.specs.Turns.{RespondsTo, RespondInTurn, TakeTurns}
use Rattle.service.specs.Connections.{GoesOnAfter}
use Rattle.clients.specs.Talk.{Talk}
use Rattle.clients.specs.Within.{replied_to, Asks, after_asking, AnswersLeave, RepliesWithin}
use Rattle.polling.specs.Peers.{Doing, Handed}
use Rattle.polling.specs.Serving.{rules}
use Rattle.polling.specs.Seating.{SeatsNow, held, ServesEach}
use Rattle.polling.specs.Round.{IsCopyOf, IsNoneOf, IsHandedTo, IsPutTo, AreCopied, moments_of, AreToBePut, ArePut}
use Rattle.polling.specs.declared.round.Member.{Member}
use Rattle.polling.proofs.OneLemmas.{replied}
use Rattle.polling.proofs.AllLemmas.{then_each, none_served}
use Rattle.polling.proofs.SeatLemmas.{served_at}
use Rattle.polling.proofs.RestLemmas.{rests_all}

-- what one client is put does not touch the messages of others
pub copied_still :
    (seats seats_now : ℕ → Option Talk) (number : ℕ) (seat : Option Talk) (members : List Member)
    (messages : List Message) → SeatsNow number seat seats seats_now → IsNoneOf number members →
    AreCopied seats members messages → AreCopied seats_now members messages
copied_still seats seats_now number seat [] [] now none copied = tt
copied_still seats seats_now number seat [] (message ∷ messages) now none copied = absurd copied
copied_still seats seats_now number seat (member ∷ members) [] now none copied = absurd copied
copied_still seats seats_now number seat (member ∷ members) (message ∷ messages) now none copied = (
  (copied.0.0, now.1 member.number none.0 ∙ copied.0.1, copied.0.2),
  copied.1,
  copied_still seats seats_now number seat members messages now none.1 copied.2,
)

pub none_left :
    (seats : ℕ → Option Talk) (messages : List Message) → AreCopied seats [] messages →
    messages ≡ []
none_left seats [] copied = refl
none_left seats (message ∷ messages) copied = absurd copied

-- the member at an index
pub member_here :
    (items members : List Member) (i : ℕ) (d : Member) → items ≡ members → i < length items →
    drop i members ≡ slice_index_or items i d ∷ drop (i + 1) members
member_here items members i d are below =
    subst
    (λ (ms : List Member). drop i ms ≡ slice_index_or items i d ∷ drop (i + 1) ms) are
    (at_drop_more (λ (ms : List Member). ms) items i d below)

-- behind the last
pub nobody_here :
    (items members : List Member) (i : ℕ) → items ≡ members → length items ≤ i →
    drop i members ≡ []
nobody_here items members i are beyond =
    subst (λ (ms : List Member). drop i ms ≡ []) are
    (at_drop_all (λ (ms : List Member). ms) items i beyond)

-- its message is there
pub fits_here :
    (seats : ℕ → Option Talk) (before : List Member) (member : Member) (members : List Member)
    (left : List Message) → before ≡ member ∷ members → AreCopied seats before left →
    IfSome (seats member.number) (λ talk. member.size ≤ length talk.unread.bytes)
fits_here seats before member members [] here copied =
    absurd (subst (λ (ms : List Member). AreCopied seats ms []) here copied)
fits_here seats before member members (message ∷ left) here copied =
    let first = subst (λ (ms : List Member). AreCopied seats ms (message ∷ left)) here copied in
    subst
    (λ (seat : Option Talk). IfSome seat (λ talk. member.size ≤ length talk.unread.bytes))
    (sym first.0.1) first.0.2.ready.whole.within

-- a client was put this reply to its message, and the messages of the others are as they were
pub record WasNext (member : Member) (members : List Member) (message : Message)
    (left : List Message) (reply : Reply) (seats seats_now : ℕ → Option Talk) : Type 0 where
  pub talk : Talk
  pub goes_on : Bool
  pub was : seats member.number ≡ Some talk
  pub going : GoesOnAfter (take member.size talk.unread.bytes) goes_on
  pub now :
      SeatsNow member.number (Some (replied_to member.size goes_on reply talk)) seats seats_now
  pub copy : IsCopyOf talk member.size message.bytes.items
  pub asks : Asks message.bytes.items copy.question
  pub copied : AreCopied seats_now members left

pub was_next :
    (member : Member) (members : List Member) (message : Message) (left : List Message)
    (reply : Reply) (seats seats_now : ℕ → Option Talk) →
    AreCopied seats (member ∷ members) (message ∷ left) → IsPutTo member reply seats seats_now →
    WasNext member members message left reply seats seats_now
was_next member members message left reply seats seats_now copied put =
    let talk = copied.0.0 in
    let copy = copied.0.2 in
    let talked = put talk copied.0.1 in
    let goes_on = talked.1.0 in
    let now =
    subst (λ (talk : Talk). SeatsNow member.number (Some talk) seats seats_now) talked.1.2 talked.2 in
    record {
      talk = talk;
      goes_on = goes_on;
      was = copied.0.1;
      going = talked.1.1;
      now = now;
      copy = copy;
      asks = subst (λ (bytes : List ℕ). Asks bytes copy.question) (sym copy.copied) copy.ready.asks;
      copied =
          copied_still seats seats_now member.number
          (Some (replied_to member.size goes_on reply talk)) members left now copied.1 copied.2;
    }

-- what was handed over was put
pub put_by :
    {P : Type 0} (does : P → Doing → P → Type 0) (member : Member) (reply : Reply)
    (peers peers_now : P) (seats seats_now : ℕ → Option Talk) →
    IsHandedTo does member reply peers seats peers_now seats_now → IsPutTo member reply seats seats_now
put_by does member reply peers peers_now seats seats_now handed talk was =
    let all = handed talk was in (all.0, all.1, all.2)

-- and the whole reply was handed over
pub whole_handed :
    {P : Type 0} (does : P → Doing → P → Type 0) (member : Member) (members : List Member)
    (message : Message) (left : List Message) (reply : Reply) (peers peers_now : P)
    (seats seats_now : ℕ → Option Talk) → AreCopied seats (member ∷ members) (message ∷ left) →
    IsHandedTo does member reply peers seats peers_now seats_now →
    does peers (Handed member.number (reply_text reply)) peers_now
whole_handed does member members message left reply peers peers_now seats seats_now copied handed =
    let all = handed copied.0.0 copied.0.1 in
    subst (λ (now : Talk). does peers (Handed member.number now.unsent) peers_now) all.1.2 all.3

pub nothing_left : {X : Type 0} (xs : List X) (n : ℕ) → n ≡ length xs → n ≡ 0 → xs ≡ []
nothing_left [] n is none = refl
nothing_left (x ∷ xs) n is none = absurd (omega (arith, is, none))

-- the first of several turns leaves what its question leaves
turns_leave :
    AnswersLeave → (last machines : Tenants) (message : Message) (messages : List Message)
    (reply : Reply) (replies : List Reply) (question : Question) →
    Asks message.bytes.items question →
    TakeTurns (message ∷ messages) machines (reply ∷ replies) last →
    RespondsTo machines message reply (after_asking question message.moment machines)
    × TakeTurns messages (after_asking question message.moment machines) replies last
turns_leave leave last machines message messages reply replies question asks turns =
    let is =
    leave machines turns.respond.0 message.bytes.items question message.moment reply asks
    turns.respond.1 turns.available.0 in (
      subst (λ (mid : Tenants). RespondsTo machines message reply mid) is turns.respond.1,
      record {
        respond =
            subst (λ (mid : Tenants). RespondInTurn mid messages replies last) is turns.respond.2;
        available = turns.available.1;
      },
    )

-- where no message is left, or no reply, no turn is
turns_over :
    (last machines : Tenants) (messages : List Message) (replies : List Reply) →
    (messages ≡ []) ⊎ (replies ≡ []) → RespondInTurn machines messages replies last →
    last ≡ machines
turns_over last machines [] [] over same = same
turns_over last machines [] (reply ∷ replies) over none = absurd none
turns_over last machines (message ∷ messages) [] over none = absurd none
turns_over last machines (message ∷ messages) (reply ∷ replies) (inl over) responds = absurd (cc)
turns_over last machines (message ∷ messages) (reply ∷ replies) (inr over) responds = absurd (cc)

-- the replies so far were put and handed over, and these are left
pub record ArePutSoFar {S C P : Type 0} (t : LedgersMeaning S) (gives : C → ℕ → C → Type 0)
    (renews : Option ℕ → S → S → Type 0) (waits : List ℕ → Type 0) (does : P → Doing → P → Type 0) (messages : List Message)
    (replies : List Reply) (peers : P) (seats : ℕ → Option Talk) (members : List Member)
    (replies_left : List Reply) (peers_now : P) (seats_now : ℕ → Option Talk) (count : ℕ) : Type 0
  where
    pub left : List Message
    pub copied : AreCopied seats_now members left
    pub put :
        (ledgers : S) (machines : Tenants) (moments last : C) (next : ℕ)
        → t.follows ledgers ledgers
        → AreToBePut t gives ledgers last machines moments messages replies
        → (mid : Tenants)
        × (now : C)
        × ServesEach (rules t gives renews waits does)
        (held (Within ledgers machines) moments peers seats next)
        (held (Within ledgers mid) now peers_now seats_now next) count
        × AreToBePut t gives ledgers last mid now left replies_left

module _ {S C P : Type 0} (t : LedgersMeaning S) (gives : C → ℕ → C → Type 0)
    (renews : Option ℕ → S → S → Type 0) (waits : List ℕ → Type 0) (does : P → Doing → P → Type 0) where
  put_one_more :
      RepliesWithin t gives → (ledgers : S) (machines : Tenants) (moments moments_now : C)
      (peers peers_now : P) (seats seats_now : ℕ → Option Talk) (next : ℕ) (member : Member)
      (message : Message) (goes_on : Bool) (reply : Reply) (talk : Talk)
      (copy : IsCopyOf talk member.size message.bytes.items) → seats member.number ≡ Some talk →
      GoesOnAfter (take member.size talk.unread.bytes) goes_on →
      SeatsNow member.number (Some (replied_to member.size goes_on reply talk)) seats seats_now →
      t.follows ledgers ledgers → gives moments message.moment moments_now →
      (t.is_live ledgers →
      RespondsTo machines message reply (after_asking copy.question message.moment machines)) →
      does peers (Handed member.number (reply_text reply)) peers_now →
      ServesEach (rules t gives renews waits does)
      (held (Within ledgers machines) moments peers seats next)
      (held (Within ledgers (after_asking copy.question message.moment machines)) moments_now
      peers_now seats_now next) 1
  put_one_more within ledgers machines moments moments_now peers peers_now seats seats_now next member
      message goes_on reply talk copy was going now follows given responds handed =
      let r = rules t gives renews waits does in
      let before = Within ledgers machines in
      let behind = Within ledgers (after_asking copy.question message.moment machines) in
      let talk_now = replied_to member.size goes_on reply talk in
      served_at r member.number before behind moments moments_now peers peers_now seats seats_now
      next talk talk_now false 1 was now
      (replied copy.ready.may
      (within ledgers machines moments moments_now talk member.size copy.question message.moment
      goes_on reply copy.ready going given follows
      (λ live.
      subst
      (λ (bytes : List ℕ).
      Responds machines (after_asking copy.question message.moment machines) bytes message.moment
      reply)
      copy.copied (responds live)))
      (λ live found may. may.1) handed)

  -- one more is put
  put_more_of :
      AnswersLeave → RepliesWithin t gives → (messages : List Message) (replies : List Reply)
      (peers : P) (seats : ℕ → Option Talk) (member : Member) (members : List Member) (reply : Reply)
      (replies_left : List Reply) (peers_now peers_then : P)
      (seats_now seats_then : ℕ → Option Talk) (count : ℕ) (left : List Message) →
      (so_far :
      ArePutSoFar t gives renews waits does messages replies peers seats (member ∷ members)
      (reply ∷ replies_left) peers_now seats_now count) →
      so_far.left ≡ left → AreCopied seats_now (member ∷ members) left →
      IsHandedTo does member reply peers_now seats_now peers_then seats_then →
      ArePutSoFar t gives renews waits does messages replies peers seats members replies_left
      peers_then seats_then (count + 1)
  put_more_of leave within messages replies peers seats member members reply replies_left peers_now
      peers_then seats_now seats_then count [] so_far is copied now =
      absurd copied
  put_more_of leave within messages replies peers seats member members reply replies_left peers_now
      peers_then seats_now seats_then count (message ∷ left) so_far is copied now =
      let one =
      was_next member members message left reply seats_now seats_then copied
      (put_by does member reply peers_now peers_then seats_now seats_then now) in
      record {
        left = left;
        copied = one.copied;
        put = λ ledgers machines moments last next follows all.
            let so = so_far.put ledgers machines moments last next follows all in
            let mid = so.0 in
            let rest =
            subst
            (λ (ms : List Message).
            AreToBePut t gives ledgers last mid so.1 ms (reply ∷ replies_left))
            is so.3 in
            let behind = after_asking one.copy.question message.moment mid in (
              behind,
              rest.given.0,
              then_each (rules t gives renews waits does)
                  (held (Within ledgers machines) moments peers seats next)
                  (held (Within ledgers mid) so.1 peers_now seats_now next)
                  (held (Within ledgers behind) rest.given.0 peers_then seats_then next) count 1
                  (count + 1) refl so.2
                  (put_one_more within ledgers mid so.1 rest.given.0 peers_now peers_then seats_now
                  seats_then next member message one.goes_on reply one.talk one.copy one.was
                  one.going one.now follows rest.given.1
                  (λ live.
                  (turns_leave leave (t.tenants ledgers) mid message left reply replies_left
                  one.copy.question one.asks (rest.turns live)).0)
                  (whole_handed does member members message left reply peers_now peers_then seats_now
                  seats_then copied now)),
              record {
                given = rest.given.2;
                turns = λ live.
                    (turns_leave leave (t.tenants ledgers) mid message left reply replies_left
                    one.copy.question one.asks (rest.turns live)).1;
              },
            );
      }

  pub put_more :
      AnswersLeave → RepliesWithin t gives → (messages : List Message) (replies : List Reply)
      (peers : P) (seats : ℕ → Option Talk) (before : List Member) (member : Member)
      (members : List Member) (replies_before : List Reply) (reply : Reply)
      (replies_left : List Reply) (peers_now peers_then : P)
      (seats_now seats_then : ℕ → Option Talk) (count : ℕ) →
      before ≡ member ∷ members → replies_before ≡ reply ∷ replies_left →
      ArePutSoFar t gives renews waits does messages replies peers seats before replies_before
      peers_now seats_now count →
      IsHandedTo does member reply peers_now seats_now peers_then seats_then →
      ArePutSoFar t gives renews waits does messages replies peers seats members replies_left
      peers_then seats_then (count + 1)
  put_more leave within messages replies peers seats before member members replies_before reply
      replies_left peers_now peers_then seats_now seats_then count here next so_far now =
      let so =
      subst
      (λ (ms : List Member).
      ArePutSoFar t gives renews waits does messages replies peers seats ms (reply ∷ replies_left)
      peers_now seats_now count)
      here
      (subst
      (λ (rs : List Reply).
      ArePutSoFar t gives renews waits does messages replies peers seats before rs peers_now seats_now
      count)
      next so_far) in
      put_more_of leave within messages replies peers seats member members reply replies_left peers_now
      peers_then seats_now seats_then count so.left so refl so.copied now

  -- none is put yet
  pub put_none :
      (messages : List Message) (replies : List Reply) (peers : P) (seats : ℕ → Option Talk)
      (members : List Member) → AreCopied seats members messages →
      ArePutSoFar t gives renews waits does messages replies peers seats members replies peers seats 0
  put_none messages replies peers seats members copied = record {
    left = messages;
    copied = copied;
    put = λ ledgers machines moments last next follows all. (
      machines,
      moments,
      none_served,
      all,
    );
  }

  -- all are put
  pub put_over :
      (messages : List Message) (replies : List Reply) (peers : P) (seats : ℕ → Option Talk)
      (members : List Member) (replies_left : List Reply) (peers_now : P)
      (seats_now : ℕ → Option Talk) (count : ℕ)
      (so_far :
      ArePutSoFar t gives renews waits does messages replies peers seats members replies_left peers_now
      seats_now count) →
      (so_far.left ≡ []) ⊎ (replies_left ≡ []) →
      ArePut t gives renews waits does messages replies peers seats peers_now seats_now count
  put_over messages replies peers seats members replies_left peers_now seats_now count so_far over
      ledgers machines moments last next follows again all =
      let so = so_far.put ledgers machines moments last next follows all in
      then_each (rules t gives renews waits does) (held (Within ledgers machines) moments peers seats next)
      (held (Within ledgers so.0) so.1 peers_now seats_now next)
      (held (Whole ledgers) last peers_now seats_now next) count 0 count (omega arith) so.2
      (rests_all (rules t gives renews waits does) (Within ledgers so.0) (Whole ledgers) so.1 last
      (moments_of so_far.left) peers_now seats_now next
      (record {
        follows = follows;
        lived = λ live. live;
        same = λ live digest.
            ap (λ (machines : Tenants). machines digest)
            (turns_over (t.tenants ledgers) so.0 so_far.left replies_left over
            (so.3.turns live).respond);
        found = again;
      })
      so.3.given)
