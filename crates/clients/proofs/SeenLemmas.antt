-- What is answered at a point of a round.
use Rattle.std.proofs.Common.{append-nil, ◌≡◌, ◌≢◌, ◌⊎◌, inl, inr, refl, ap, sym, ◌∙◌, subst, ℕ, Bool, true, false}
use Rattle.std.proofs.Common.{List, [], ◌∷◌, ◌++◌, take, bytes_eq, Some, Result, Ok, if◌then◌else◌}
use Rattle.std.proofs.Math.Path.{fun_ext}
use Rattle.std.proofs.lemmas.Bool.{true≢false}
use Rattle.std.proofs.lemmas.Slice.Eq.{bytes_eq-Decides}
use Rattle.chain.specs.Ledgers.{LedgersMeaning, Tenants, KeepsAll, Finds}
use Rattle.ledger_http.specs.declared.early.Early.{Early}
use Rattle.ledger_http.specs.declared.reply.Reply.{Reply}
use Rattle.ledger_http.specs.ReplyText.{reply_text}
use Rattle.ledger_http.specs.Question.{Question}
use Rattle.service.specs.Connections.{connection, Connection, IsFirstAnswered, IsTurnedAway, LacksMemory}
use Rattle.service.specs.Connections.{IsCutOff, GoesOnAfter}
use Rattle.service.specs.Courses.{Replied}
use Rattle.service.specs.ExchangeLaws.{answers_asked, whole_of}
use Rattle.service.specs.Deeds.{asking, tenant_of, after_deed, IsDeedDone}
use Rattle.service.specs.Replies.{unavailable}
use Rattle.service.specs.Responds.{Responds, RefusesEarly, IsLeftBy, IsLeftByAsked}
use Rattle.service.specs.Responds as response
use Rattle.service.specs.Seen.{SeenAt, Whole, Within, seen}
use Rattle.clients.specs.Talk.{Talk}
use Rattle.clients.specs.Answering.{IsReplyReady}
use Rattle.clients.specs.Within.{replied_to, Asks, IsNextReady, after_asking, AnswersLeave, AreSeen}
use Rattle.clients.specs.Within.{HeadsAreUnique}
use Rattle.clients.specs.Within.{RepliesWithin, TellsUnavailable}
use Rattle.clients.proofs.ExchangeLemmas.{BeginsStay, answers_at}

-- a connection over ledgers, at a point where no round is open
abbrev pub seen_over : {S C : Type 0} → Connection S C → Connection (SeenAt S) C
seen_over old = record {
  ledgers = Whole old.ledgers;
  unread = old.unread;
  moments = old.moments;
  goes_on = old.goes_on;
}

cut_seen :
    {S C : Type 0} (Holds : List ℕ → Type 0) (most : List ℕ → ℕ) (old new : Connection S C) →
    IsCutOff Holds most old new → IsCutOff Holds most (seen_over old) (seen_over new)
cut_seen Holds most old new cut = record {
  first = cut.first;
  taken = cut.taken;
  ledgers = ap Whole cut.ledgers;
  moments = cut.moments;
  ends = cut.ends;
}

module _ {S C : Type 0} (t : LedgersMeaning S) (gives : C → ℕ → C → Type 0) where
  seen_by :
      (old new : Connection S C) (reply : Reply) →
      IsFirstAnswered t gives old reply new ⊎ (IsTurnedAway old reply new ⊎ LacksMemory old reply new) →
      IsFirstAnswered (seen t) gives (seen_over old) reply (seen_over new)
      ⊎ (IsTurnedAway (seen_over old) reply (seen_over new)
      ⊎ LacksMemory (seen_over old) reply (seen_over new))
  seen_by old new reply (inl answered) =
      inl (record {
        message = answered.message;
        moment = answered.moment;
        first = answered.first;
        given = answered.given;
        responds = answered.responds;
        early = answered.early;
        finds = record { found = answered.finds.found; live = answered.finds.live };
        follows = answered.follows;
        goes_on = answered.goes_on;
      })
  seen_by old new reply (inr (inl away)) =
      inr (inl (record {
        refusal = away.refusal;
        told = away.told;
        early = away.early;
        cut = cut_seen _ _ old new away.cut;
      }))
  seen_by old new reply (inr (inr lacks)) =
      inr (inr (record { told = lacks.told; cut = cut_seen _ _ old new lacks.cut }))

  pub are_seen : AreSeen t gives
  are_seen ledgers ledgers_now moments moments_now old new reply has = record {
    exchange = λ later may.
        let exchange = has.exchange later may in
        record {
          open_before = exchange.open_before;
          by =
              seen_by (connection ledgers (Some (old.unread.bytes ++ later)) moments true)
              (connection ledgers_now (Some (new.unread.bytes ++ later)) moments_now new.goes_on)
              reply exchange.by;
        };
    unsent = has.unsent;
    held = has.held;
    ended = has.ended;
  }

-- nothing that asks is refused early
early_of :
    (bytes : List ℕ) (question : Question) (reply : Reply) → Asks bytes question →
    RefusesEarly bytes reply
early_of bytes question reply asks = record {
  head = asks.0;
  has = asks.1;
  refused = λ refusal no available. absurd (let e = sym asks.2 ∙ no in cc);
  whole = λ u. whole_of bytes asks.0 question asks.2;
}

after_own :
    (own : Bool) (old : Tenants) (question : Question) (moment : ℕ) (digest : List ℕ) →
    bytes_eq (tenant_of (asking question moment)) digest ≡ own → tenant_of (asking question moment) ≡ digest →
    (if own then after_deed (asking question moment) (old digest) else old digest)
    ≡ after_deed (asking question moment) (old (tenant_of (asking question moment)))
after_own true old question moment digest is same =
    ap (λ (d : List ℕ). after_deed (asking question moment) (old d)) (sym same)
after_own false old question moment digest is same =
    absurd (true≢false (sym ((bytes_eq-Decides (tenant_of (asking question moment)) digest).1 same) ∙ is))

after_other :
    (own : Bool) (old : Tenants) (question : Question) (moment : ℕ) (digest : List ℕ) →
    bytes_eq (tenant_of (asking question moment)) digest ≡ own → digest ≢ tenant_of (asking question moment) →
    (if own then after_deed (asking question moment) (old digest) else old digest) ≡ old digest
after_other true old question moment digest is differ =
    absurd (differ (sym ((bytes_eq-Decides (tenant_of (asking question moment)) digest).0 is)))
after_other false old question moment digest is differ = refl

-- the deed that a question asks for is done, and no other
asking_done :
    (old found : Tenants) (question : Question) (moment : ℕ) →
    KeepsAll (after_asking question moment old) found → IsDeedDone (asking question moment) old found
asking_done old found question moment keeps =
    let key = tenant_of (asking question moment) in
    record {
      may = tt;
      own = keeps key ∙ after_own (bytes_eq key key) old question moment key refl refl;
      others = λ other differ.
          keeps other ∙ after_other (bytes_eq key other) old question moment other refl differ;
    }

after_by :
    (own : Bool) (old new : Tenants) (question : Question) (moment : ℕ) (digest : List ℕ) →
    bytes_eq (tenant_of (asking question moment)) digest ≡ own → IsDeedDone (asking question moment) old new →
    new digest ≡ (if own then after_deed (asking question moment) (old digest) else old digest)
after_by true old new question moment digest is done =
    let same = (bytes_eq-Decides (tenant_of (asking question moment)) digest).0 is in
    sym (ap new same) ∙ (done.own
    ∙ ap (λ (d : List ℕ). after_deed (asking question moment) (old d)) same)
after_by false old new question moment digest is done =
    done.others digest (λ same.
    true≢false (sym ((bytes_eq-Decides (tenant_of (asking question moment)) digest).1 (sym same)) ∙ is))

pub answers_leave : HeadsAreUnique → AnswersLeave
answers_leave unique old new bytes question moment reply asks responds available =
    let answers =
    answers_asked unique old new bytes asks.0 (Ok question) moment reply responds asks.1 asks.2
    available in
    fun_ext (λ digest.
    after_by (bytes_eq (tenant_of (asking question moment)) digest) old new question moment digest refl
    (record { may = tt; own = answers.own; others = answers.others }))

-- a message that is ready gets this reply
ready_replied :
    {S C : Type 0} (t : LedgersMeaning S) (gives : C → ℕ → C → Type 0) → BeginsStay →
    (ledgers ledgers_now : S) (moments moments_now : C) (talk : Talk) (size moment : ℕ)
    (question : Question) (goes_on : Bool) (reply : Reply) → IsNextReady talk size question →
    GoesOnAfter (take size talk.unread.bytes) goes_on →
    gives moments moment moments_now →
    (t.is_live ledgers_now →
    Responds (t.tenants ledgers) (t.tenants ledgers_now) (take size talk.unread.bytes) moment
    reply) →
    Finds t (response.IsQuestionAnswered (take size talk.unread.bytes) reply)
    (IsLeftBy (take size talk.unread.bytes) moment) ledgers ledgers_now →
    t.follows ledgers ledgers_now →
    IsReplyReady t gives ledgers moments talk reply ledgers_now moments_now
    (replied_to size goes_on reply talk)
ready_replied t gives stays ledgers ledgers_now moments moments_now talk size moment question goes_on
    reply ready going given responds finds follows = record {
      exchange =
          answers_at t gives ledgers ledgers_now moments moments_now talk.unread size moment reply
          goes_on going stays ready.whole given responds
          (early_of (take size talk.unread.bytes) question reply ready.asks) finds follows;
      unsent = append-nil (reply_text reply);
      held = tt;
      ended = refl;
    }

pub replies_within :
    {S C : Type 0} (t : LedgersMeaning S) (gives : C → ℕ → C → Type 0) → BeginsStay →
    RepliesWithin t gives
replies_within t gives stays ledgers machines moments moments_now talk size question moment goes_on
    reply ready going given follows responds =
    ready_replied (seen t) gives stays (Within ledgers machines)
    (Within ledgers (after_asking question moment machines)) moments moments_now talk size moment
    question goes_on reply ready going given responds
    (record {
      found = λ found may.
          inr (
            may.0,
            (
              ready.asks.0,
              ready.asks.1,
              subst
                  (λ (asked : Result Question Early). IsLeftByAsked asked moment machines found)
                  (sym ready.asks.2) (asking_done machines found question moment may.1),
            ),
          );
      live = λ answered found may. may.0;
    })
    follows

pub tells_unavailable :
    {S C : Type 0} (t : LedgersMeaning S) (gives : C → ℕ → C → Type 0) → BeginsStay →
    TellsUnavailable t gives
unfolding ready_replied answers_at early_of
tells_unavailable t gives stays ledgers moments moments_now talk size question moment goes_on ready
    going given follows = (
      ready_replied t gives stays ledgers ledgers moments moments_now talk size moment question
          goes_on unavailable ready going given
          (λ live. record {
            head = ready.asks.0;
            has = ready.asks.1;
            answered = λ available. absurd (available refl);
            same = λ u digest. refl;
            whole = λ u. whole_of (take size talk.unread.bytes) ready.asks.0 question ready.asks.2;
          })
          (record {
            found = λ found may. inl may;
            live = λ answered found may. absurd (answered.available refl);
          })
          follows,
      ap
          (λ (asked : Result Question Early).
          Replied asked moment unavailable ∷ [])
          ready.asks.2,
    )
