-- What stands first in what has come is answered, whatever comes later.
use Rattle.std.proofs.Common.{◌≡◌, ◌≢◌, ◌⊎◌, ⊎_elim, inl, inr, refl, ap, sym, ◌∙◌, subst, ℕ, Bool, true, false, List, ◌++◌, take, drop, Option, Some, None, IfSome, arith}
use Rattle.std.proofs.lemmas.List.{append-nil}
use Rattle.chain.specs.Ledgers.{LedgersMeaning, Finds, Tenants}
use Rattle.ledger_http.specs.declared.refusal.Refusal.{Refusal}
use Rattle.ledger_http.specs.declared.refusal.Refusal.TheVariants.{Truncated}
use Rattle.ledger_http.specs.declared.reply.Reply.{Reply}
use Rattle.ledger_http.specs.declared.reply.Reply.TheVariants.{Fixed}
use Rattle.ledger_http.specs.ReplyText.{reply_text}
use Rattle.ledger_http.specs.Message.{Begins, IsRefused, IsAnnounced, head_size, refused_size}
use Rattle.ledger_http.specs.Unread.{Unread, without, IsWhole}
use Rattle.parts.specs.Parts.{chunks_left}
use Rattle.parts.specs.declared.rest.Rest.{Rest}
use Rattle.service.specs.Begun.{reply_of, reply_with}
use Rattle.service.specs.declared.begun.Begun.{Begun}
use Rattle.service.specs.Connections.{IsCutOff, GoesOnAfter, connection}
use Rattle.service.specs.Replies.{unavailable}
use Rattle.service.specs.Responds.{Responds, RefusesEarly, IsQuestionAnswered, IsLeftBy, IsLeftSame}
use Rattle.clients.specs.Talk.{Talk}
use Rattle.clients.specs.Calls.{AnswersOn}
use Rattle.clients.specs.Answering.{AreHeld, MayCome, IsExchange, IsUnmoved, IsReplyReady, TellsGivenUp}

-- what comes later changes nothing of the first message
abbrev pub BeginsStay : Type 0
BeginsStay =
    (unread message rest later : List ℕ) → Begins unread message (Some rest)
    → Begins (unread ++ later) message (Some (rest ++ later))

-- nor of why it is refused
abbrev pub RefusedStays : Type 0
RefusedStays =
    (unread later : List ℕ) (refusal : Refusal) → IsRefused unread refusal → refusal ≢ Truncated
    → IsRefused (unread ++ later) refusal

-- what is known of these bytes is known of the bytes that are unread
pub at_known :
    (A : List ℕ → Type 0) (bytes : List ℕ) → A bytes → (unread : List ℕ) →
    Some bytes ≡ Some unread → A unread
at_known A bytes here unread known = let same : bytes ≡ unread = cc in subst A same here

-- a message that is whole is answered
unfoldable pub answers_at :
    {S C : Type 0} (t : LedgersMeaning S) (gives : C → ℕ → C → Type 0) (ledgers ledgers_now : S)
    (moments moments_now : C) (old : Unread) (size moment : ℕ) (reply : Reply)
    (goes_on : Bool) → GoesOnAfter (take size old.bytes) goes_on →
    BeginsStay → IsWhole old.bytes size → gives moments moment moments_now →
    (t.is_live ledgers_now →
    Responds (t.tenants ledgers) (t.tenants ledgers_now) (take size old.bytes) moment reply) →
    RefusesEarly (take size old.bytes) reply →
    Finds t (IsQuestionAnswered (take size old.bytes) reply) (IsLeftBy (take size old.bytes) moment) ledgers
    ledgers_now →
    t.follows ledgers ledgers_now →
    IsExchange t gives ledgers moments old reply ledgers_now moments_now (without size old) goes_on
answers_at t gives ledgers ledgers_now moments moments_now old size moment reply goes_on going stays whole given responds early finds follows later may =
    record {
      open_before = refl;
      by = inl (record {
        message = take size old.bytes;
        moment = moment;
        first =
            at_known (λ (unread : List ℕ). Begins unread (take size old.bytes) (Some (drop size old.bytes ++ later)))
            (old.bytes ++ later)
            (stays old.bytes (take size old.bytes) (drop size old.bytes) later whole.begins);
        given = given;
        responds = responds;
        early = early;
        finds = finds;
        follows = follows;
        goes_on = going;
      });
    }

-- the first message is answered, and taken
pub answers_whole :
    {S C : Type 0} (t : LedgersMeaning S) (gives : C → ℕ → C → Type 0) (ledgers ledgers_now : S)
    (moments moments_now : C) (old same now : Unread) (message : List ℕ) (size moment : ℕ)
    (goes_on : Bool) (reply : Reply) →
    GoesOnAfter message goes_on →
    BeginsStay → same ≡ old → now ≡ without size same → message ≡ take size same.bytes →
    IsWhole old.bytes size → gives moments moment moments_now →
    (t.is_live ledgers_now →
    Responds (t.tenants ledgers) (t.tenants ledgers_now) message moment reply) →
    RefusesEarly message reply →
    Finds t (IsQuestionAnswered message reply) (IsLeftBy message moment) ledgers ledgers_now →
    t.follows ledgers ledgers_now →
    IsExchange t gives ledgers moments old reply ledgers_now moments_now now goes_on
    × (now.ended ≡ old.ended)
answers_whole t gives ledgers ledgers_now moments moments_now old same now message size moment goes_on reply going stays is taken front whole given responds early finds follows =
    let first : message ≡ take size old.bytes =
    front ∙ ap (λ (unread : Unread). take size unread.bytes) is in
    let left : now ≡ without size old = taken ∙ ap (λ (unread : Unread). without size unread) is in (
      subst
          (λ (unread : Unread).
          IsExchange t gives ledgers moments old reply ledgers_now moments_now unread goes_on)
          (sym left)
          (answers_at t gives ledgers ledgers_now moments moments_now old size moment reply goes_on
          (subst (λ (bytes : List ℕ). GoesOnAfter bytes goes_on) first going)
          stays whole given
          (λ live.
          subst
          (λ (bytes : List ℕ).
          Responds (t.tenants ledgers) (t.tenants ledgers_now) bytes moment reply)
          first (responds live))
          (subst (λ (bytes : List ℕ). RefusesEarly bytes reply) first early)
          (subst
          (λ (bytes : List ℕ).
          Finds t (IsQuestionAnswered bytes reply) (IsLeftBy bytes moment) ledgers ledgers_now)
          first finds)
          follows),
      ap (λ (unread : Unread). unread.ended) left,
    )

-- a connection that is cut off, of which nothing is taken
cut_off_untaken :
    {S C : Type 0} (Holds : List ℕ → Type 0) (most : List ℕ → ℕ) (ledgers : S) (moments : C)
    (bytes : List ℕ) → Holds bytes →
    IsCutOff Holds most (connection ledgers (Some bytes) moments true)
    (connection ledgers (Some bytes) moments false)
cut_off_untaken Holds most ledgers moments bytes holds = record {
  first = at_known Holds bytes holds;
  taken = λ unread known. (0, omega arith, known);
  ledgers = refl;
  moments = refl;
  ends = refl;
}

is_cut_short : (refusal : Refusal) → (refusal ≡ Truncated) ⊎ (refusal ≢ Truncated)
is_cut_short Truncated = inl refl
is_cut_short refusal = inr (λ (same : refusal ≡ Truncated). cc)

refused_with_later : (old : Unread) (refusal : Refusal) (later : List ℕ) → RefusedStays →
    IsRefused old.bytes refusal → (refusal ≡ Truncated → old.ended ≡ true) → MayCome old later →
    IsRefused (old.bytes ++ later) refusal
refused_with_later old refusal later stays refused ended may =
    ⊎_elim
    (λ (cut : refusal ≡ Truncated).
    subst (λ bytes. IsRefused bytes refusal)
    (sym (ap (λ more. old.bytes ++ more) (may (ended cut)) ∙ append-nil old.bytes)) refused)
    (λ (other : refusal ≢ Truncated). stays old.bytes later refusal refused other)
    (is_cut_short refusal)

refused_at :
    {S C : Type 0} (t : LedgersMeaning S) (gives : C → ℕ → C → Type 0) (ledgers : S) (moments : C)
    (old : Unread) (refusal : Refusal) →
    RefusedStays → IsRefused old.bytes refusal → (refusal ≡ Truncated → old.ended ≡ true) →
    IsExchange t gives ledgers moments old (Fixed refusal) ledgers moments old false
refused_at t gives ledgers moments old refusal stays refused ended later may =
    record {
      open_before = refl;
      by = inr (inl (record {
        refusal = refusal;
        told = refl;
        early = refused.early;
        cut =
            cut_off_untaken (λ (unread : List ℕ). IsRefused unread refusal)
            (λ (unread : List ℕ). refused_size unread refusal) ledgers moments (old.bytes ++ later)
            (refused_with_later old refusal later stays refused ended may);
      }));
    }

-- what stands first is refused, and nothing is taken
pub answers_refused :
    {S C : Type 0} (t : LedgersMeaning S) (gives : C → ℕ → C → Type 0) (ledgers : S) (moments : C)
    (old now : Unread) (refusal : Refusal) →
    RefusedStays → now ≡ old →
    IsRefused old.bytes refusal × (refusal ≡ Truncated → old.ended ≡ true) →
    IsExchange t gives ledgers moments old (Fixed refusal) ledgers moments now false
    × (now.ended ≡ old.ended)
answers_refused t gives ledgers moments old now refusal stays same refused = (
  subst
      (λ (unread : Unread).
      IsExchange t gives ledgers moments old (Fixed refusal) ledgers moments unread false)
      (sym same)
      (refused_at t gives ledgers moments old refusal stays refused.0 refused.1),
  ap (λ (unread : Unread). unread.ended) same,
)

-- what is put of a reply that is begun, and what is left of it, is the reply
pub put_whole :
    (tenants : Tenants) (begun : Begun) (unsent : List ℕ) → unsent ≡ reply_text begun.front →
    unsent ++ chunks_left tenants begun.rest ≡ reply_text (reply_of tenants begun)
put_whole tenants begun unsent put =
    ap (λ (bytes : List ℕ). bytes ++ chunks_left tenants begun.rest) put ∙ at begun.rest
  where
    at : (rest : Option Rest) →
        reply_text begun.front ++ chunks_left tenants rest ≡ reply_text (reply_with tenants begun.front rest)
    at None = append-nil (reply_text begun.front)
    at (Some rest) = refl

-- what is held of a statement that is begun
pub held_so :
    {S : Type 0} (t : LedgersMeaning S) (bytes : List ℕ) (moment : ℕ) (old : Tenants) (ledgers : S)
    (rest : Option Rest) →
    IfSome rest (λ rest. t.is_live ledgers → IsLeftSame bytes moment old (t.tenants ledgers) rest) →
    AreHeld t ledgers rest
held_so t bytes moment old ledgers None left = tt
held_so t bytes moment old ledgers (Some rest) left = λ live. (left live).1.1

abbrev pub talk_of : Unread → List ℕ → Option Rest → Bool → Talk
talk_of unread unsent rest goes_on =
    record { unread = unread; unsent = unsent; rest = rest; goes_on = goes_on }

-- the same as the client sees it, whose fields these are
pub has_replied :
    {S C : Type 0} (t : LedgersMeaning S) (gives : C → ℕ → C → Type 0) (ledgers ledgers_now : S)
    (moments moments_now : C) (old : Talk) (inbox now : Unread) (outbox unsent : List ℕ)
    (rest rest_now : Option Rest) (goes_on : Bool) (reply : Reply) (goes_on_now : Bool) →
    talk_of inbox outbox rest goes_on ≡ old →
    unsent ++ chunks_left (t.tenants ledgers_now) rest_now ≡ reply_text reply →
    AreHeld t ledgers_now rest_now →
    IsExchange t gives ledgers moments inbox reply ledgers_now moments_now now goes_on_now
    × (now.ended ≡ inbox.ended) →
    IsReplyReady t gives ledgers moments old reply ledgers_now moments_now
    (talk_of now unsent rest_now goes_on_now)
has_replied t gives ledgers ledgers_now moments moments_now old inbox now outbox unsent rest rest_now goes_on reply goes_on_now is put held exchanged =
    let first : inbox ≡ old.unread = ap (λ (talk : Talk). talk.unread) is in
    record {
      exchange =
          subst
          (λ (unread : Unread).
          IsExchange t gives ledgers moments unread reply ledgers_now moments_now now goes_on_now)
          first exchanged.0;
      unsent = put;
      held = held;
      ended = exchanged.1 ∙ ap (λ (unread : Unread). unread.ended) first;
    }

-- nothing is answered
pub stays_unmoved :
    {S C : Type 0} (t : LedgersMeaning S) (P : Unread → Type 0) (ledgers : S) (moments : C)
    (old new : Unread) → t.follows ledgers ledgers → new ≡ old → P old →
    AnswersOn t ledgers ledgers (IsUnmoved ledgers moments old ledgers moments new × P old)
stays_unmoved t P ledgers moments old new follows same is = record {
  answers = (record { ledgers_same = refl; moments_same = refl; same = same }, is);
  follows = follows;
}

pub is_unmoved :
    {S C : Type 0} (t : LedgersMeaning S) (P : Unread → Type 0) (ledgers ledgers_now : S) (moments moments_now : C)
    (old : Talk) (inbox now : Unread) (outbox : List ℕ) (rest : Option Rest) (goes_on : Bool) →
    talk_of inbox outbox rest goes_on ≡ old →
    AnswersOn t ledgers ledgers_now
    (IsUnmoved ledgers moments inbox ledgers_now moments_now now × P inbox) →
    AnswersOn t ledgers ledgers_now
    (IsUnmoved {T = Talk} ledgers moments old ledgers_now moments_now
    (talk_of now outbox rest goes_on)
    × P old.unread)
is_unmoved t P ledgers ledgers_now moments moments_now old inbox now outbox rest goes_on is unmoved = record {
  answers = (
    record {
      ledgers_same = unmoved.answers.0.ledgers_same;
      moments_same = unmoved.answers.0.moments_same;
      same =
          ap (λ (unread : Unread). talk_of unread outbox rest goes_on) unmoved.answers.0.same ∙ is;
    },
    subst P (ap (λ (talk : Talk). talk.unread) is) unmoved.answers.1,
  );
  follows = unmoved.follows;
}

-- a message that is announced is announced whatever comes later
abbrev pub AnnouncedStays : Type 0
AnnouncedStays = (unread later : List ℕ) → IsAnnounced unread → IsAnnounced (unread ++ later)

pub gives_up :
    {S C : Type 0} (t : LedgersMeaning S) (gives : C → ℕ → C → Type 0) → AnnouncedStays →
    TellsGivenUp t gives
gives_up t gives stays ledgers moments talk announced = record {
  exchange = λ later may. record {
    open_before = refl;
    by = inr (inr (record {
      told = refl;
      cut =
          cut_off_untaken IsAnnounced head_size ledgers moments (talk.unread.bytes ++ later)
          (stays talk.unread.bytes later announced);
    }));
  };
  unsent = append-nil (reply_text unavailable);
  held = tt;
  ended = refl;
}
