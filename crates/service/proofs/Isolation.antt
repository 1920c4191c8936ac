-- Two ledgers that agree on a tenant.
use Rattle.std.proofs.Common.{◌≡◌, ◌≢◌, ℕ, List, Option, Some, Result, Ok, Err, refl, sym, ap}
use Rattle.std.proofs.Common.{◌∙◌, subst}
use Rattle.httparse.specs.Grammar.{RequestHead}
use Rattle.sha2.specs.Sha256.{sha256}
use Rattle.records.specs.Machine.{Machine}
use Rattle.chain.specs.Ledgers.{Tenants}
use Rattle.ledger_http.specs.declared.early.Early.{Early}
use Rattle.ledger_http.specs.declared.early.Early.TheVariants.{Page, Health}
use Rattle.ledger_http.specs.declared.reply.Reply.{Reply}
use Rattle.ledger_http.specs.ReplyText.{early_text, reply_text}
use Rattle.ledger_http.specs.Message.{HasHead}
use Rattle.ledger_http.specs.Question.{Question, asked_of}
use Rattle.ledger_http.specs.Alone.{StandsAlone as IsAlone}
use Rattle.wire.specs.Asked.{meaning_in}
use Rattle.wire.specs.Told.{outcome_text}
use Rattle.service.specs.Served.{served_to}
use Rattle.service.specs.Replies.{unavailable}
use Rattle.service.specs.Responds.{AnswersAsked, Responds, IsAsking, IsCaller, AgreesOn}
use Rattle.service.specs.Responds.{EarlyTellsNothing, PageTellsNothing, HealthTellsNothing}
pub use Rattle.service.specs.ExchangeLaws.{HeadsAreUnique, answers_asked}

same_text :
    (asked : Result Question Early) (old new old' new' : Tenants) (moment : ℕ)
    (text text' : List ℕ) →
    AnswersAsked old new asked moment text → AnswersAsked old' new' asked moment text' →
    ((digest : List ℕ) → IsAsking asked digest → old digest ≡ old' digest) → text ≡ text'
same_text (Ok q) old new old' new' moment text text' a a' agree =
    a.told
    ∙ (ap
    (λ (tenant : Option Machine). outcome_text
    (served_to tenant (meaning_in q) moment).told)
    (agree (sha256 q.key) refl)
    ∙ sym a'.told)
same_text (Err early) old new old' new' moment text text' a a' agree = a.told ∙ sym a'.told

same_own :
    (asked : Result Question Early) (old new old' new' : Tenants) (moment : ℕ)
    (text text' : List ℕ) →
    AnswersAsked old new asked moment text → AnswersAsked old' new' asked moment text' →
    ((digest : List ℕ) → IsAsking asked digest → old digest ≡ old' digest) →
    (digest : List ℕ) → IsAsking asked digest → new digest ≡ new' digest
same_own (Ok q) old new old' new' moment text text' a a' agree digest is =
    ap new is
    ∙ (a.own
    ∙ (ap
    (λ (tenant : Option Machine). (served_to tenant (meaning_in q)
    moment).left)
    (agree (sha256 q.key) refl)
    ∙ (sym a'.own ∙ sym (ap new' is))))
same_own (Err early) old new old' new' moment text text' a a' agree digest is = absurd is

others_stay :
    (asked : Result Question Early) (old new : Tenants) (moment : ℕ) (text : List ℕ) →
    AnswersAsked old new asked moment text →
    (digest : List ℕ) → (IsAsking asked digest → ⊥) → new digest ≡ old digest
others_stay (Ok q) old new moment text a digest not_asking = a.others digest not_asking
others_stay (Err early) old new moment text a digest not_asking = a.same digest

asking_at :
    (bytes : List ℕ) (head : Option RequestHead) (digest : List ℕ) → HeadsAreUnique →
    HasHead bytes head → IsCaller bytes digest → IsAsking (asked_of bytes head) digest
asking_at bytes head digest unique has caller =
    subst (λ (h : Option RequestHead). IsAsking (asked_of bytes h) digest)
    (unique bytes caller.0 head caller.1 has) caller.2

pub isolated :
    HeadsAreUnique →
    (old new old' new' : Tenants) (bytes : List ℕ) (moment : ℕ) (reply reply' : Reply) →
    Responds old new bytes moment reply → Responds old' new' bytes moment reply' →
    ((digest : List ℕ) → IsCaller bytes digest → old digest ≡ old' digest) →
    reply ≢ unavailable → reply' ≢ unavailable →
    AgreesOn bytes old new old' new' reply reply'
isolated unique old new old' new' bytes moment reply reply' r r' agree ne ne' =
    let a : AnswersAsked old new (asked_of bytes r.head) moment (reply_text reply) = r.answered ne in
    let a' : AnswersAsked old' new' (asked_of bytes r.head) moment (reply_text reply') =
    answers_asked unique old' new' bytes r.head (asked_of bytes r.head) moment reply' r' r.has refl
    ne' in
    let agrees : (digest : List ℕ) → IsAsking (asked_of bytes r.head) digest → old digest ≡ old'
    digest =
    λ digest asking. agree digest (r.head, r.has, asking) in
    record {
      same_reply = same_text (asked_of bytes r.head) old new old' new' moment _ _ a a' agrees;
      same_machine = λ digest caller.
          same_own (asked_of bytes r.head) old new old' new' moment _ _ a a' agrees digest
          (asking_at bytes r.head digest unique r.has caller);
      others = λ digest not_caller.
          others_stay (asked_of bytes r.head) old new moment _ a digest
          (λ asking. not_caller (r.head, r.has, asking));
      others' = λ digest not_caller.
          others_stay (asked_of bytes r.head) old' new' moment _ a' digest
          (λ asking. not_caller (r.head, r.has, asking));
    }

early_tells_nothing : HeadsAreUnique → (early : Early) → EarlyTellsNothing early (early_text early)
early_tells_nothing unique early old new bytes head moment reply has asks r ne =
    let a = answers_asked unique old new bytes head (Err early) moment reply r has asks ne in
    (a.told, a.same)

pub page_tells_nothing : HeadsAreUnique → PageTellsNothing
page_tells_nothing unique = early_tells_nothing unique Page

pub health_tells_nothing : HeadsAreUnique → HealthTellsNothing
health_tells_nothing unique = early_tells_nothing unique Health

pub alone :
    HeadsAreUnique →
    (old new : Tenants) (unread message : List ℕ) (moment : ℕ) (reply : Reply) →
    IsAlone unread message → Responds old new message moment reply →
    Responds old new unread moment reply
alone unique old new unread message moment reply s r = record {
  head = Some s.head;
  has = s.unread_has;
  answered =
      answers_asked unique old new message (Some s.head) (asked_of unread (Some s.head)) moment
      reply r s.has s.same;
  same = r.same;
  whole = λ is. s.unread_whole;
}
