-- Replies that are begun.
use Rattle.std.proofs.Common.{◌≡◌, ◌≢◌, ◌∙◌, inl, inr, ℕ, List, Option, Some, None, Result, Ok, Err, IsOk, IfSome, refl, sym, ap, subst}
use Rattle.chain.specs.Ledgers.{Tenants, LedgersMeaning, Finds, KeepsAll}
use Rattle.ledger_http.specs.declared.early.Early.{Early}
use Rattle.httparse.specs.Grammar.{RequestHead}
use Rattle.ledger_http.specs.Message.{first_message}
use Rattle.ledger_http.specs.Question.{Question, asked_of}
use Rattle.ledger_http.proofs.MeaningLemmas.{one_head}
use Rattle.ledger_http.specs.ReplyText.{reply_text}
use Rattle.parts.specs.declared.rest.Rest.{Rest}
use Rattle.ledger_http.specs.declared.reply.Reply.{Reply}
use Rattle.wire.specs.declared.outcome.Outcome.{Outcome}
use Rattle.wire.specs.declared.request.Request.{Request}
use Rattle.service.specs.Begun.{reply_of, reply_with, whole}
use Rattle.service.specs.Deeds.{Asked, IsDeedDone}
use Rattle.service.specs.Replies.{Serves, unavailable}
use Rattle.service.specs.Responds.{AnswersAsked, IsQuestionAnswered, IsLeftBy, IsLeftByAsked, IsQuestion, Responds}
use Rattle.service.proofs.Responses.{early_of}
use Rattle.service.specs.declared.begun.Begun.{Begun}

-- what holds of a reply holds of it as one that is begun and whole
pub so_whole :
    (P : Reply → Type 0) (tenants : Tenants) (reply : Reply) (begun : Begun) → begun ≡ whole reply →
    P reply → P (reply_of tenants begun)
so_whole P tenants reply begun is holds =
    subst (λ (b : Begun). P (reply_of tenants b)) (sym is) holds

pub serves_whole :
    (old new : Tenants) (digest : List ℕ) (meaning : Result Request Outcome) (moment : ℕ)
    (reply : Reply) (begun : Begun) → begun ≡ whole reply →
    Serves old new digest meaning moment reply →
    Serves old new digest meaning moment (reply_of new begun)
serves_whole old new digest meaning moment = so_whole (Serves old new digest meaning moment) new

pub finds_whole :
    {S : Type 0} (t : LedgersMeaning S) (old new : S) (LeadsTo : Tenants → Tenants → Type 0)
    (reply : Reply) (begun : Begun) → begun ≡ whole reply →
    Finds t (reply ≢ unavailable) LeadsTo old new →
    Finds t (reply_of (t.tenants new) begun ≢ unavailable) LeadsTo old new
finds_whole t old new LeadsTo =
    so_whole (λ (r : Reply). Finds t (r ≢ unavailable) LeadsTo old new) (t.tenants new)

-- what holds wherever something is left
pub where_left :
    (rest : Option Rest) (P : Rest → Type 0) → ((r : Rest) → rest ≡ Some r → P r) → IfSome rest P
where_left None P holds = tt
where_left (Some r) P holds = holds r refl

-- where something is left the reply is not that the ledgers are unavailable
pub available_where_left :
    (tenants : Tenants) (begun : Begun) (r : Rest) → begun.rest ≡ Some r →
    reply_of tenants begun ≢ unavailable
available_where_left tenants begun r is told =
    absurd (let e = sym (ap (reply_with tenants begun.front) is) ∙ told in cc)

-- what was served is done
pub done_by :
    (old new : Tenants) (digest : List ℕ) (meaning : Result Request Outcome) (moment : ℕ)
    (reply : Reply) → Serves old new digest meaning moment reply → reply ≢ unavailable →
    IsDeedDone (Asked digest meaning moment) old new
done_by old new digest meaning moment reply serves available = record {
  may = tt;
  own = (serves.answered available).own;
  others = (serves.answered available).others;
}

left_on :
    (asked : Result Question Early) (moment : ℕ) (old mid new : Tenants) →
    IsLeftByAsked asked moment old mid → KeepsAll mid new → IsLeftByAsked asked moment old new
left_on (Ok question) moment old mid new left keeps = record {
  may = left.may;
  own = keeps _ ∙ left.own;
  others = λ other differs. keeps _ ∙ left.others other differs;
}
left_on (Err early) moment old mid new left keeps = left

answers_on :
    (asked : Result Question Early) (moment : ℕ) (old mid new : Tenants) (text more : List ℕ) →
    AnswersAsked old mid asked moment text → KeepsAll mid new → more ≡ text →
    AnswersAsked old new asked moment more
answers_on (Ok question) moment old mid new text more told keeps is = record {
  told = is ∙ told.told;
  own = keeps _ ∙ told.own;
  others = λ other differs. keeps other ∙ told.others other differs;
}
answers_on (Err early) moment old mid new text more told keeps is = record {
  told = is ∙ told.told;
  same = λ digest. keeps digest ∙ told.same digest;
}

-- a reply that is read to its end
module _ (old mid new : Tenants) (bytes : List ℕ) (moment : ℕ) (begun reply : Reply) where
  pub responds_on :
      Responds old mid bytes moment begun → begun ≢ unavailable → KeepsAll old mid →
      KeepsAll mid new → (reply ≢ unavailable → reply_text reply ≡ reply_text begun) →
      IsQuestion bytes → Responds old new bytes moment reply
  responds_on responds available same keeps text question = record {
    head = responds.head;
    has = responds.has;
    answered = λ ne.
        answers_on (asked_of bytes responds.head) moment old mid new (reply_text begun) (reply_text reply)
        (responds.answered available) keeps (text ne);
    same = λ is digest. keeps digest ∙ same digest;
    whole = λ u.
        let e = early_of bytes question.head question.question reply question.has question.is in
        subst (λ (h : Option RequestHead). IsOk (first_message bytes h))
        (one_head bytes e.head responds.head e.has responds.has) (e.whole u);
  }

pub finds_on_behind :
    {S : Type 0} (t : LedgersMeaning S) (old mid new : S) (bytes : List ℕ) (moment : ℕ)
    (begun reply : Reply) →
    Finds t (IsQuestionAnswered bytes begun) (IsLeftBy bytes moment) old mid →
    (t.is_live mid → t.is_live old) → (t.is_live mid → IsLeftBy bytes moment (t.tenants old) (t.tenants mid)) →
    Finds t (reply ≢ unavailable) KeepsAll mid new →
    Finds t (IsQuestionAnswered bytes reply) (IsLeftBy bytes moment) old new
finds_on_behind t old mid new bytes moment begun reply first lived left behind = record {
  found = λ found may. elim (behind.found found may) [
    | inl before ↦ first.found found before
    | inr led ↦
        let so = left led.0 in
        inr (lived led.0, (so.0, so.1, left_on (asked_of bytes so.0) moment (t.tenants old) (t.tenants mid) found so.2 led.1))
  ];
  live = λ answered found may. behind.live answered.available found may;
}
