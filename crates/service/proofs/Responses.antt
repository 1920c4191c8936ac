-- The response to what some bytes ask.
use Rattle.std.proofs.Common.{◌≡◌, ◌≢◌, ℕ, Bool, true, false, List, Option, Result, Ok, Err, IsOk, refl, sym, ap}
use Rattle.std.proofs.Common.{◌∙◌, subst}
use Rattle.httparse.specs.Grammar.{RequestHead}
use Rattle.sha2.specs.Sha256.{sha256}
use Rattle.chain.specs.Ledgers.{Tenants}
use Rattle.ledger_http.specs.declared.early.Early.{Early}
use Rattle.ledger_http.specs.declared.early.Early.TheVariants.{Page, Health, Refused}
use Rattle.ledger_http.specs.declared.refusal.Refusal.{Refusal}
use Rattle.ledger_http.specs.declared.refusal.Refusal.TheVariants.{Unavailable}
use Rattle.ledger_http.specs.declared.reply.Reply.{Reply}
use Rattle.ledger_http.specs.declared.request.Asked.{Asked}
use Rattle.ledger_http.specs.ReplyText.{early_reply, early_text, reply_text}
use Rattle.ledger_http.specs.Results.{and_then}
use Rattle.ledger_http.specs.Message.{First, HasHead, first_message}
use Rattle.ledger_http.specs.Question.{Question, as_early, question_in, asked_of}
use Rattle.wire.specs.Asked.{meaning_in}
use Rattle.service.specs.Replies.{Serves, unavailable, told_early}
use Rattle.service.specs.Responds.{AnswersAsked, Responds, RefusesEarly, TellsPage}
use Rattle.service.specs.Responds.{TellsHealth, TellsFailure}
use Rattle.service.specs.ExchangeLaws.{whole_of}

health_is_ok :
    (first : Result First Refusal) → and_then (as_early first) question_in ≡ Err Health → IsOk first
health_is_ok (Ok first) is = refl
health_is_ok (Err refusal) is = absurd (cc)

-- whoever asks for health sends a whole message
whole_health :
    (bytes : List ℕ) (head : Option RequestHead) → asked_of bytes head ≡ Err Health →
    IsOk (first_message bytes head)
unfolding asked_of
whole_health bytes head is = health_is_ok (first_message bytes head) is

-- a question that is answered
pub responds_to :
    (old new : Tenants) (bytes : List ℕ) (head : Option RequestHead) (question : Question)
    (moment : ℕ) (reply : Reply) →
    HasHead bytes head → asked_of bytes head ≡ Ok question →
    Serves old new (sha256 question.key)
    (meaning_in question) moment reply →
    Responds old new bytes moment reply
responds_to old new bytes head question moment reply has is serves = record {
  head = head;
  has = has;
  answered = λ ne.
      subst (λ (asked : Result Question Early). AnswersAsked old new asked moment (reply_text reply))
      (sym is) (serves.answered ne);
  same = serves.same;
  whole = λ u. whole_of bytes head question is;
}

-- who asks a question asks for nothing that is told before a tenant is looked up
module _ (bytes : List ℕ) (head : Option RequestHead) (question : Question) (reply : Reply)
    (has : HasHead bytes head) (is : asked_of bytes head ≡ Ok question) where
  not_early : (early : Early) → asked_of bytes head ≡ Err early → ⊥
  not_early early asks = let e = sym is ∙ asks in absurd (cc)

  pub early_of : RefusesEarly bytes reply
  early_of = record {
    head = head;
    has = has;
    refused = λ early asks ne. absurd (not_early early asks);
    whole = λ u. whole_of bytes head question is;
  }

  pub no_page : TellsPage bytes reply
  no_page = record { head = head; has = has; page = λ asks. absurd (not_early Page asks) }

  pub no_health : (has_failed : Bool) → TellsHealth has_failed bytes reply
  no_health has_failed =
      record { head = head; has = has; health = λ asks. absurd (not_early Health asks) }

is_unavailable : (early : Early) → early_reply early ≡ unavailable → early ≡ Refused Unavailable
is_unavailable Page is = absurd (cc)
is_unavailable Health is = absurd (cc)
is_unavailable (Refused refusal) is = cc

-- the same where it is not told that the ledgers have failed
responds_early :
    (tenants : Tenants) (bytes : List ℕ) (head : Option RequestHead) (early : Early) (moment : ℕ) →
    HasHead bytes head → (early ≢ Refused Unavailable → asked_of bytes head ≡ Err early) →
    (early ≡ Refused Unavailable → IsOk (first_message bytes head)) →
    Responds tenants tenants bytes moment (early_reply early)
responds_early tenants bytes head early moment has told whole = record {
  head = head;
  has = has;
  answered = λ ne.
      subst
      (λ (asked : Result Question Early). AnswersAsked tenants tenants asked moment (early_text early))
      (sym (told (λ is. ne (ap early_reply is)))) (record { told = refl; same = λ digest. refl });
  same = λ is digest. refl;
  whole = λ is. whole (is_unavailable early is);
}

early_telling :
    (bytes : List ℕ) (head : Option RequestHead) (early : Early) →
    HasHead bytes head → (early ≢ Refused Unavailable → asked_of bytes head ≡ Err early) →
    (early ≡ Refused Unavailable → IsOk (first_message bytes head)) →
    RefusesEarly bytes (early_reply early)
early_telling bytes head early has told whole = record {
  head = head;
  has = has;
  refused = λ other no ne.
      let e = sym (told (λ is. ne (ap early_reply is))) ∙ no in
      ap early_text (let same : early ≡ other = cc in same);
  whole = λ is. whole (is_unavailable early is);
}

-- what is told before any tenant is looked up
pub responds_told :
    (tenants : Tenants) (bytes : List ℕ) (has_failed : Bool) (head : Option RequestHead)
    (early : Early) (moment : ℕ) →
    HasHead bytes head → (early ≢ Refused Unavailable → asked_of bytes head ≡ Err early) →
    (early ≡ Refused Unavailable → IsOk (first_message bytes head)) →
    Responds tenants tenants bytes moment (told_early has_failed early)
responds_told tenants bytes true head Health moment has told whole = record {
  head = head;
  has = has;
  answered = λ ne. absurd (ne refl);
  same = λ is digest. refl;
  whole = λ is. whole_health bytes head (told (λ same. absurd (cc)));
}
responds_told tenants bytes false head Health moment has told whole =
    responds_early tenants bytes head Health moment has told whole
responds_told tenants bytes has_failed head Page moment has told whole =
    responds_early tenants bytes head Page moment has told whole
responds_told tenants bytes has_failed head (Refused refusal) moment has told whole =
    responds_early tenants bytes head (Refused refusal) moment has told whole

pub telling_told :
    (bytes : List ℕ) (has_failed : Bool) (head : Option RequestHead) (early : Early) →
    HasHead bytes head → (early ≢ Refused Unavailable → asked_of bytes head ≡ Err early) →
    (early ≡ Refused Unavailable → IsOk (first_message bytes head)) →
    RefusesEarly bytes (told_early has_failed early)
telling_told bytes true head Health has told whole = record {
  head = head;
  has = has;
  refused = λ other no ne. absurd (ne refl);
  whole = λ is. whole_health bytes head (told (λ same. absurd (cc)));
}
telling_told bytes false head Health has told whole = early_telling bytes head Health has told whole
telling_told bytes has_failed head Page has told whole = early_telling bytes head Page has told whole
telling_told bytes has_failed head (Refused refusal) has told whole =
    early_telling bytes head (Refused refusal) has told whole

-- who asks for what is told early is told it
module _ (bytes : List ℕ) (has_failed : Bool) (head : Option RequestHead) (early : Early)
    (asked : Result Asked Early) (has : HasHead bytes head) (is : asked ≡ Err early) where
  told_as :
      (other : Early) → asked ≡ Err other →
      told_early has_failed early ≡ told_early has_failed other
  told_as other asks =
      let e = sym is ∙ asks in
      ap (told_early has_failed) (let same : early ≡ other = cc in same)

  pub page_telling :
      (asked_of bytes head ≡ Err Page → asked ≡ Err Page) →
      TellsPage bytes (told_early has_failed early)
  page_telling page = record { head = head; has = has; page = λ asks. told_as Page (page asks) }

  pub health_telling :
      (asked_of bytes head ≡ Err Health → asked ≡ Err Health) →
      TellsHealth has_failed bytes (told_early has_failed early)
  health_telling health =
      record { head = head; has = has; health = λ asks. told_as Health (health asks) }

-- where a question is told something early, that is for want of memory
told_in_place :
    (asked : Result Question Early) (early : Early) → IsOk asked →
    (early ≢ Refused Unavailable → asked ≡ Err early) → early ≡ Refused Unavailable
told_in_place asked Page ok told = absurd (let e = subst IsOk (told (λ same. absurd (cc))) ok in cc)
told_in_place asked Health ok told = absurd (let e = subst IsOk (told (λ same. absurd (cc))) ok in cc)
told_in_place asked (Refused Unavailable) ok told = refl
told_in_place asked (Refused refusal) ok told =
    absurd (let e = subst IsOk (told (λ same. absurd (cc))) ok in cc)

pub failure_telling :
    (bytes : List ℕ) (has_failed : Bool) (head : Option RequestHead) (early : Early) →
    HasHead bytes head → (early ≢ Refused Unavailable → asked_of bytes head ≡ Err early) →
    TellsFailure has_failed bytes (told_early has_failed early)
failure_telling bytes has_failed head early has told = record {
  head = head;
  has = has;
  failure = λ failed ok.
      ap (told_early has_failed) (told_in_place (asked_of bytes head) early ok told);
}
