-- Reads and refusals that serve a tenant: no machine changes.
use Rattle.std.proofs.Common.{◌≡◌, ◌≢◌, ℕ, true, false, List, Option, Some, None, is_some, Result}
use Rattle.std.proofs.Common.{Ok, Err, refl, sym, ap, ◌∙◌, subst}
use Rattle.records.specs.Machine.{Machine}
use Rattle.chain.specs.Ledgers.{Tenants, KeepsAll}
use Rattle.ledger_http.specs.declared.refusal.Refusal.TheVariants.{UnknownKey}
use Rattle.ledger_http.specs.declared.reply.Reply.{Reply}
use Rattle.ledger_http.specs.declared.reply.Reply.TheVariants.{Fixed}
use Rattle.ledger_http.specs.ReplyText.{reply_text}
use Rattle.wire.specs.declared.outcome.Outcome.{Outcome}
use Rattle.wire.specs.declared.outcome.Outcome.TheVariants.{Refused}
use Rattle.wire.specs.declared.read.Read.{Read}
use Rattle.wire.specs.declared.request.Request.{Request}
use Rattle.wire.specs.declared.request.Request.TheVariants as asks
use Rattle.wire.specs.Told.{outcome_text}
use Rattle.service.specs.Served.{served_to}
use Rattle.service.specs.Replies.{AnswersTenant, Serves, unavailable}

-- a read leaves a tenant as it is
pub left_alone :
    (read : Read) (moment : ℕ) (tenant : Option Machine) →
    (served_to tenant (Ok (asks.Read read)) moment).left ≡ tenant
left_alone read moment None = refl
left_alone read moment (Some m) = refl

by_read :
    (old new : Tenants) (digest : List ℕ) (read : Read) (moment : ℕ) (reply : Reply) →
    KeepsAll old new →
    (reply ≢ unavailable →
    reply_text reply ≡ outcome_text (served_to (old digest) (Ok (asks.Read read)) moment).told) →
    Serves old new digest (Ok (asks.Read read)) moment reply
by_read old new digest read moment reply keeps text = record {
  answered = λ ne. record {
    told = text ne;
    own = keeps digest ∙ sym (left_alone read moment (old digest));
    others = λ other differs. keeps other;
  };
  same = λ is. keeps;
}

-- a read, which changes no machine
pub serves_by_read :
    (old new : Tenants) (digest : List ℕ) (asked read : Read) (moment : ℕ) (reply : Reply) →
    asked ≡ read → KeepsAll old new →
    (reply ≢ unavailable →
    reply_text reply ≡ outcome_text (served_to (old digest) (Ok (asks.Read read)) moment).told) →
    Serves old new digest (Ok (asks.Read asked)) moment reply
serves_by_read old new digest asked read moment reply is keeps text =
    subst (λ (r : Read). Serves old new digest (Ok (asks.Read r)) moment reply) (sym is)
    (by_read old new digest read moment reply keeps text)

told_known :
    (tenant : Option Machine) (outcome : Outcome) (moment : ℕ) → is_some tenant ≡ true →
    (served_to tenant (Err outcome) moment).told ≡ outcome
told_known None outcome moment known = absurd (cc)
told_known (Some m) outcome moment known = refl

told_unknown :
    (tenant : Option Machine) (meaning : Result Request Outcome) (moment : ℕ) →
    is_some tenant ≡ false → (served_to tenant meaning moment).told ≡ Refused UnknownKey
told_unknown None meaning moment unknown = refl
told_unknown (Some m) meaning moment unknown = absurd (cc)

left_refused :
    (tenant : Option Machine) (outcome : Outcome) (moment : ℕ) →
    (served_to tenant (Err outcome) moment).left ≡ tenant
left_refused None outcome moment = refl
left_refused (Some m) outcome moment = refl

left_unknown :
    (tenant : Option Machine) (meaning : Result Request Outcome) (moment : ℕ) →
    is_some tenant ≡ false → (served_to tenant meaning moment).left ≡ tenant
left_unknown None meaning moment unknown = refl
left_unknown (Some m) meaning moment unknown = absurd (cc)

answers_refused :
    (old new : Tenants) (digest : List ℕ) (moment : ℕ) (outcome : Outcome) (reply : Reply) →
    is_some (old digest) ≡ true → KeepsAll old new → reply_text reply ≡ outcome_text outcome →
    AnswersTenant old new digest (λ tenant. served_to tenant (Err outcome) moment) (reply_text reply)
answers_refused old new digest moment outcome reply known keeps text = record {
  told = text ∙ ap outcome_text (sym (told_known (old digest) outcome moment known));
  own = keeps digest ∙ sym (left_refused (old digest) outcome moment);
  others = λ other differs. keeps other;
}

-- a refused request of a tenant that is there
pub serves_refused :
    (old new : Tenants) (digest : List ℕ) (meaning : Result Request Outcome) (moment : ℕ)
    (outcome : Outcome) (reply : Reply) → is_some (old digest) ≡ true → KeepsAll old new →
    (reply ≢ unavailable → (meaning ≡ Err outcome) × (reply_text reply ≡ outcome_text outcome)) →
    Serves old new digest meaning moment reply
serves_refused old new digest meaning moment outcome reply known keeps told = record {
  answered = λ ne.
      subst
      (λ (m : Result Request Outcome).
      AnswersTenant old new digest (λ tenant. served_to tenant m moment) (reply_text reply))
      (sym (told ne).0)
      (answers_refused old new digest moment outcome reply known keeps (told ne).1);
  same = λ is. keeps;
}

-- a tenant that is not there
pub serves_unknown :
    (old new : Tenants) (digest : List ℕ) (meaning : Result Request Outcome) (moment : ℕ) →
    is_some (old digest) ≡ false → KeepsAll old new →
    Serves old new digest meaning moment (Fixed UnknownKey)
serves_unknown old new digest meaning moment unknown keeps = record {
  answered = λ ne. record {
    told = ap outcome_text (sym (told_unknown (old digest) meaning moment unknown));
    own = keeps digest ∙ sym (left_unknown (old digest) meaning moment unknown);
    others = λ other differs. keeps other;
  };
  same = λ is. keeps;
}

-- ledgers that were not to be reached
pub serves_unavailable :
    (old new : Tenants) (digest : List ℕ) (meaning : Result Request Outcome) (moment : ℕ) →
    KeepsAll old new → Serves old new digest meaning moment unavailable
serves_unavailable old new digest meaning moment keeps =
    record { answered = λ ne. absurd (ne refl); same = λ is. keeps }
