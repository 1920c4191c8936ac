-- Batches that were run, or not.
use Rattle.std.proofs.Common.{◌≡◌, ℕ, List, Option, Some, Result, Ok, Err, refl, sym, ap, ◌∙◌}
use Rattle.records.specs.declared.reply.BatchReply.{BatchReply}
use Rattle.records.specs.declared.reply.BatchReply.TheVariants.{Done, ClockExhausted}
use Rattle.records.specs.declared.reply.EventResult.{EventResult}
use Rattle.records.specs.Machine.{Machine}
use Rattle.records.specs.Step as step
use Rattle.records.specs.Step.{Answered, Exhausted, IsReply}
use Rattle.chain.specs.declared.ledgers.BatchFault.{BatchFault}
use Rattle.chain.specs.declared.ledgers.BatchFault.TheVariants as fault
use Rattle.chain.specs.Ledgers.{Tenants, IsRun}
use Rattle.ledger_http.specs.declared.content_type.ContentType.TheVariants.{Json}
use Rattle.ledger_http.specs.declared.reply.Reply.{Reply}
use Rattle.ledger_http.specs.ReplyText.{body_text, reply_text}
use Rattle.wire.specs.declared.outcome.Outcome.{Outcome}
use Rattle.wire.specs.declared.request.Request.{Request}
use Rattle.wire.specs.Told.{outcome_text}
use Rattle.service.specs.Served.{batch_told, told_by, left_by, served_to}
use Rattle.service.specs.Replies.{Serves, Gives, TellsBatch, batch_reply}
use Rattle.service.proofs.Texts.{is_available}

pub serves_by_batch :
    (request : Request) (moment : ℕ) (digest : List ℕ) (old new : Tenants)
    (result : Result Reply BatchFault) →
    IsRun (Gives request moment) digest old new result →
    Serves old new digest (Ok request) moment (batch_reply result)
serves_by_batch request moment digest old new (Ok reply) done = record {
  answered = λ ne. record {
    told =
        done.given.text
        ∙ ap (λ (tenant : Option Machine). outcome_text (served_to tenant (Ok request) moment).told)
        (sym done.held);
    own =
        done.holds
        ∙ (ap (λ (m : Machine). Some m) done.given.left
        ∙ ap (λ (tenant : Option Machine). (served_to tenant (Ok request) moment).left)
        (sym done.held));
    others = done.others;
  };
  same = λ is. absurd (done.given.available is);
}
serves_by_batch request moment digest old new (Err fault.UnknownKey) unknown = record {
  answered = λ ne. record {
    told =
        ap (λ (tenant : Option Machine). outcome_text (served_to tenant (Ok request) moment).told)
        (sym unknown.0);
    own =
        unknown.1 digest
        ∙ (unknown.0
        ∙ ap (λ (tenant : Option Machine). (served_to tenant (Ok request) moment).left)
        (sym unknown.0));
    others = λ other differs. unknown.1 other;
  };
  same = λ is. unknown.1;
}
serves_by_batch request moment digest old new (Err (fault.Unavailable why)) keeps =
    record { answered = λ ne. absurd (ne refl); same = λ is. keeps }

-- work that tells what became of a batch, whose results are told with a body
pub gives_batch :
    {R : Type 0} (shows : ℕ → List (EventResult R) → Outcome) (batch : BatchReply R) (outcome : step.Outcome R)
    (request : Request) (moment : ℕ) (m after : Machine) (reply : Reply) →
    ((clock : ℕ) (results : List (EventResult R)) →
    (body : List ℕ) × (outcome_text (shows clock results) ≡ body_text Json body)) →
    IsReply batch outcome → TellsBatch shows batch reply →
    batch_told shows outcome ≡ told_by m moment request → after ≡ left_by m moment request →
    Gives request moment m reply after
gives_batch shows (Done clock results) (Answered then stamps) request moment m after reply bodies is shown told left =
    let text =
    shown ∙ ap outcome_text (ap (λ (c : ℕ). shows c results.items) is.0 ∙ ap (shows then) is.1) in
    record {
      text = text ∙ ap outcome_text told;
      left = left;
      available = is_available Json (bodies then stamps).0 reply (text ∙ (bodies then stamps).1);
    }
gives_batch shows ClockExhausted Exhausted request moment m after reply bodies is shown told left = record {
  text = ap reply_text shown ∙ ap outcome_text told;
  left = left;
  available = λ u. absurd (let e = sym shown ∙ u in cc);
}
gives_batch shows (Done clock results) Exhausted request moment m after reply bodies is shown told left =
    absurd is
gives_batch shows ClockExhausted (Answered then stamps) request moment m after reply bodies is shown told left =
    absurd is
