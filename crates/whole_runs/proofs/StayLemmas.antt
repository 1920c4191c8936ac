-- No message makes a tenant come or go.
use Rattle.std.proofs.Common.{◌≡◌, ℕ, Bool, true, false, List, [], ◌∷◌, Option, Some, None}
use Rattle.std.proofs.Common.{Result, Ok, Err, bytes_eq, is_some, refl, sym, ap, ◌∙◌}
use Rattle.std.proofs.lemmas.Bool.{true≢false}
use Rattle.std.proofs.lemmas.Slice.Eq.{bytes_eq-Decides}
use Rattle.records.specs.Machine.{Machine}
use Rattle.chain.specs.Ledgers.{Tenants}
use Rattle.ledger_http.specs.declared.early.Early.{Early}
use Rattle.ledger_http.specs.declared.reply.Reply.{Reply}
use Rattle.ledger_http.specs.Question.{Question, asked_of}
use Rattle.wire.specs.declared.outcome.Outcome.{Outcome}
use Rattle.wire.specs.declared.request.Request.{Request}
use Rattle.wire.specs.Asked.{meaning_in}
use Rattle.service.specs.declared.turns.Message.{Message}
use Rattle.service.specs.Courses.{is_unavailable}
use Rattle.service.specs.EventLaws.{told_available, told_unavailable}
use Rattle.service.specs.Responds.{AnswersAsked, Responds}
use Rattle.service.specs.Replies.{AnswersTenant}
use Rattle.service.specs.Served.{Served, served_to}
use Rattle.service.specs.Turns.{RespondInTurn}

-- whoever was there is there, and nobody else
abbrev pub SameStay : Tenants → Tenants → Type 0
SameStay old new = (digest : List ℕ) → is_some (new digest) ≡ is_some (old digest)

served_stays :
    (tenant : Option Machine) (meaning : Result Request Outcome) (moment : ℕ) →
    is_some (served_to tenant meaning moment).left ≡ is_some tenant
served_stays None meaning moment = refl
served_stays (Some m) meaning moment = refl

module _ (old new : Tenants) (caller : List ℕ) (serves : Option Machine → Served (Option Machine))
    (text : List ℕ) (answers : AnswersTenant old new caller serves text)
    (stays : (tenant : Option Machine) → is_some (serves tenant).left ≡ is_some tenant)
    (digest : List ℕ) where
  by_caller : (b : Bool) → bytes_eq digest caller ≡ b → is_some (new digest) ≡ is_some (old digest)
  by_caller true is =
      let same = (bytes_eq-Decides digest caller).0 is in
      ap (λ d. is_some (new d)) same ∙ ap is_some answers.own ∙ stays (old caller)
      ∙ sym (ap (λ d. is_some (old d)) same)
  by_caller false is =
      ap is_some
      (answers.others digest
      (λ same. true≢false (sym ((bytes_eq-Decides digest caller).1 same) ∙ is)))

answered_stay :
    (old new : Tenants) (asked : Result Question Early) (moment : ℕ) (text : List ℕ) →
    AnswersAsked old new asked moment text → SameStay old new
answered_stay old new (Ok question) moment text answers digest =
    by_caller old new _ _ text answers
    (λ tenant. served_stays tenant (meaning_in question) moment)
    digest (bytes_eq digest _) refl
answered_stay old new (Err early) moment text answers digest = ap is_some (answers.same digest)

module _ (old new : Tenants) (bytes : List ℕ) (moment : ℕ) (reply : Reply)
    (responds : Responds old new bytes moment reply) where
  by_reply : (b : Bool) → is_unavailable reply ≡ b → SameStay old new
  by_reply true is digest = ap is_some (responds.same (told_unavailable reply is) digest)
  by_reply false is digest =
      answered_stay old new (asked_of bytes responds.head) moment _
      (responds.answered (told_available reply is)) digest

  -- behind a message
  pub responded_stay : SameStay old new
  responded_stay = by_reply (is_unavailable reply) refl

-- behind messages
pub in_turn_stay :
    (old new : Tenants) (messages : List Message) (replies : List Reply) →
    RespondInTurn old messages replies new → SameStay old new
in_turn_stay old new [] [] same digest = ap (λ (tenants : Tenants). is_some (tenants digest)) same
in_turn_stay old new [] (reply ∷ replies) none digest = absurd none
in_turn_stay old new (message ∷ messages) [] none digest = absurd none
in_turn_stay old new (message ∷ messages) (reply ∷ replies) responds digest =
    in_turn_stay responds.0 new messages replies responds.2 digest
    ∙ responded_stay old responds.0 message.bytes.items message.moment reply responds.1 digest
