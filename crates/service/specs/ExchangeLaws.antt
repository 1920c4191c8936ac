-- Laws of one message and its reply.
use Rattle.std.proofs.Common.{◌≡◌, ◌≢◌, ◌∙◌, ◌⊎◌, ℕ, List, Option, Result, Ok, Err, IsOk, inl, inr}
use Rattle.std.proofs.Common.{refl, ap, subst}
use Rattle.httparse.specs.Grammar.{RequestHead}
use Rattle.chain.specs.Ledgers.{LedgersMeaning, Tenants}
use Rattle.ledger_http.specs.declared.early.Early.{Early}
use Rattle.ledger_http.specs.declared.refusal.Refusal.{Refusal}
use Rattle.ledger_http.specs.declared.reply.Reply.{Reply}
use Rattle.ledger_http.specs.Results.{and_then}
use Rattle.ledger_http.specs.ReplyText.{reply_text}
use Rattle.ledger_http.specs.Message.{First, HasHead, first_message}
use Rattle.ledger_http.specs.Question.{Question, as_early, question_in, asked_of}
use Rattle.service.specs.Replies.{unavailable}
use Rattle.service.specs.Responds.{AnswersAsked, Responds}
use Rattle.service.specs.Connections.{Connection, IsFirstAnswered, IsTurnedAway, LacksMemory}

-- bytes have one head
abbrev pub HeadsAreUnique : Type 0
HeadsAreUnique =
    (bytes : List ℕ) (h k : Option RequestHead) → HasHead bytes h → HasHead bytes k → h ≡ k

-- what the bytes ask is answered, whichever head of theirs it is told by
pub answers_asked :
    HeadsAreUnique →
    (old new : Tenants) (bytes : List ℕ) (head : Option RequestHead)
    (asked : Result Question Early) (moment : ℕ) (reply : Reply) →
    Responds old new bytes moment reply → HasHead bytes head → asked_of bytes head ≡ asked →
    reply ≢ unavailable → AnswersAsked old new asked moment (reply_text reply)
answers_asked unique old new bytes head asked moment reply r has is ne =
    subst (λ (a : Result Question Early). AnswersAsked old new a moment (reply_text reply))
    (ap (asked_of bytes) (unique bytes r.head head r.has has) ∙ is) (r.answered ne)

first_is_ok :
    (first : Result First Refusal) (question : Question) →
    and_then (as_early first) question_in ≡ Ok question → IsOk first
first_is_ok (Ok first) question is = refl
first_is_ok (Err refusal) question is = absurd (cc)

-- whoever asks a question sends a whole message
pub whole_of :
    (bytes : List ℕ) (head : Option RequestHead) (question : Question) →
    asked_of bytes head ≡ Ok question → IsOk (first_message bytes head)
unfolding asked_of
whole_of bytes head question is = first_is_ok (first_message bytes head) question is

-- ledgers that are live behind an exchange were live before it
pub live_before :
    {S C : Type 0} (t : LedgersMeaning S) (gives : C → ℕ → C → Type 0) (old new : Connection S C)
    (reply : Reply) → ((a b : S) → t.follows a b → t.is_live b → t.is_live a) →
    IsFirstAnswered t gives old reply new ⊎ (IsTurnedAway old reply new ⊎ LacksMemory old reply new) →
    t.is_live new.ledgers → t.is_live old.ledgers
live_before t gives old new reply lived (inl answered) live =
    lived old.ledgers new.ledgers answered.follows live
live_before t gives old new reply lived (inr (inl away)) live =
    subst t.is_live away.cut.ledgers live
live_before t gives old new reply lived (inr (inr lacks)) live =
    subst t.is_live lacks.cut.ledgers live
