-- A reply without refusal is not the one that tells want of memory, size or disk.
use Rattle.std.proofs.Common.{◌≡◌, ◌≢◌, ℕ, List, nat_eq, get_or, ap, sym, ◌∙◌}
use Rattle.std.proofs.lemmas.Bool.{true≢false}
use Rattle.std.specs.Fmt.{digits}
use Rattle.ledger_http.specs.declared.refusal.Refusal.TheVariants.{Unavailable}
use Rattle.ledger_http.specs.declared.content_type.ContentType.{ContentType}
use Rattle.ledger_http.specs.declared.reply.Reply.{Reply}
use Rattle.ledger_http.specs.ReplyText.{body_text, refusal_text, reply_text}
use Rattle.service.specs.Replies.{unavailable}

-- the texts differ in the first digit of their status, the tenth byte
texts_differ : (kind : ContentType) (body : List ℕ) → refusal_text Unavailable ≢ body_text kind body
unfolding refusal_text body_text digits
texts_differ kind body same =
    true≢false (ap (λ (text : List ℕ). nat_eq (get_or text 9 0) 53) same)

pub is_available :
    (kind : ContentType) (body : List ℕ) (reply : Reply) →
    reply_text reply ≡ body_text kind body → reply ≢ unavailable
is_available kind body reply text is =
    texts_differ kind body (sym (ap reply_text is) ∙ text)
