-- How far a message has been looked at, and what stands first.
use Rattle.std.proofs.Common.{◌≡◌, ◌≢◌, refl, ap, sym, subst, ◌∙◌, ◌≤◌, ◌<◌, ◌+◌, Bool, true, false, if◌then◌else◌, ℕ, List, [], ◌++◌, length, drop, Some, None, Err, nat_eq, arith}
use Rattle.std.proofs.lemmas.List.{length-append, take-append-le, drop-append-le}
use Rattle.std.specs.List.{ends_with}
use Rattle.ledger_http.specs.declared.refusal.Refusal.TheVariants.{Truncated}
use Rattle.ledger_http.specs.declared.progress.Progress.{Progress}
use Rattle.ledger_http.specs.declared.progress.Progress.TheVariants.{Head, Body}
use Rattle.ledger_http.specs.Limits.{longest_message}
use Rattle.ledger_http.specs.Head.{IsGoodHead}
use Rattle.ledger_http.specs.Message.{blank_line, length_of_head, message_of, IsRefused, IsAnnounced}
use Rattle.ledger_http.specs.Progress.{HasBody, IsProgress}
use Rattle.ledger_http.specs.Unread.{IsShort, IsWhole}
use Rattle.ledger_http.proofs.MessageLemmas.{first_message-no_end, first_message-truncated, first_message-whole, HasHead-no_end}
use Rattle.ledger_http.proofs.LaterLemmas.{length_of_head-append, length_of_head-within}

-- what was looked at stays so where more comes
pub IsProgress-append : (bytes later : List ℕ) (progress : Progress) → IsProgress bytes progress
    → IsProgress (bytes ++ later) progress
IsProgress-append bytes later (Head looked) open_head = record {
  within = omega (arith, open_head.within, length-append bytes later);
  few = open_head.few;
  none = λ j below.
      ap (λ front. ends_with nat_eq front blank_line)
      (take-append-le j bytes later (omega (arith, below, open_head.within)))
      ∙ open_head.none j below;
}
IsProgress-append bytes later (Body head size) body = record {
  ends = length_of_head-append bytes later head body.ends;
  within = omega (arith, body.within, length-append bytes later);
  few = body.few;
  says = body.says;
  good = subst (λ front. IsGoodHead front body.says) (sym (take-append-le head bytes later body.within)) body.good;
  allowed = body.allowed;
}

-- a body that is there is that of a whole message
pub IsWhole-body : (bytes : List ℕ) (head size : ℕ) → HasBody bytes head size → head + size ≤ length bytes
    → IsWhole bytes (head + size)
IsWhole-body bytes head size body enough = record {
  within = enough;
  begins = record {
    head = body.says;
    first = message_of bytes body.says head size;
    has = (head, body.ends, body.good);
    is = first_message-whole bytes body.says head size body.ends body.allowed enough;
    whole = refl;
    rest = refl;
  };
}

pub IsShort-body : (bytes : List ℕ) (head size : ℕ) → HasBody bytes head size → length bytes < head + size
    → IsShort bytes
IsShort-body bytes head size body few =
    (Some body.says, (head, body.ends, body.good), first_message-truncated bytes body.says head size body.ends body.allowed few)

pub IsShort-head : (bytes : List ℕ) → length_of_head bytes ≡ Err Truncated → IsShort bytes
IsShort-head bytes open_head =
    (None, HasHead-no_end bytes Truncated open_head, first_message-no_end bytes Truncated open_head)

-- at the end of the input a beginning of a message is refused
pub IsRefused-short : (bytes : List ℕ) → bytes ≢ [] → IsShort bytes → IsRefused bytes Truncated
IsRefused-short bytes some short = record { some = some; early = refl; head = short.0; has = short.1; is = short.2 }

pub IsAnnounced-body : (bytes : List ℕ) (head size : ℕ) → HasBody bytes head size → IsAnnounced bytes
IsAnnounced-body bytes head size body =
    record { head = body.says; size = size; has = (head, body.ends, body.good); allowed = body.allowed }

-- a piece is put behind bytes of which some are taken, or not
pub IsProgress-received : (added : Bool) (bytes kept piece now : List ℕ) (taken left : ℕ) (progress : Progress)
    → left ≤ length kept → drop left kept ≡ drop taken bytes
    → now ≡ (if added then kept ++ piece else kept) → IsProgress (drop taken bytes) progress
    → (left ≤ length now) × IsProgress (drop left now) progress
IsProgress-received true bytes kept piece now taken left progress within same is known = (
  omega (arith, ap length is, length-append kept piece),
  subst (λ unread. IsProgress unread progress)
      (ap (λ front. front ++ piece) (sym same) ∙ sym (drop-append-le left kept piece within) ∙ ap (drop left) (sym is))
      (IsProgress-append (drop taken bytes) piece progress known),
)
IsProgress-received false bytes kept piece now taken left progress within same is known = (
  omega (arith, ap length is),
  subst (λ unread. IsProgress unread progress) (sym same ∙ ap (drop left) (sym is)) known,
)

-- a message whose head and body are good is no longer than the longest
pub few_in_body : (bytes : List ℕ) (head size : ℕ) → HasBody bytes head size → head + size ≤ longest_message
few_in_body bytes head size body = omega (arith, (length_of_head-within bytes head body.ends).0, body.few)
