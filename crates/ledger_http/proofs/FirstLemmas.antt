-- From the parts that were read to the first message.
use Rattle.std.proofs.Common.{◌≡◌, ◌≢◌, refl, ap, sym, subst, ◌∙◌, ◌≤◌, ◌<◌, ◌+◌, ⊎_elim, ℕ, List, [], length, take, drop, Option, Some, None, Ok, Err, arith}
use Rattle.std.proofs.lemmas.List.{length-drop, drop-drop}
use Rattle.std.proofs.Math.Seq.{take-add}
use Rattle.httparse.specs.Grammar.{RequestHead}
use Rattle.ledger_http.specs.declared.refusal.Refusal.{Refusal}
use Rattle.ledger_http.specs.declared.refusal.Refusal.TheVariants.{BadHead, Truncated}
use Rattle.ledger_http.specs.declared.message.Message.{Message}
use Rattle.ledger_http.specs.declared.message.Message.TheVariants.{Whole, End, Refused, NoMemory}
use Rattle.ledger_http.specs.RefusalTable.{is_of_reading}
use Rattle.ledger_http.specs.Head.{IsGoodHead}
use Rattle.ledger_http.specs.Message.{length_of_head, length_of_body, message_of, IsRefused}
use Rattle.ledger_http.specs.First.{IsFirst, IsHeadRefused, IsRead}
use Rattle.ledger_http.proofs.MessageLemmas.{first_message-no_end, first_message-bad_head, first_message-no_body, first_message-truncated, first_message-whole, HasHead-no_end, HasHead-none}
use Rattle.ledger_http.proofs.RefusalLemmas.{no_end_is_of_reading, IsHeadRefused-reading, head_size-ended, left_cut}

-- bytes whose head ends are some
some_bytes : (unread : List ℕ) (n : ℕ) → length_of_head unread ≡ Ok n → unread ≢ []
some_bytes unread n ends empty =
    let none : length_of_head [] ≡ Ok n = subst (λ bytes. length_of_head bytes ≡ Ok n) empty ends in
    let open_head : length_of_head [] ≡ Err Truncated = refl in
    cc

-- no end of a head
pub IsRefused-no_end : (unread : List ℕ) (refusal : Refusal) → unread ≢ [] → length_of_head unread ≡ Err refusal
    → IsRefused unread refusal
IsRefused-no_end unread refusal some open_head = record {
  some = some;
  early = no_end_is_of_reading unread refusal open_head;
  head = None;
  has = HasHead-no_end unread refusal open_head;
  is = first_message-no_end unread refusal open_head;
}

-- a head that is not good, or states no length that is allowed
pub IsRefused-head : (unread : List ℕ) (n : ℕ) (refusal : Refusal) → length_of_head unread ≡ Ok n
    → IsHeadRefused (take n unread) refusal → IsRefused unread refusal
IsRefused-head unread n refusal ends refused =
    ⊎_elim
    (λ (bad : (refusal ≡ BadHead) × ((h : RequestHead) → IsGoodHead (take n unread) h → ⊥)). record {
      some = some_bytes unread n ends;
      early = IsHeadRefused-reading (take n unread) refusal refused;
      head = None;
      has = HasHead-none unread n ends bad.1;
      is = first_message-bad_head unread n ends ∙ ap (λ r. Err r) (sym bad.0);
    })
    (λ (good : (h : RequestHead) × IsGoodHead (take n unread) h × (length_of_body h ≡ Err refusal)). record {
      some = some_bytes unread n ends;
      early = IsHeadRefused-reading (take n unread) refusal refused;
      head = Some good.0;
      has = (n, ends, good.1);
      is = first_message-no_body unread good.0 n refusal ends good.2;
    })
    refused

-- behind a good head
pub IsFirst-read : (unread : List ℕ) (h : RequestHead) (n k : ℕ) (left : Option (List ℕ)) (message : Message)
    → length_of_head unread ≡ Ok n → n ≤ length unread → IsGoodHead (take n unread) h
    → length_of_body h ≡ Ok k → IsRead (take n unread) (drop n unread) k left message
    → IsFirst unread left message
IsFirst-read unread h n k left (Whole bytes) ends within good body read =
    let enough : n + k ≤ length unread = omega (arith, within, read.1, length-drop n unread) in
    record {
      head = h;
      first = message_of unread h n k;
      has = (n, ends, good);
      is = first_message-whole unread h n k ends body enough;
      whole = take-add n k unread ∙ sym read.0;
      rest = read.2 ∙ ap (λ xs. Some xs) (drop-drop k n unread);
    }
IsFirst-read unread h n k left End ends within good body read = absurd read
IsFirst-read unread h n k left (Refused refusal) ends within good body read =
    let few : length unread < n + k = omega (arith, within, read.1, length-drop n unread) in (
      record {
        some = some_bytes unread n ends;
        early = ap is_of_reading read.0;
        head = Some h;
        has = (n, ends, good);
        is = first_message-truncated unread h n k ends body few ∙ ap (λ r. Err r) (sym read.0);
      },
      read.2 ∙ ap (λ xs. Some xs) (left_cut unread refusal read.0),
    )
IsFirst-read unread h n k left NoMemory ends within good body read = (
  record { head = h; size = k; has = (n, ends, good); allowed = body },
  read ∙ ap (λ size. Some (drop size unread)) (sym (head_size-ended unread n ends)),
)
