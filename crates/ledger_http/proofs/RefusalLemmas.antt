-- Which refusals are told while a message is read, and what goes with them.
use Rattle.std.proofs.Common.{◌≡◌, ◌≢◌, refl, ap, sym, subst, ◌∙◌, inl, inr, ⊎_elim, ◌⊎◌, if◌then◌else◌, Bool, true, false, ℕ, List, [], length, take, drop, Option, Some, None, ok_or, unwrap_or, Ok, Err, nat_lt, bytes_eq, codes, arith}
use Rattle.std.proofs.lemmas.Bool.{ltb-true}
use Rattle.std.proofs.lemmas.List.{drop_all}
use Rattle.httparse.specs.Grammar.{RequestHead}
use Rattle.ledger_http.specs.declared.refusal.Refusal.{Refusal}
use Rattle.ledger_http.specs.declared.refusal.Refusal.TheVariants.{BadHead, Truncated, HeadTooLarge, LengthRequired, BodyTooLarge}
use Rattle.ledger_http.specs.Limits.{max_head, max_body}
use Rattle.ledger_http.specs.RefusalTable.{is_of_reading}
use Rattle.ledger_http.specs.Results.{and_then}
use Rattle.ledger_http.specs.Head.{IsGoodHead, stated_length}
use Rattle.ledger_http.specs.Message.{end_of_head, length_of_head, length_for, at_most_max, length_of_body, head_size, refused_size}
use Rattle.ledger_http.specs.First.{IsHeadRefused}
use Rattle.ledger_http.proofs.MeaningLemmas.{of_ok_or}

-- a head without end
without_end : (end : Option ℕ) (why refusal : Refusal) → ok_or end why ≡ Err refusal → (end ≡ None) × (why ≡ refusal)
without_end None why refusal refused = (refl, cc)
without_end (Some n) why refusal refused = cc

open_is_of_reading : (b : Bool) → is_of_reading (if b then Truncated else HeadTooLarge) ≡ true
open_is_of_reading true = refl
open_is_of_reading false = refl

pub no_end_is_of_reading : (bytes : List ℕ) (refusal : Refusal) → length_of_head bytes ≡ Err refusal
    → is_of_reading refusal ≡ true
no_end_is_of_reading bytes refusal open_head =
    subst (λ why. is_of_reading why ≡ true)
    (without_end (end_of_head (take max_head bytes)) _ refusal open_head).1
    (open_is_of_reading (nat_lt (length bytes) max_head))

-- the lengths of a body that are refused
too_large : (b : Bool) (n : ℕ) (refusal : Refusal) → (if b then Err BodyTooLarge else Ok n) ≡ Err refusal
    → (refusal ≡ LengthRequired) ⊎ (refusal ≡ BodyTooLarge)
too_large true n refusal refused = inr (cc)
too_large false n refusal refused = cc

not_stated : (b : Bool) (refusal : Refusal)
    → and_then (if b then Ok 0 else Err LengthRequired) at_most_max ≡ Err refusal
    → (refusal ≡ LengthRequired) ⊎ (refusal ≡ BodyTooLarge)
not_stated true refusal refused = too_large (nat_lt max_body 0) 0 refusal refused
not_stated false refusal refused = inl (cc)

length_refused : (method : List ℕ) (stated : Option ℕ) (refusal : Refusal)
    → and_then (length_for method stated) at_most_max ≡ Err refusal
    → (refusal ≡ LengthRequired) ⊎ (refusal ≡ BodyTooLarge)
length_refused method (Some n) refusal refused = too_large (nat_lt max_body n) n refusal refused
length_refused method None refusal refused = not_stated (bytes_eq method (codes "GET")) refusal refused

-- a head that is refused is so while it is read, and is not cut short
IsSure : Refusal → Type 0
IsSure refusal = (is_of_reading refusal ≡ true) × (refusal ≢ Truncated)

sure_of : (refusal : Refusal) → (refusal ≡ LengthRequired) ⊎ (refusal ≡ BodyTooLarge) → IsSure refusal
unfolding IsSure
sure_of LengthRequired why = (refl, λ e. cc)
sure_of BodyTooLarge why = (refl, λ e. cc)
sure_of refusal (inl same) = absurd (cc)
sure_of refusal (inr same) = absurd (cc)

IsHeadRefused-both : (head : List ℕ) (refusal : Refusal) → IsHeadRefused head refusal → IsSure refusal
unfolding IsSure
IsHeadRefused-both head refusal refused =
    ⊎_elim
    (λ (bad : (refusal ≡ BadHead) × ((h : RequestHead) → IsGoodHead head h → ⊥)). (
      ap is_of_reading bad.0,
      λ (same : refusal ≡ Truncated). let other : BadHead ≡ Truncated = sym bad.0 ∙ same in absurd (cc),
    ))
    (λ (good : (h : RequestHead) × IsGoodHead head h × (length_of_body h ≡ Err refusal)).
    sure_of refusal (length_refused good.0.method (stated_length good.0) refusal good.2))
    refused

pub IsHeadRefused-reading : (head : List ℕ) (refusal : Refusal) → IsHeadRefused head refusal
    → is_of_reading refusal ≡ true
unfolding IsSure
IsHeadRefused-reading head refusal refused = (IsHeadRefused-both head refusal refused).0

pub IsHeadRefused-sure : (head : List ℕ) (refusal : Refusal) → IsHeadRefused head refusal → refusal ≢ Truncated
unfolding IsSure
IsHeadRefused-sure head refusal refused = (IsHeadRefused-both head refusal refused).1

-- what a head takes of the bytes
pub head_size-ended : (bytes : List ℕ) (n : ℕ) → length_of_head bytes ≡ Ok n → head_size bytes ≡ n
head_size-ended bytes n ends =
    ap (λ end. unwrap_or end max_head) (of_ok_or (end_of_head (take max_head bytes)) _ n ends)

head_size-open : (bytes : List ℕ) (refusal : Refusal) → length_of_head bytes ≡ Err refusal → head_size bytes ≡ max_head
head_size-open bytes refusal open_head =
    ap (λ end. unwrap_or end max_head) (without_end (end_of_head (take max_head bytes)) _ refusal open_head).0

is_few : (b : Bool) → (if b then Truncated else HeadTooLarge) ≡ Truncated → b ≡ true
is_few true same = refl
is_few false same = cc

-- what is left behind a refusal
pub left_no_end : (unread : List ℕ) (refusal : Refusal) → length_of_head unread ≡ Err refusal
    → drop max_head unread ≡ drop (refused_size unread refusal) unread
left_no_end unread Truncated open_head =
    let few = ltb-true (length unread) max_head
    (is_few _ (without_end (end_of_head (take max_head unread)) _ Truncated open_head).1) in
    drop_all max_head unread (omega arith) ∙ sym (drop_all (length unread) unread (omega arith))
left_no_end unread refusal open_head = ap (λ n. drop n unread) (sym (head_size-open unread refusal open_head))

pub left_cut : (unread : List ℕ) (refusal : Refusal) → refusal ≡ Truncated
    → [] ≡ drop (refused_size unread refusal) unread
left_cut unread refusal cut =
    sym (ap (λ why. drop (refused_size unread why) unread) cut ∙ drop_all (length unread) unread (omega arith))

refused_size-head : (unread : List ℕ) (refusal : Refusal) → refusal ≢ Truncated
    → refused_size unread refusal ≡ head_size unread
refused_size-head unread Truncated other = absurd (other refl)
refused_size-head unread refusal other = refl

pub left_head : (unread : List ℕ) (n : ℕ) (refusal : Refusal) → length_of_head unread ≡ Ok n
    → IsHeadRefused (take n unread) refusal → drop n unread ≡ drop (refused_size unread refusal) unread
left_head unread n refusal ends refused =
    ap (λ k. drop k unread)
    (sym (refused_size-head unread refusal (IsHeadRefused-sure (take n unread) refusal refused)
    ∙ head_size-ended unread n ends))
