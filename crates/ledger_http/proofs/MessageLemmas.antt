-- The first message of some bytes, a test at a time.
use Rattle.std.proofs.Common.{◌≡◌, ◌≢◌, refl, ap, sym, subst, ◌∙◌, ◌≤◌, ◌<◌, ◌+◌, Bool, true, false, ℕ, List, length, take, Option, Some, None, ok_or, Result, Ok, Err, IfErr, IsOk, nat_le, nat_lt, bytes_eq, codes, if◌then◌else◌}
use Rattle.std.proofs.lemmas.Bool.{le-leb, lt-leb}
use Rattle.httparse.specs.Grammar.{RequestHead}
use Rattle.ledger_http.specs.declared.early.Early.{Early}
use Rattle.ledger_http.specs.declared.early.Early.TheVariants.{Page, Health, Refused}
use Rattle.ledger_http.specs.declared.refusal.Refusal.{Refusal}
use Rattle.ledger_http.specs.declared.refusal.Refusal.TheVariants.{BadHead, HeadTooLarge, LengthRequired, BodyTooLarge, Truncated, Unavailable}
use Rattle.ledger_http.specs.declared.request.Asked.{Asked}
use Rattle.ledger_http.specs.Limits.{max_head, max_body}
use Rattle.ledger_http.specs.Results.{and_then}
use Rattle.ledger_http.specs.Head.{IsGoodHead, stated_length}
use Rattle.ledger_http.specs.Message.{end_of_head, length_of_head, length_for, at_most_max, length_of_body, HasHead, First, message_of, cut_at, first_message}
use Rattle.ledger_http.specs.Question.{as_early, question_in, asked_of, TellsQuestion, IsAsked}

-- with no end of a head there is no message
pub first_message-no_end : (bytes : List ℕ) (refusal : Refusal) → length_of_head bytes ≡ Err refusal
    → first_message bytes None ≡ Err refusal
unfolding first_message
first_message-no_end bytes refusal open_head =
    ap (λ size. and_then size (λ n. and_then (ok_or None BadHead) (λ h. and_then (length_of_body h) (λ k. cut_at bytes h n k)))) open_head

-- nor where the head is not good
pub first_message-bad_head : (bytes : List ℕ) (n : ℕ) → length_of_head bytes ≡ Ok n
    → first_message bytes None ≡ Err BadHead
unfolding first_message
first_message-bad_head bytes n ends =
    ap (λ size. and_then size (λ n. and_then (ok_or None BadHead) (λ h. and_then (length_of_body h) (λ k. cut_at bytes h n k)))) ends

-- nor where no length of the body is allowed
pub first_message-no_body : (bytes : List ℕ) (h : RequestHead) (n : ℕ) (refusal : Refusal)
    → length_of_head bytes ≡ Ok n → length_of_body h ≡ Err refusal
    → first_message bytes (Some h) ≡ Err refusal
unfolding first_message
first_message-no_body bytes h n refusal ends refused =
    ap (λ size. and_then size (λ n. and_then (length_of_body h) (λ k. cut_at bytes h n k))) ends
    ∙ ap (λ size. and_then size (λ k. cut_at bytes h n k)) refused

-- with both lengths the bytes are cut
pub first_message-cut : (bytes : List ℕ) (h : RequestHead) (n k : ℕ)
    → length_of_head bytes ≡ Ok n → length_of_body h ≡ Ok k
    → first_message bytes (Some h) ≡ cut_at bytes h n k
unfolding first_message
first_message-cut bytes h n k ends body =
    ap (λ size. and_then size (λ n. and_then (length_of_body h) (λ k. cut_at bytes h n k))) ends
    ∙ ap (λ size. and_then size (λ k. cut_at bytes h n k)) body

pub first_message-truncated : (bytes : List ℕ) (h : RequestHead) (n k : ℕ)
    → length_of_head bytes ≡ Ok n → length_of_body h ≡ Ok k → length bytes < n + k
    → first_message bytes (Some h) ≡ Err Truncated
first_message-truncated bytes h n k ends body few =
    first_message-cut bytes h n k ends body
    ∙ ap (λ b. if b then Ok (message_of bytes h n k) else Err Truncated) (lt-leb (n + k) (length bytes) few)

pub first_message-whole : (bytes : List ℕ) (h : RequestHead) (n k : ℕ)
    → length_of_head bytes ≡ Ok n → length_of_body h ≡ Ok k → n + k ≤ length bytes
    → first_message bytes (Some h) ≡ Ok (message_of bytes h n k)
first_message-whole bytes h n k ends body enough =
    first_message-cut bytes h n k ends body
    ∙ ap (λ b. if b then Ok (message_of bytes h n k) else Err Truncated) (le-leb (n + k) (length bytes) enough)

-- a refusal that is not for want of memory
IsSure : {X : Type 0} → Result X Refusal → Type 0
IsSure result = IfErr result (λ refusal. refusal ≢ Unavailable)

sure_then : {X Y : Type 0} (result : Result X Refusal) (next : X → Result Y Refusal)
    → IsSure result → ((x : X) → IsSure (next x)) → IsSure (and_then result next)
unfolding IsSure
sure_then (Ok x) next sure all = all x
sure_then (Err e) next sure all = sure

sure_ok_or : {X : Type 0} (o : Option X) (refusal : Refusal) → refusal ≢ Unavailable
    → IsSure (ok_or o refusal)
unfolding IsSure
sure_ok_or None refusal sure = sure
sure_ok_or (Some x) refusal sure = tt

sure_if : {X : Type 0} (b : Bool) (x : X) (refusal : Refusal) → refusal ≢ Unavailable
    → IsSure (if b then Ok x else Err refusal)
unfolding IsSure
sure_if true x refusal sure = tt
sure_if false x refusal sure = sure

sure_open : (b : Bool) → (if b then Truncated else HeadTooLarge) ≢ Unavailable
sure_open true = λ e. cc
sure_open false = λ e. cc

sure_most : (b : Bool) (n : ℕ) → IsSure (if b then Err BodyTooLarge else Ok n)
unfolding IsSure
sure_most true n = λ e. cc
sure_most false n = tt

sure_length : (method : List ℕ) (stated : Option ℕ) → IsSure (length_for method stated)
unfolding IsSure
sure_length method (Some n) = tt
sure_length method None = sure_if (bytes_eq method (codes "GET")) 0 LengthRequired (λ e. cc)

sure_first : (bytes : List ℕ) (head : Option RequestHead) → IsSure (first_message bytes head)
unfolding first_message
sure_first bytes head =
    sure_then (length_of_head bytes) _
    (sure_ok_or (end_of_head (take max_head bytes)) _ (sure_open (nat_lt (length bytes) max_head)))
    (λ n. sure_then (ok_or head BadHead) _ (sure_ok_or head BadHead (λ e. cc)) (λ h.
    sure_then (length_of_body h) _
    (sure_then (length_for h.method (stated_length h)) at_most_max
    (sure_length h.method (stated_length h)) (λ k. sure_most (nat_lt max_body k) k))
    (λ k. sure_if (nat_le (n + k) (length bytes)) (message_of bytes h n k) Truncated (λ e. cc))))

-- the first five refusals are not for want of memory
pub first_message-sure : (bytes : List ℕ) (head : Option RequestHead) (refusal : Refusal)
    → first_message bytes head ≡ Err refusal → refusal ≢ Unavailable
unfolding IsSure
first_message-sure bytes head refusal refused = subst IsSure refused (sure_first bytes head)

-- a refused message asks nothing
pub IsAsked-refused : (bytes : List ℕ) (head : Option RequestHead) (refusal : Refusal) → HasHead bytes head
    → first_message bytes head ≡ Err refusal → IsAsked bytes (Err (Refused refusal))
unfolding asked_of
IsAsked-refused bytes head refusal has refused =
    let told : asked_of bytes head ≡ Err (Refused refusal) =
    ap (λ message. and_then (as_early message) question_in) refused in
    record {
      head = head;
      has = has;
      told = λ _. told;
      unavailable = λ same. absurd (first_message-sure bytes head refusal refused (cc));
      page = λ asks. absurd (let e = sym told ∙ asks in cc);
      health = λ asks. absurd (let e = sym told ∙ asks in cc);
    }

-- a whole message asks what stands in it
pub IsAsked-whole : (bytes : List ℕ) (h : RequestHead) (first : First) (result : Result Asked Early)
    → HasHead bytes (Some h) → first_message bytes (Some h) ≡ Ok first
    → TellsQuestion (Refused Unavailable) (question_in first) result
    → (question_in first ≡ Err Page → result ≡ Err Page)
    → (question_in first ≡ Err Health → result ≡ Err Health)
    → IsAsked bytes result
unfolding asked_of
IsAsked-whole bytes h first result has whole told page health =
    let is : asked_of bytes (Some h) ≡ question_in first =
    ap (λ message. and_then (as_early message) question_in) whole in
    record {
      head = Some h;
      has = has;
      told = subst (λ question. TellsQuestion (Refused Unavailable) question result) (sym is) told;
      unavailable = λ _. subst IsOk (sym whole) refl;
      page = λ asks. page (sym is ∙ asks);
      health = λ asks. health (sym is ∙ asks);
    }

-- where the head has no end, there is no good one
pub HasHead-no_end : (bytes : List ℕ) (refusal : Refusal) → length_of_head bytes ≡ Err refusal → HasHead bytes None
HasHead-no_end bytes refusal open_head n ends h good = absurd (cc)

-- where the bytes up to the end are no good head, there is none
pub HasHead-none : (bytes : List ℕ) (n : ℕ) → length_of_head bytes ≡ Ok n
    → ((h : RequestHead) → IsGoodHead (take n bytes) h → ⊥) → HasHead bytes None
HasHead-none bytes n ends none m ends_too h good =
    let same : m ≡ n = cc in none h (subst (λ k. IsGoodHead (take k bytes) h) same good)
