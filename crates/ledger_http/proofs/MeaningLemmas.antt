-- Bytes have one head or none, and a message has the head that it has among others.
use Rattle.std.proofs.Common.{◌≡◌, refl, ap, sym, subst, ◌∙◌, ◌≤◌, ◌<◌, ◌+◌, zero, suc, ⊎_elim, if◌then◌else◌, Bool, true, false, ℕ, List, [], ◌∷◌, length, take, drop, Option, Some, None, option_map, ok_or, Result, Ok, Err, IsOk, nat_eq, nat_le, nat_lt, arith}
use Rattle.std.proofs.lemmas.Bool.{cases_lt, leb-true}
use Rattle.std.proofs.lemmas.List.{length-take, length-take-le, take_all, take-take, drop-take}
use Rattle.std.specs.List.{starts_with}
use Rattle.std.specs.Cmp.Lexicographic.{pointwise}
use Rattle.httparse.specs.Grammar.{RequestHead}
use Rattle.httparse.proofs.GrammarLemmas.{request_unique}
use Rattle.ledger_http.specs.declared.refusal.Refusal.{Refusal}
use Rattle.ledger_http.specs.declared.refusal.Refusal.TheVariants.{Truncated, HeadTooLarge}
use Rattle.ledger_http.specs.Limits.{max_head}
use Rattle.ledger_http.specs.Results.{and_then}
use Rattle.ledger_http.specs.Head.{IsGoodHead}
use Rattle.ledger_http.specs.Message.{blank_line, end_of_head, length_of_head, length_of_body, HasHead, First, message_of, cut_at, first_message, Begins}
use Rattle.ledger_http.specs.Question.{as_early, question_in, asked_of}
use Rattle.ledger_http.specs.Alone.{StandsAlone}
use Rattle.ledger_http.proofs.MessageLemmas.{first_message-whole}

-- bytes have one head or none
pub one_head : (bytes : List ℕ) (h k : Option RequestHead) → HasHead bytes h → HasHead bytes k → h ≡ k
one_head bytes None None first second = refl
one_head bytes None (Some k) first second = absurd (first second.0 second.1 k second.2)
one_head bytes (Some h) None first second = absurd (second first.0 first.1 h first.2)
one_head bytes (Some h) (Some k) first second =
    let size : second.0 ≡ first.0 = cc in
    let good = subst (λ n. IsGoodHead (take n bytes) k) size second.2 in
    ap (λ head. Some head) (request_unique (take first.0 bytes) h k [] [] first.2.reads good.reads).0

-- one byte more in front of a head leaves room for a blank line
least_of : (b : Bool) (end : Option ℕ) (n : ℕ) → ((m : ℕ) → end ≡ Some m → 4 ≤ m)
    → (if b then Some 4 else option_map suc end) ≡ Some n → 4 ≤ n
least_of true end n least ends = let same : 4 ≡ n = cc in omega arith
least_of false None n least ends = cc
least_of false (Some m) n least ends = let same : suc m ≡ n = cc in omega (arith, least m refl)

-- a head has room for a blank line
pub end_at_least : (bytes : List ℕ) (n : ℕ) → end_of_head bytes ≡ Some n → 4 ≤ n
end_at_least [] n ends = cc
end_at_least (b ∷ bytes) n ends =
    least_of (starts_with nat_eq (b ∷ bytes) blank_line) (end_of_head bytes) n (end_at_least bytes) ends

-- one byte more in front
pub end_of_tail : (b : Bool) (here there : Option ℕ) (n m : ℕ)
    → ((k : ℕ) → here ≡ Some k → k ≤ m → there ≡ Some k)
    → (if b then Some 4 else option_map suc here) ≡ Some n → n ≤ suc m
    → (if b then Some 4 else option_map suc there) ≡ Some n
end_of_tail true here there n m same ends room = ends
end_of_tail false None there n m same ends room = cc
end_of_tail false (Some k) there n m same ends room =
    let next : suc k ≡ n = cc in
    ap (option_map suc) (same k refl (omega arith)) ∙ ap (λ j. Some j) next

-- the head ends at the same place in a beginning that has room for it
end_of_head-take : (bytes : List ℕ) (n m : ℕ) → end_of_head bytes ≡ Some n → n ≤ m
    → end_of_head (take m bytes) ≡ Some n
end_of_head-take [] n m ends room = cc
end_of_head-take (b ∷ bytes) n zero ends room = absurd (omega (arith, end_at_least (b ∷ bytes) n ends))
end_of_head-take (b ∷ bytes) n (suc m) ends room =
    let front : take 4 (b ∷ take m bytes) ≡ take 4 (b ∷ bytes) =
    take-take 4 (suc m) (b ∷ bytes) (omega (arith, end_at_least (b ∷ bytes) n ends)) in
    ap (λ xs. if pointwise nat_eq blank_line xs then Some 4 else option_map suc (end_of_head (take m bytes))) front
    ∙ end_of_tail (starts_with nat_eq (b ∷ bytes) blank_line) (end_of_head bytes) (end_of_head (take m bytes)) n m
    (λ k here few. end_of_head-take bytes k m here few) ends room

-- two beginnings, in either order
take-swap : (bytes : List ℕ) (m n : ℕ) → take m (take n bytes) ≡ take n (take m bytes)
take-swap bytes m n =
    ⊎_elim
    (λ (less : m < n).
    take-take m n bytes (omega arith)
    ∙ sym (take_all n (take m bytes) (omega (arith, length-take m bytes))))
    (λ (more : n ≤ m).
    take_all m (take n bytes) (omega (arith, length-take n bytes))
    ∙ sym (take-take n m bytes more))
    (cases_lt m n)

pub of_ok_or : (end : Option ℕ) (refusal : Refusal) (n : ℕ) → ok_or end refusal ≡ Ok n → end ≡ Some n
of_ok_or None refusal n ok = cc
of_ok_or (Some m) refusal n ok = cc

-- the head of a beginning that has room for it
pub length_of_head-take : (bytes : List ℕ) (n m : ℕ) → length_of_head bytes ≡ Ok n → n ≤ m
    → length_of_head (take m bytes) ≡ Ok n
length_of_head-take bytes n m ends room =
    let end = of_ok_or (end_of_head (take max_head bytes)) _ n ends in
    ap (λ e. ok_or e (if nat_lt (length (take m bytes)) max_head then Truncated else HeadTooLarge))
    (ap end_of_head (take-swap bytes max_head m) ∙ end_of_head-take (take max_head bytes) n m end room)

-- a message that is cut is whole
cut_whole : (b : Bool) (bytes : List ℕ) (h : RequestHead) (n k : ℕ) (first : First)
    → (if b then Ok (message_of bytes h n k) else Err Truncated) ≡ Ok first
    → (b ≡ true) × (message_of bytes h n k ≡ first)
cut_whole true bytes h n k first cut = (refl, cc)
cut_whole false bytes h n k first cut = cc

whole_of : (size : Result ℕ Refusal) (bytes : List ℕ) (h : RequestHead) (n : ℕ) (first : First)
    → and_then size (λ k. cut_at bytes h n k) ≡ Ok first
    → (k : ℕ) × (size ≡ Ok k) × (n + k ≤ length bytes) × (message_of bytes h n k ≡ first)
whole_of (Ok k) bytes h n first cut =
    let whole = cut_whole (nat_le (n + k) (length bytes)) bytes h n k first cut in
    (k, refl, leb-true (n + k) (length bytes) whole.0, whole.1)
whole_of (Err refusal) bytes h n first cut = cc

pub first_whole : (bytes : List ℕ) (h : RequestHead) (n : ℕ) (first : First) → length_of_head bytes ≡ Ok n
    → first_message bytes (Some h) ≡ Ok first
    → (k : ℕ) × (length_of_body h ≡ Ok k) × (n + k ≤ length bytes) × (message_of bytes h n k ≡ first)
unfolding first_message
first_whole bytes h n first ends is =
    whole_of (length_of_body h) bytes h n first
    (sym (ap (λ size. and_then size (λ n. and_then (length_of_body h) (λ k. cut_at bytes h n k))) ends) ∙ is)

-- two whole messages with one head and one body ask the same
same_question : (bytes others : List ℕ) (h : RequestHead) (n k : ℕ)
    → take k (drop n bytes) ≡ take k (drop n others)
    → first_message bytes (Some h) ≡ Ok (message_of bytes h n k)
    → first_message others (Some h) ≡ Ok (message_of others h n k)
    → asked_of bytes (Some h) ≡ asked_of others (Some h)
unfolding asked_of
same_question bytes others h n k body first second =
    ap (λ message. and_then (as_early message) question_in) first
    ∙ ap (λ text. question_in (record { head = h; body = text; bytes = []; rest = [] })) body
    ∙ sym (ap (λ message. and_then (as_early message) question_in) second)

pub stands_alone : (unread message : List ℕ) (left : Option (List ℕ)) → Begins unread message left
    → StandsAlone unread message
stands_alone unread message left begins =
    let h = begins.head in
    let n = begins.has.0 in
    let ends = begins.has.1 in
    let cut = first_whole unread h n begins.first ends begins.is in
    let k = cut.0 in
    let front : take (n + k) unread ≡ message = ap (λ first. first.bytes) cut.3 ∙ begins.whole in
    let alone : StandsAlone unread (take (n + k) unread) =
    let ends_too = length_of_head-take unread n (n + k) ends (omega arith) in
    let first = first_message-whole unread h n k ends cut.1 cut.2 in
    let size = length-take-le (n + k) unread cut.2 in
    let first_too = first_message-whole (take (n + k) unread) h n k ends_too cut.1 (omega (arith, size)) in
    let body : take k (drop n (take (n + k) unread)) ≡ take k (drop n unread) =
    ap (take k) (drop-take n k unread) ∙ take-take k k (drop n unread) (omega arith) in
    record {
      head = h;
      unread_has = begins.has;
      has = (n, ends_too, subst (λ bytes. IsGoodHead bytes h) (sym (take-take n (n + k) unread (omega arith))) begins.has.2);
      whole = subst IsOk (sym first_too) refl;
      unread_whole = subst IsOk (sym first) refl;
      same = same_question (take (n + k) unread) unread h n k body first_too first;
    } in
    subst (λ bytes. StandsAlone unread bytes) front alone
