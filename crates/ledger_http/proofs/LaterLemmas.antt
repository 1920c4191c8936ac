-- What comes later changes nothing of a message that stands first.
use Rattle.std.proofs.Common.{◌≡◌, ◌≢◌, refl, ap, sym, subst, ◌∙◌, inl, inr, ⊎_elim, ◌⊎◌, ◌≤◌, ◌<◌, ◌+◌, ◌-◌, suc, if◌then◌else◌, Bool, true, false, ℕ, List, [], ◌∷◌, ◌++◌, length, take, drop, Option, Some, None, option_map, ok_or, Result, Ok, Err, nat_eq, nat_le, nat_lt, arith}
use Rattle.std.proofs.lemmas.Bool.{cases_lt, ltb-false, le-ltb, true≢false}
use Rattle.std.proofs.lemmas.List.{length-take, length-append, take-append-le, drop-append-le, take_all}
use Rattle.std.proofs.Math.Seq.{take-append-add}
use Rattle.std.specs.List.{starts_with}
use Rattle.std.specs.Cmp.Lexicographic.{pointwise}
use Rattle.httparse.specs.Grammar.{RequestHead}
use Rattle.ledger_http.specs.declared.refusal.Refusal.{Refusal}
use Rattle.ledger_http.specs.declared.refusal.Refusal.TheVariants.{BadHead, Truncated, HeadTooLarge}
use Rattle.ledger_http.specs.Limits.{max_head}
use Rattle.ledger_http.specs.Results.{and_then}
use Rattle.ledger_http.specs.Head.{IsGoodHead}
use Rattle.ledger_http.specs.Message.{blank_line, end_of_head, length_of_head, length_of_body, HasHead, First, message_of, cut_at, first_message, Begins, IsRefused, IsAnnounced}
use Rattle.ledger_http.specs.First.{IsHeadRefused}
use Rattle.ledger_http.proofs.EndLemmas.{short_start}
use Rattle.ledger_http.proofs.MessageLemmas.{first_message-whole}
use Rattle.ledger_http.proofs.MeaningLemmas.{end_at_least, end_of_tail, of_ok_or, first_whole}
use Rattle.ledger_http.proofs.FirstLemmas.{IsRefused-no_end, IsRefused-head}

-- a head ends within the bytes
tail_within : (b : Bool) (end : Option ℕ) (n size : ℕ) → (b ≡ true → 4 ≤ suc size)
    → ((m : ℕ) → end ≡ Some m → m ≤ size)
    → (if b then Some 4 else option_map suc end) ≡ Some n → n ≤ suc size
tail_within true end n size here there ends =
    let same : 4 ≡ n = cc in let enough = here refl in omega arith
tail_within false None n size here there ends = cc
tail_within false (Some m) n size here there ends =
    let same : suc m ≡ n = cc in omega (arith, there m refl)

begun : (bytes : List ℕ) → starts_with nat_eq bytes blank_line ≡ true → 4 ≤ length bytes
begun bytes here =
    ⊎_elim
    (λ (few : length bytes < 4). absurd (true≢false (sym here ∙ short_start bytes few)))
    (λ (enough : 4 ≤ length bytes). enough)
    (cases_lt (length bytes) 4)

end_within : (bytes : List ℕ) (n : ℕ) → end_of_head bytes ≡ Some n → n ≤ length bytes
end_within [] n ends = cc
end_within (b ∷ bytes) n ends =
    tail_within (starts_with nat_eq (b ∷ bytes) blank_line) (end_of_head bytes) n (length bytes)
    (begun (b ∷ bytes)) (end_within bytes) ends

pub length_of_head-within : (bytes : List ℕ) (n : ℕ) → length_of_head bytes ≡ Ok n
    → (n ≤ max_head) × (n ≤ length bytes)
length_of_head-within bytes n ends =
    let within = end_within (take max_head bytes) n (of_ok_or (end_of_head (take max_head bytes)) _ n ends) in
    (omega (arith, within, length-take max_head bytes), omega (arith, within, length-take max_head bytes))

-- a head that ends stays where it is
end_of_head-append : (bytes later : List ℕ) (n : ℕ) → end_of_head bytes ≡ Some n
    → end_of_head (bytes ++ later) ≡ Some n
end_of_head-append [] later n ends = cc
end_of_head-append (b ∷ bytes) later n ends =
    let room : 4 ≤ length (b ∷ bytes) =
    omega (arith, end_at_least (b ∷ bytes) n ends, end_within (b ∷ bytes) n ends) in
    ap (λ xs. if pointwise nat_eq blank_line xs then Some 4 else option_map suc (end_of_head (bytes ++ later)))
    (take-append-le 4 (b ∷ bytes) later room)
    ∙ end_of_tail (starts_with nat_eq (b ∷ bytes) blank_line) (end_of_head bytes) (end_of_head (bytes ++ later)) n n
    (λ k here few. end_of_head-append bytes later k here) ends (omega arith)

-- where a head has to end, with more bytes behind the first
front_more : (bytes later : List ℕ) → length bytes < max_head
    → take max_head (bytes ++ later) ≡ bytes ++ take (max_head - length bytes) later
front_more bytes later few =
    let room : max_head ≡ length bytes + (max_head - length bytes) = omega arith in
    ap (λ n. take n (bytes ++ later)) room ∙ take-append-add bytes later (max_head - length bytes)

pub length_of_head-append : (bytes later : List ℕ) (n : ℕ) → length_of_head bytes ≡ Ok n
    → length_of_head (bytes ++ later) ≡ Ok n
length_of_head-append bytes later n ends =
    let end = of_ok_or (end_of_head (take max_head bytes)) _ n ends in
    let refusal : Refusal = if nat_lt (length (bytes ++ later)) max_head then Truncated else HeadTooLarge in
    ap (λ e. ok_or e refusal)
    (⊎_elim
    (λ (few : length bytes < max_head).
    ap end_of_head (front_more bytes later few)
    ∙ end_of_head-append bytes (take (max_head - length bytes) later) n
    (ap end_of_head (sym (take_all max_head bytes (omega arith))) ∙ end))
    (λ (enough : max_head ≤ length bytes). ap end_of_head (take-append-le max_head bytes later enough) ∙ end)
    (cases_lt (length bytes) max_head))

-- a head without end that is refused is too long
too_long : (end : Option ℕ) (b : Bool) (refusal : Refusal)
    → ok_or end (if b then Truncated else HeadTooLarge) ≡ Err refusal → refusal ≢ Truncated
    → (end ≡ None) × (b ≡ false) × (HeadTooLarge ≡ refusal)
too_long (Some n) b refusal refused other = cc
too_long None true refusal refused other = let same : Truncated ≡ refusal = cc in absurd (other (sym same))
too_long None false refusal refused other = (refl, refl, cc)

length_of_head-refused : (bytes later : List ℕ) (refusal : Refusal) → length_of_head bytes ≡ Err refusal
    → refusal ≢ Truncated → length_of_head (bytes ++ later) ≡ Err refusal
length_of_head-refused bytes later refusal refused other =
    let long = too_long (end_of_head (take max_head bytes)) (nat_lt (length bytes) max_head) refusal refused other in
    let enough : max_head ≤ length bytes = ltb-false (length bytes) max_head long.1 in
    ap (λ end. ok_or end (if nat_lt (length (bytes ++ later)) max_head then Truncated else HeadTooLarge))
    (ap end_of_head (take-append-le max_head bytes later enough) ∙ long.0)
    ∙ ap (λ b. Err (if b then Truncated else HeadTooLarge))
    (le-ltb (length (bytes ++ later)) max_head (omega (arith, length-append bytes later)))
    ∙ ap (λ r. Err r) long.2

-- what is refused is refused at its head, or is cut short
cut_short : (b : Bool) (first : First) (refusal : Refusal)
    → (if b then Ok first else Err Truncated) ≡ Err refusal → refusal ≡ Truncated
cut_short true first refusal refused = cc
cut_short false first refusal refused = cc

body_refused : (size : Result ℕ Refusal) (bytes : List ℕ) (h : RequestHead) (n : ℕ) (refusal : Refusal)
    → and_then size (λ k. cut_at bytes h n k) ≡ Err refusal → refusal ≢ Truncated → size ≡ Err refusal
body_refused (Ok k) bytes h n refusal refused other =
    absurd (other (cut_short (nat_le (n + k) (length bytes)) (message_of bytes h n k) refusal refused))
body_refused (Err why) bytes h n refusal refused other = cc

refused_parts : (size : Result ℕ Refusal) (bytes : List ℕ) (head : Option RequestHead) (refusal : Refusal)
    → length_of_head bytes ≡ size → HasHead bytes head
    → and_then size (λ n. and_then (ok_or head BadHead) (λ h. and_then (length_of_body h) (λ k. cut_at bytes h n k))) ≡ Err refusal
    → refusal ≢ Truncated
    → (length_of_head bytes ≡ Err refusal)
    ⊎ ((n : ℕ) × (length_of_head bytes ≡ Ok n) × IsHeadRefused (take n bytes) refusal)
refused_parts (Err why) bytes head refusal size has refused other =
    let same : why ≡ refusal = cc in inl (size ∙ ap (λ r. Err r) same)
refused_parts (Ok n) bytes None refusal size has refused other =
    let bad : refusal ≡ BadHead = cc in inr (n, size, inl (bad, has n size))
refused_parts (Ok n) bytes (Some h) refusal size has refused other =
    let same : has.0 ≡ n = cc in
    inr (
      n,
      size,
      inr (h, subst (λ m. IsGoodHead (take m bytes) h) same has.2, body_refused (length_of_body h) bytes h n refusal refused other),
    )

-- more behind a refused message
head_refused_append : (bytes later : List ℕ) (n : ℕ) (refusal : Refusal) → length_of_head bytes ≡ Ok n
    → IsHeadRefused (take n bytes) refusal → IsRefused (bytes ++ later) refusal
head_refused_append bytes later n refusal ends refused =
    let within = length_of_head-within bytes n ends in
    IsRefused-head (bytes ++ later) n refusal (length_of_head-append bytes later n ends)
    (subst (λ head. IsHeadRefused head refusal) (sym (take-append-le n bytes later within.1)) refused)

not_empty : (bytes later : List ℕ) → bytes ≢ [] → bytes ++ later ≢ []
not_empty [] later some = λ e. some refl
not_empty (b ∷ bytes) later some = λ e. cc

-- a head without end that is refused for good
pub IsRefused-long : (bytes : List ℕ) (refusal : Refusal) → length_of_head bytes ≡ Err refusal
    → refusal ≢ Truncated → IsRefused bytes refusal
IsRefused-long [] refusal refused other =
    let open_head : length_of_head [] ≡ Err Truncated = refl in
    let same : refusal ≡ Truncated = cc in absurd (other same)
IsRefused-long (b ∷ bytes) refusal refused other = IsRefused-no_end (b ∷ bytes) refusal (λ e. cc) refused

pub refused-append : (bytes later : List ℕ) (refusal : Refusal) → IsRefused bytes refusal
    → refusal ≢ Truncated → IsRefused (bytes ++ later) refusal
unfolding first_message
refused-append bytes later refusal refused other =
    ⊎_elim
    (λ (no_end : length_of_head bytes ≡ Err refusal).
    IsRefused-no_end (bytes ++ later) refusal (not_empty bytes later refused.some)
    (length_of_head-refused bytes later refusal no_end other))
    (λ (at_head : (n : ℕ) × (length_of_head bytes ≡ Ok n) × IsHeadRefused (take n bytes) refusal).
    head_refused_append bytes later at_head.0 refusal at_head.1 at_head.2)
    (refused_parts (length_of_head bytes) bytes refused.head refusal refl refused.has refused.is other)

-- more behind a good head
has_append : (bytes later : List ℕ) (h : RequestHead) → HasHead bytes (Some h) → HasHead (bytes ++ later) (Some h)
has_append bytes later h has = (
  has.0,
  length_of_head-append bytes later has.0 has.1,
  subst (λ head. IsGoodHead head h)
      (sym (take-append-le has.0 bytes later (length_of_head-within bytes has.0 has.1).1)) has.2,
)

pub announced-append : (bytes later : List ℕ) → IsAnnounced bytes → IsAnnounced (bytes ++ later)
announced-append bytes later announced = record {
  head = announced.head;
  size = announced.size;
  has = has_append bytes later announced.head announced.has;
  allowed = announced.allowed;
}

-- more behind a whole message
pub begins-append : (bytes message rest later : List ℕ) → Begins bytes message (Some rest)
    → Begins (bytes ++ later) message (Some (rest ++ later))
begins-append bytes message rest later begins =
    let h = begins.head in
    let n = begins.has.0 in
    let ends = begins.has.1 in
    let cut = first_whole bytes h n begins.first ends begins.is in
    let k = cut.0 in
    let same_rest : rest ≡ drop (n + k) bytes = (let left : Some rest ≡ Some begins.first.rest = begins.rest in let here : rest ≡ begins.first.rest = cc in here ∙ sym (ap (λ first. first.rest) cut.3)) in
    record {
      head = h;
      first = message_of (bytes ++ later) h n k;
      has = has_append bytes later h begins.has;
      is = first_message-whole (bytes ++ later) h n k (length_of_head-append bytes later n ends) cut.1
          (omega (arith, cut.2, length-append bytes later));
      whole = take-append-le (n + k) bytes later cut.2 ∙ ap (λ first. first.bytes) cut.3 ∙ begins.whole;
      rest = ap (λ xs. Some (xs ++ later)) same_rest ∙ ap (λ xs. Some xs) (sym (drop-append-le (n + k) bytes later cut.2));
    }
