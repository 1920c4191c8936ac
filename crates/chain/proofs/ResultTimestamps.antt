-- The results of a chain, with the timestamps of their events.
use Rattle.std.proofs.Common.{◌≡◌, ℕ, ◌+◌, ◌-◌, ◌<◌, Bool, true, false, Option, Some, None, IfSome}
use Rattle.std.proofs.Common.{List, [], ◌∷◌, ◌++◌, length, take, get_or, replicate, refl, arith, ap}
use Rattle.std.proofs.Common.{◌∙◌, sym, append_assoc, add-zero, length-append}
use Rattle.std.proofs.lemmas.List.{take_more, length-take-le, length-replicate}
use Rattle.records.specs.declared.reply.EventResult.{EventResult}
use Rattle.records.specs.declared.reply.Refusal.{Refusal}
use Rattle.records.specs.Chains.{Rules, chain_size}
use Rattle.records.specs.Step.{with_timestamps}
use Rattle.chain.specs.Chains.{chain_from, results_from}

pub with_timestamps-append :
    {R : Type 0} (timestamp : ℕ) (xs ys : List R) →
    with_timestamps timestamp (xs ++ ys) ≡ with_timestamps timestamp xs
    ++ with_timestamps (timestamp + length xs) ys
with_timestamps-append timestamp [] ys = rw add-zero refl
with_timestamps-append timestamp (x ∷ xs) ys =
    let e : timestamp + 1 + length xs ≡ timestamp + length (x ∷ xs) = omega arith in
    ap (λ rest. record { result = x; timestamp = timestamp } ∷ rest)
    (with_timestamps-append (timestamp + 1) xs ys
    ∙ ap (λ t. with_timestamps (timestamp + 1) xs ++ with_timestamps t ys) e)

-- one result more
pub with_timestamps_more :
    {R : Type 0} (old items new : List (EventResult R)) (results : List R) (first i : ℕ)
    (result : R) → items ≡ old ++ with_timestamps first (take i results) →
    new ≡ items ++ record { result = result; timestamp = first + i } ∷ [] → i < length results →
    result ≡ get_or results i result → new ≡ old ++ with_timestamps first (take (i + 1) results)
with_timestamps_more old items new results first i result so_far pushed within item =
    let taken : take (i + 1) results ≡ take i results ++ result ∷ [] =
    take_more results i result within ∙ ap (λ x. take i results ++ x ∷ []) (sym item) in
    let size : length (take i results) ≡ i = length-take-le i results (omega arith) in
    rw (
      taken,
      with_timestamps-append first (take i results) (result ∷ []),
      size,
      ← append_assoc old (with_timestamps first (take i results))
          (record { result = result; timestamp = first + i } ∷ []),
      ← so_far,
    ) pushed

fallen :
    {R : Type 0} (failed : ℕ) (n : ℕ) (a b : R) → failed < n →
    length (replicate failed a ++ b ∷ replicate (n - failed - 1) a) ≡ n
fallen failed n a b within =
    rw (length-append, length-replicate) (omega (arith, length-replicate (n - failed - 1) a))

-- as many as the chain takes places
pub length-results_from :
    {E R : Type 0} (rules : Rules E R) (is_open : Bool) (judged : List E)
    (refusal : Option (Refusal R)) → IfSome refusal (λ r. r.place < length judged) →
    length (results_from rules (chain_from is_open judged) refusal)
    ≡ chain_size (chain_from is_open judged)
length-results_from rules true judged None within = rw (length-append, length-replicate) refl
length-results_from rules true judged (Some refusal) within =
    rw (
      length-append,
      fallen refusal.place (length judged) rules.chain_failed refusal.result within,
    ) refl
length-results_from rules false judged None within = length-replicate (length judged) rules.accepted
length-results_from rules false judged (Some refusal) within =
    fallen refusal.place (length judged) rules.chain_failed refusal.result within
