-- The first chain of a batch ends at the first event that is not linked, or with the batch.
use Rattle.std.proofs.Common.{◌≡◌, ℕ, zero, suc, ◌+◌, ◌-◌, ◌<◌, ◌≤◌, Bool, true, false, not, Some}
use Rattle.std.proofs.Common.{None, List, [], ◌∷◌, length, take, drop, get_or, refl, arith, ap, ◌∙◌}
use Rattle.std.proofs.Common.{sym, add-one}
use Rattle.std.specs.List.{position, position_or_len}
use Rattle.std.proofs.lemmas.Bool.Decides.{nat_tests}
use Rattle.std.proofs.lemmas.List.{length-take-le, drop_all}
use Rattle.std.proofs.lemmas.List.Sums.{prefix_len_passes}
use Rattle.std.proofs.lemmas.List.Quantifiers.{position-Some}
use Rattle.records.specs.Chains.{chains_of, with_linked}
use Rattle.records.specs.Chains.Chain.{Closed, Open}

pub no_chain : {E : Type 0} (linked : E → Bool) → chains_of linked [] ≡ []
unfolding chains_of
no_chain linked = refl

-- one event more in front
linked_first :
    {E : Type 0} (linked : E → Bool) (ev : E) (batch : List E) → linked ev ≡ true →
    chains_of linked (ev ∷ batch) ≡ with_linked ev (chains_of linked batch)
unfolding chains_of
linked_first linked ev batch h = rw h

closed_first :
    {E : Type 0} (linked : E → Bool) (ev : E) (batch : List E) → linked ev ≡ false →
    chains_of linked (ev ∷ batch) ≡ Closed (ev ∷ []) ∷ chains_of linked batch
unfolding chains_of
closed_first linked ev batch h = rw h

closed_at :
    {E : Type 0} (linked : E → Bool) (batch : List E) (i : ℕ) → i < length batch →
    ((k : ℕ) (d : E) → k < i → linked (get_or batch k d) ≡ true) →
    ((d : E) → linked (get_or batch i d) ≡ false) →
    chains_of linked batch ≡ Closed (take (suc i) batch) ∷ chains_of linked (drop (suc i) batch)
closed_at linked [] i within before last = absurd (omega arith)
closed_at linked (ev ∷ batch) zero within before last = closed_first linked ev batch (last ev)
closed_at linked (ev ∷ batch) (suc i) within before last =
    linked_first linked ev batch (before 0 ev (omega arith))
    ∙ ap (with_linked ev)
    (closed_at linked batch i (omega arith) (λ k d h. before (suc k) d (omega arith)) last)

open_all :
    {E : Type 0} (linked : E → Bool) (ev : E) (batch : List E) →
    ((k : ℕ) (d : E) → k < suc (length batch) → linked (get_or (ev ∷ batch) k d) ≡ true) →
    chains_of linked (ev ∷ batch) ≡ Open (take (length batch) (ev ∷ batch)) ∷ []
open_all linked ev [] all =
    linked_first linked ev [] (all 0 ev (omega arith)) ∙ ap (with_linked ev) (no_chain linked)
open_all linked ev (next ∷ batch) all =
    linked_first linked ev (next ∷ batch) (all 0 ev (omega arith))
    ∙ ap (with_linked ev) (open_all linked next batch (λ k d h. all (suc k) d (omega arith)))

not_false : (b : Bool) → not b ≡ false → b ≡ true
not_false true h = refl
not_false false h = cc

not_true : (b : Bool) → not b ≡ true → b ≡ false
not_true true h = cc
not_true false h = refl

none_passes :
    {E : Type 0} (p : E → Bool) (batch : List E) → None ≡ position p batch →
    length batch ≤ position_or_len p batch
none_passes p batch none = grind (arith, nat_tests)

-- the first chain is closed at the first event that is not linked
pub closed_chain :
    {E : Type 0} (linked : E → Bool) (batch : List E) (i : ℕ) →
    Some i ≡ position (λ ev. not (linked ev)) batch →
    chains_of linked batch
    ≡ Closed (take (i + 1) batch) ∷ chains_of linked (drop (length (take (i + 1) batch)) batch)
closed_chain {E} linked [] i found = absurd (grind (arith, nat_tests))
closed_chain {E} linked (ev ∷ batch) i found =
    let at = λ (d : E). position-Some (λ (x : E). not (linked x)) (ev ∷ batch) i d (sym found) in
    let within : i + 1 ≤ length (ev ∷ batch) = omega (arith, (at ev).0) in
    rw (length-take-le (i + 1) (ev ∷ batch) within, add-one i)
    (closed_at linked (ev ∷ batch) i (at ev).0 (λ k d h. not_false _ ((at d).2 k h))
    (λ d. not_true _ (at d).1))

-- where all events are linked the batch is one open chain
pub open_chain :
    {E : Type 0} (linked : E → Bool) (batch : List E) → 0 < length batch →
    None ≡ position (λ ev. not (linked ev)) batch →
    chains_of linked batch
    ≡ Open (take (length batch - 1) batch) ∷ chains_of linked
    (drop (length (take (length batch - 1) batch) + 1) batch)
open_chain {E} linked [] some none = absurd (omega arith)
open_chain {E} linked (ev ∷ batch) some none =
    let passed : length (ev ∷ batch) ≤ position_or_len (λ x. not (linked x)) (ev ∷ batch) =
    none_passes (λ (x : E). not (linked x)) (ev ∷ batch) none in
    let all = λ (k : ℕ) (d : E) (h : k < suc (length batch)). not_true
    (not (linked (get_or (ev ∷ batch) k d)))
    (prefix_len_passes (λ (x : E). not (not (linked x))) (ev ∷ batch) k d (omega arith)) in
    let size : suc (length batch) - 1 ≡ length batch = omega arith in
    let taken : length (take (length batch) (ev ∷ batch)) ≡ length batch =
    length-take-le (length batch) (ev ∷ batch) (omega arith) in
    rw (size, taken, drop_all (length batch + 1) (ev ∷ batch) (omega arith), no_chain linked)
    (open_all linked ev batch (λ k d h. not_false _ (all k d h)))
