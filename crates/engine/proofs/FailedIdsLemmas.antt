-- The failed ids of a machine with one more of them, and with one transfer more.
use Rattle.std.proofs.Common.{◌≡◌, ◌<◌, ℕ, Bool, true, false, eqb, ltb, cond, List, [], ◌∷◌, ◌++◌, refl, arith}
use Rattle.std.specs.List.{All}
use Rattle.std.proofs.lemmas.Bool.Decides.{nat_tests}
use Rattle.std.proofs.lemmas.Bool.{or_parts}
use Rattle.std.proofs.lemmas.List.Elements.{All-nil, All-cons, All-head, All-tail, All-weaker}
use Rattle.records.specs.declared.transfer.Transfer.{Transfer}
use Rattle.records.specs.Machine.{has_id, with_id}
use Rattle.engine.specs.Promises.{IsAscending, IsFailedId}
use Rattle.engine.proofs.FindByIdLemmas.{other_way, find_push_absent}

-- what holds of each id and of one more
all_with : (P : ℕ → Type 0) (before same : Bool) (id other : ℕ) (ids rest : List ℕ) → P id → All P (other ∷ ids) → All P rest → All P (cond before (id ∷ other ∷ ids) (cond same (other ∷ ids) (other ∷ rest)))
all_with P true same id other ids rest h all after = All-cons P id (other ∷ ids) h all
all_with P false true id other ids rest h all after = all
all_with P false false id other ids rest h all after = All-cons P other rest (All-head P other ids all) after

pub all_with_id : (P : ℕ → Type 0) (id : ℕ) (ids : List ℕ) → P id → All P ids → All P (with_id id ids)
all_with_id P id [] h all = All-cons P id [] h all
all_with_id P id (other ∷ ids) h all = all_with P (ltb id other) (eqb id other) id other ids (with_id id ids) h all (all_with_id P id ids h (All-tail P other ids all))

-- ascending ids stay ascending
behind : (id other : ℕ) → ltb id other ≡ false → eqb id other ≡ false → other < id
behind id other before same = grind (arith, nat_tests)

in_front : (id other : ℕ) → ltb id other ≡ true → id < other
in_front id other before = grind (arith, nat_tests)

further : (id other x : ℕ) → id < other → other < x → id < x
further id other x h k = omega (arith, h, k)

ascending_by : (before same : Bool) (id other : ℕ) (ids : List ℕ) → ltb id other ≡ before → eqb id other ≡ same → IsAscending (other ∷ ids) → IsAscending (with_id id ids) → IsAscending (cond before (id ∷ other ∷ ids) (cond same (other ∷ ids) (other ∷ with_id id ids)))
ascending_by true same id other ids lt eq asc rest =
    let front = in_front id other lt in
    (All-cons (λ x. id < x) other ids front (All-weaker (λ x. other < x) (λ x. id < x) (λ x h. further id other x front h) ids asc.0), asc)
ascending_by false true id other ids lt eq asc rest = asc
ascending_by false false id other ids lt eq asc rest = (all_with_id (λ x. other < x) id ids (behind id other lt eq) asc.0, rest)

pub ascending_with_id : (id : ℕ) (ids : List ℕ) → IsAscending ids → IsAscending (with_id id ids)
ascending_with_id id [] asc = (All-nil (λ x. id < x), tt)
ascending_with_id id (other ∷ ids) asc = ascending_by (ltb id other) (eqb id other) id other ids refl refl asc (ascending_with_id id ids asc.1)

-- a transfer whose id has not failed leaves them failed
pub failed_with_transfer : (entries : List Transfer) (t : Transfer) (ids : List ℕ) → has_id t.id ids ≡ false → All (IsFailedId entries) ids → All (IsFailedId (entries ++ t ∷ [])) ids
failed_with_transfer entries t [] none all = All-nil (IsFailedId (entries ++ t ∷ []))
failed_with_transfer entries t (id ∷ ids) none all =
    let parts = or_parts (eqb id t.id) (has_id t.id ids) none in
    let h = All-head (IsFailedId entries) id ids all in
    All-cons (IsFailedId (entries ++ t ∷ [])) id ids
    (record { positive = h.positive; below_max = h.below_max; unknown = find_push_absent (λ (x : Transfer). x.id) id entries t h.unknown (other_way id t.id parts.0) })
    (failed_with_transfer entries t ids parts.1 (All-tail (IsFailedId entries) id ids all))
