-- The failed ids of a valid machine's rows are good.
use Rattle.std.proofs.Common.{◌≡◌, ◌<◌, ◌≤◌, ℕ, zero, suc, true, false, leb, ◌⊎◌, List, length, get_or, Option, IfSome, IsSomeAnd, inl, inr, sym, ap, subst, arith}
use Rattle.std.specs.List.{All}
use Rattle.std.specs.List.Sorted.{IsPermutation}
use Rattle.std.proofs.lemmas.Bool.Decides.{leb_tells}
use Rattle.std.proofs.lemmas.List.Elements.{All-get_or}
use Rattle.std.proofs.lemmas.List.Sorted.{All-permutation, length_permutation}
use Rattle.std.proofs.lemmas.Option.{slice_get-get_or, slice_get_past}
use Rattle.records.specs.Machine.{Machine}
use Rattle.records.specs.Valid.{IsNextFailed}
use Rattle.rows.specs.Prescribed.{since}
use Rattle.rows.specs.Tables.{IsAscendingBy}
use Rattle.audit.specs.Table.{previous, IsGoodFailed, IsBadFailed}
use Rattle.audit.proofs.DerivedRows.{since_on, since_off, up_at}
use Rattle.audit.proofs.FirstPlaces.{good_at}

-- the id in front of another is below it
above_previous : (ids : List ℕ) (place d : ℕ) → IsAscendingBy (λ id. id) ids → place < length ids → IfSome (previous ids place) (λ other. other < get_or ids place d)
above_previous ids zero d up within = tt
above_previous ids (suc place) d up within =
    subst (λ (o : Option ℕ). IfSome o (λ other. other < get_or ids (suc place) d)) (sym (slice_get-get_or ids place d (omega (arith, within))))
    (up_at (λ (id : ℕ). id) ids place (suc place) d up (omega arith) within)

pub no_bad_failed : (version : ℕ) (m : Machine) (failed ids : List ℕ) → IsPermutation (since 3 version failed) ids → All (IsNextFailed m) failed → IsAscendingBy (λ id. id) ids → (place : ℕ) → IsBadFailed version m ids place → ⊥
no_bad_failed version m failed ids same next up place bad = elim (leb_tells (length ids) place) [
  | inl h ↦ subst (λ (o : Option ℕ). IsSomeAnd o (λ id. IsGoodFailed version m (previous ids place) id → ⊥)) (slice_get_past ids place h.1) bad
  | inr h ↦ by_version (leb_tells 3 version) h.1
]
  where
    by_version : ((leb 3 version ≡ true) × (3 ≤ version)) ⊎ ((leb 3 version ≡ false) × (version < 3)) → place < length ids → ⊥
    by_version (inl kept) within =
        let all = All-permutation (IsNextFailed m) (since 3 version failed) ids same (subst (All (IsNextFailed m)) (sym (since_on 3 version failed kept.1)) next) in
        good_at (IsGoodFailed version m (previous ids place)) ids place 0 within
        (record { kept = kept.1; apart = All-get_or (IsNextFailed m) ids place 0 within all; above = above_previous ids place 0 up within }) bad
    by_version (inr older) within =
        let none = ap (λ (xs : List ℕ). length xs) (since_off 3 version failed older.1) in
        let long = length_permutation (since 3 version failed) ids same in
        omega (arith, none, long, within)
