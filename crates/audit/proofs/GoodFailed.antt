-- Failed ids of which none is bad.
use Rattle.std.proofs.Common.{◌≡◌, ◌<◌, ℕ, zero, suc, Bool, true, false, leb, cond, List, [], ◌∷◌, length, get_or, Option, IfSome, inl, inr, refl, subst, arith}
use Rattle.std.proofs.lemmas.Bool.Decides.{leb_tells}
use Rattle.std.proofs.lemmas.Option.{slice_get-get_or}
use Rattle.records.specs.EntryByEntry.{AreFailedApart}
use Rattle.records.specs.Machine.{Machine, max_amount, transfer_with}
use Rattle.records.specs.Valid.{IsNextFailed}
use Rattle.rows.specs.Prescribed.{since}
use Rattle.rows.specs.Tables.{IsAscendingBy}
use Rattle.audit.specs.Table.{previous, IsGoodFailed, IsBadFailed}
use Rattle.audit.proofs.DerivedRows.{since_on}
use Rattle.audit.proofs.FirstPlaces.{bad_at}
use Rattle.audit.proofs.StableCells.{less_stable, le_stable, none_stable}

module _ (version : ℕ) (m : Machine) (failed : List ℕ) (good : (place : ℕ) → IsBadFailed version m failed place → ⊥) where
  -- each is good, if that can be told
  not_bad : (place d : ℕ) → place < length failed → (IsGoodFailed version m (previous failed place) (get_or failed place d) → ⊥) → ⊥
  not_bad place d within bad = good place (bad_at (IsGoodFailed version m (previous failed place)) failed place d within bad)

  pub next_failed : (place d : ℕ) → place < length failed → IsNextFailed m (get_or failed place d)
  next_failed place d within = record {
    positive = less_stable 0 (get_or failed place d) (λ no. not_bad place d within (λ g. no g.apart.positive));
    below_max = less_stable (get_or failed place d) max_amount (λ no. not_bad place d within (λ g. no g.apart.below_max));
    unknown = none_stable (transfer_with (get_or failed place d) m.transfers) (λ no. not_bad place d within (λ g. no g.apart.unknown));
  }

  above_previous : (place d : ℕ) → suc place < length failed → get_or failed place d < get_or failed (suc place) d
  above_previous place d within =
      let at = slice_get-get_or failed place d (omega (arith, within)) in
      less_stable (get_or failed place d) (get_or failed (suc place) d)
      (λ no. not_bad (suc place) d within (λ g. no (subst (λ (o : Option ℕ). IfSome o (λ other. other < get_or failed (suc place) d)) at g.above)))

  rise : (i j d : ℕ) → i < j → j < length failed → get_or failed i d < get_or failed j d
  rise i zero d less within = absurd (omega (arith, less))
  rise i (suc j) d less within = elim (leb_tells j i) [
    | inl h ↦
        let le = h.1 in
        let same : j ≡ i = omega (arith, less, le) in
        subst (λ (k : ℕ). get_or failed k d < get_or failed (suc j) d) same (above_previous j d within)
    | inr h ↦
        let before = rise i j d h.1 (omega (arith, within)) in
        let here = above_previous j d within in
        omega (arith, before, here)
  ]

  pub failed_apart : AreFailedApart (record m { failed = failed })
  failed_apart = record {
    ascend = rise;
    apart = λ place d within. let next = next_failed place d within in record { positive = next.positive; below_max = next.below_max; unknown = next.unknown };
  }

  pub failed_kept : since 3 version failed ≡ failed
  failed_kept = by_length failed refl
    where
      nothing : (b : Bool) → cond {A = List ℕ} b [] [] ≡ []
      nothing true = refl
      nothing false = refl

      by_length : (ids : List ℕ) → ids ≡ failed → since 3 version ids ≡ ids
      by_length [] same = nothing (leb 3 version)
      by_length (id ∷ ids) same =
          since_on 3 version (id ∷ ids) (le_stable 3 version (λ no. not_bad 0 0 (subst (λ (xs : List ℕ). 0 < length xs) same (omega arith)) (λ g. no g.kept)))

-- ascending, as tables say it
pub ascending_from_pairs : (ids : List ℕ) → ((i j d : ℕ) → i < j → j < length ids → get_or ids i d < get_or ids j d) → IsAscendingBy (λ id. id) ids
ascending_from_pairs [] up = tt
ascending_from_pairs (id ∷ ids) up =
    ((λ k d within. up 0 (suc k) d (omega arith) (omega (arith, within))), ascending_from_pairs ids (λ i j d less within. up (suc i) (suc j) d (omega (arith, less)) (omega (arith, within))))
