-- The numbers under which due times are kept.
use Rattle.std.proofs.Common.{◌≡◌, ◌≢◌, ℤ, ◌⊎◌, inl, inr, false, refl, sym}
use Rattle.std.specs.Cmp.{ranked_equal}
use Rattle.std.specs.Ordering.{int_cmp, int_eq, is_eq}
use Rattle.std.proofs.lemmas.Bool.{cases_Bool}
use Rattle.std.proofs.lemmas.Bool.Decides.{Decides-int_eq}
use Rattle.std.proofs.lemmas.Cmp.{int_ranked}

-- two numbers are equal, or they are not
pub same_number : (a b : ℤ) → (a ≡ b) ⊎ (a ≢ b)
same_number a b = elim (cases_Bool (int_eq a b)) [
  | inl equal ↦ inl ((Decides-int_eq a b).0 equal)
  | inr differs ↦ inr (λ same. absurd (let e = (Decides-int_eq a b).1 same in cc))
]

-- the key of another number is another one
pub other_key : (number other : ℤ) → other ≢ number → is_eq (int_cmp number other) ≡ false
other_key number other differs = elim (cases_Bool (is_eq (int_cmp number other))) [
  | inl same ↦
      absurd (differs (sym ((ranked_equal number other _ (int_ranked number other _ refl)).0 same)))
  | inr apart ↦ apart
]
