-- How faults that are told in cases are told apart.
use Rattle.std.proofs.Common.{◌≡◌, ◌⊎◌, ℕ, inl, inr, refl, sym, ◌∙◌, arith}
use Rattle.openings.specs.Found.{IsUnavailable}
use Rattle.openings.specs.Told.{IsNoneTold, case_of}
use Rattle.openings.specs.declared.opening.OpenFault.{OpenFault}
use Rattle.openings.specs.declared.opening.OpenFault.TheVariants as fault

-- two cases that part at one question have one number, if those behind it have
pub level : {A B : Type 0} (X : ℕ → Type 0) (n m k : ℕ) → (A → B → ⊥) → (X n → X m → n ≡ m)
    → (A × (n ≡ k)) ⊎ (B × X n) → (A × (m ≡ k)) ⊎ (B × X m) → n ≡ m
level X n m k apart more (inl x) (inl y) = x.1 ∙ sym y.1
level X n m k apart more (inl x) (inr y) = absurd (apart x.0 y.0)
level X n m k apart more (inr x) (inl y) = absurd (apart y.0 x.0)
level X n m k apart more (inr x) (inr y) = more x.1 y.1

-- no fault's case has this number, which stands for that none is told
pub no_case_7 : (told : OpenFault) → case_of told ≡ 7 → ⊥
no_case_7 fault.InUse is = omega (arith, is)
no_case_7 fault.Unreadable is = omega (arith, is)
no_case_7 fault.NotALedger is = omega (arith, is)
no_case_7 fault.OldSchema is = omega (arith, is)
no_case_7 fault.NewerSchema is = omega (arith, is)
no_case_7 (fault.Damaged damage) is = omega (arith, is)
no_case_7 (fault.Unavailable why) is = omega (arith, is)

-- what is told of nothing but what is unavailable
pub unless_available : (Told : OpenFault → Type 0) →
    ((told : OpenFault) → ¬ IsUnavailable told → Told told → ⊥)
    → IsNoneTold Told
unless_available Told none fault.InUse told = absurd (none fault.InUse (λ is. let e = is.1 in cc) told)
unless_available Told none fault.Unreadable told = absurd (none fault.Unreadable (λ is. let e = is.1 in cc) told)
unless_available Told none fault.NotALedger told = absurd (none fault.NotALedger (λ is. let e = is.1 in cc) told)
unless_available Told none fault.OldSchema told = absurd (none fault.OldSchema (λ is. let e = is.1 in cc) told)
unless_available Told none fault.NewerSchema told = absurd (none fault.NewerSchema (λ is. let e = is.1 in cc) told)
unless_available Told none (fault.Damaged damage) told = absurd (none (fault.Damaged damage) (λ is. let e = is.1 in cc) told)
unless_available Told none (fault.Unavailable why) told = (why, refl)
