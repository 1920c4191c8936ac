-- Rows that cannot differ are the same.
use Rattle.std.proofs.Common.{◌≡◌, ◌<◌, ◌≤◌, ℕ, ℤ, zero, suc, List, [], ◌∷◌, Option, Some, None, inl, inr, refl, ap, ap₂, arith}
use Rattle.std.specs.Ordering.{int_eq}
use Rattle.std.proofs.lemmas.Bool.{both_ways, cases_Bool}
use Rattle.std.proofs.lemmas.Bool.Decides.{Decides-int_eq, eqb_tells, leb_tells}
use Rattle.std.proofs.lemmas.Option.{same_Some}
use Rattle.rows.specs.declared.balance_cells.BalanceCells.{BalanceCells}
use Rattle.rows.specs.declared.status_cells.StatusCells.{StatusCells}
use Rattle.rows.specs.declared.history_cells.HistoryCells.{HistoryCells}
use Rattle.audit.specs.Order.{Differ}

-- what cannot be otherwise is so
abbrev pub IsStable : Type 0 → Type 0
IsStable A = (a b : A) → ((a ≡ b → ⊥) → ⊥) → a ≡ b

number_stable : IsStable ℕ
number_stable a b not = elim (eqb_tells a b) [ inl h ↦ h.1 | inr h ↦ absurd (not h.1) ]

whole_stable : IsStable ℤ
whole_stable a b not =
    let d = Decides-int_eq a b in
    elim (cases_Bool (int_eq a b)) [ inl h ↦ d.0 h | inr h ↦ absurd (not (λ e. both_ways (int_eq a b) h (d.1 e))) ]

heads : {A : Type 0} (x y : A) (xs ys : List A) → (x ∷ xs) ≡ (y ∷ ys) → (x ≡ y) × (xs ≡ ys)
heads x y xs ys e = (cc, cc)

list_stable : {A : Type 0} → IsStable A → IsStable (List A)
list_stable stable [] [] not = refl
list_stable stable [] (y ∷ ys) not = absurd (not (λ e. absurd cc))
list_stable stable (x ∷ xs) [] not = absurd (not (λ e. absurd cc))
list_stable stable (x ∷ xs) (y ∷ ys) not =
    ap₂ ◌∷◌ (stable x y (λ no. not (λ e. no (heads x y xs ys e).0))) (list_stable stable xs ys (λ no. not (λ e. no (heads x y xs ys e).1)))

bytes_stable : IsStable (List ℕ)
bytes_stable = list_stable number_stable

-- of one field
field : {A B : Type 0} (f : A → B) → IsStable B → (a b : A) → ((a ≡ b → ⊥) → ⊥) → f a ≡ f b
field f stable a b not = stable (f a) (f b) (λ no. not (λ e. no (ap f e)))

pub balance_stable : IsStable BalanceCells
balance_stable a b not =
    let part = λ (f : BalanceCells → List ℕ). field f bytes_stable a b not in
    let account = part (λ c. c.account) in
    let dp = part (λ c. c.dp) in
    let dd = part (λ c. c.dd) in
    let cp = part (λ c. c.cp) in
    let cc = part (λ c. c.cc) in
    λ i. record { account = account i; dp = dp i; dd = dd i; cp = cp i; cc = cc i }

pub status_stable : IsStable StatusCells
status_stable a b not =
    let transfer = field (λ (c : StatusCells). c.transfer) bytes_stable a b not in
    let state = field (λ (c : StatusCells). c.state) whole_stable a b not in
    let due = field (λ (c : StatusCells). c.due) whole_stable a b not in
    λ i. record { transfer = transfer i; state = state i; due = due i }

pub history_stable : IsStable HistoryCells
history_stable a b not =
    let part = λ (f : HistoryCells → List ℕ). field f bytes_stable a b not in
    let account = part (λ c. c.account) in
    let timestamp = field (λ (c : HistoryCells). c.timestamp) whole_stable a b not in
    let dp = part (λ c. c.dp) in
    let dd = part (λ c. c.dd) in
    let cp = part (λ c. c.cp) in
    let cc = part (λ c. c.cc) in
    λ i. record { account = account i; timestamp = timestamp i; dp = dp i; dd = dd i; cp = cp i; cc = cc i }

-- lists that differ at no place
pub no_difference : {A : Type 0} → IsStable A → (xs ys : List A) → ((place : ℕ) → Differ xs ys place → ⊥) → xs ≡ ys
no_difference stable [] [] none = refl
no_difference stable [] (y ∷ ys) none = absurd (none zero (λ e. absurd cc))
no_difference stable (x ∷ xs) [] none = absurd (none zero (λ e. absurd cc))
no_difference stable (x ∷ xs) (y ∷ ys) none =
    ap₂ ◌∷◌ (stable x y (λ no. none zero (λ e. no (same_Some x y e)))) (no_difference stable xs ys (λ place differ. none (suc place) differ))

-- orders that cannot be otherwise
pub less_stable : (a b : ℕ) → ((a < b → ⊥) → ⊥) → a < b
less_stable a b not = elim (leb_tells b a) [ inl h ↦ absurd (not (λ less. let le = h.1 in omega (arith, le, less))) | inr h ↦ h.1 ]

pub le_stable : (a b : ℕ) → ((a ≤ b → ⊥) → ⊥) → a ≤ b
le_stable a b not = elim (leb_tells a b) [ inl h ↦ h.1 | inr h ↦ absurd (not (λ le. let less = h.1 in omega (arith, le, less))) ]

pub none_stable : {A : Type 0} (found : Option A) → ((found ≡ None → ⊥) → ⊥) → found ≡ None
none_stable None not = refl
none_stable (Some x) not = absurd (not (λ e. absurd cc))
