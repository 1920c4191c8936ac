-- The first place at which one of two facts holds.
use Rattle.std.proofs.Common.{◌≡◌, ◌<◌, ◌≤◌, ◌+◌, ℕ, zero, suc, min, ◌⊎◌, inl, inr, List, Option, Some, None, IsSomeAnd, length, get_or, sym, subst, arith}
use Rattle.std.proofs.lemmas.Option.{slice_get-get_or, slice_get_past}
use Rattle.std.proofs.lemmas.Bool.Decides.{leb_tells}
use Rattle.audit.specs.Order.{IsBadRow, IsFirstPlace, lesser_place}

either_way : (a b : ℕ) → (a ≤ b) ⊎ (b ≤ a)
either_way zero b = inl (omega arith)
either_way (suc a) zero = inr (omega arith)
either_way (suc a) (suc b) = elim (either_way a b) [ inl le ↦ inl (omega (arith, le)) | inr le ↦ inr (omega (arith, le)) ]

lesser : (P Q : ℕ → Type 0) (a b : ℕ) → P a → Q b → (a ≤ b) ⊎ (b ≤ a) → P (min a b) ⊎ Q (min a b)
lesser P Q a b p q (inl le) = let same : a ≡ min a b = omega (arith, le) in inl (subst P same p)
lesser P Q a b p q (inr le) = let same : b ≡ min a b = omega (arith, le) in inr (subst Q same q)

first_of : (P Q : ℕ → Type 0) (a b : Option ℕ) → IsFirstPlace P a → IsFirstPlace Q b → IsFirstPlace (λ place. P place ⊎ Q place) (lesser_place a b)
first_of P Q None None p q = λ place is. elim is [ inl h ↦ p place h | inr h ↦ q place h ]
first_of P Q None (Some b) p q = (inr q.0, λ place less is. elim is [ inl h ↦ p place h | inr h ↦ q.1 place less h ])
first_of P Q (Some a) None p q = (inl p.0, λ place less is. elim is [ inl h ↦ p.1 place less h | inr h ↦ q place h ])
first_of P Q (Some a) (Some b) p q = (
  lesser P Q a b p.0 q.0 (either_way a b),
  λ place less is. elim is [ inl h ↦ p.1 place (omega (arith, less)) h | inr h ↦ q.1 place (omega (arith, less)) h ],
)

pub first_of_two : (P Q : ℕ → Type 0) (a b o : Option ℕ) → o ≡ lesser_place a b → IsFirstPlace P a → IsFirstPlace Q b → IsFirstPlace (λ place. P place ⊎ Q place) o
first_of_two P Q a b o is p q = subst (IsFirstPlace (λ place. P place ⊎ Q place)) (sym is) (first_of P Q a b p q)

-- of the same rows
pub first_of_same : {A : Type 0} (P : A → Type 0) (xs ys : List A) (o : Option ℕ) → xs ≡ ys → IsFirstPlace (IsBadRow P xs) o → IsFirstPlace (IsBadRow P ys) o
first_of_same P xs ys o same first = subst (λ zs. IsFirstPlace (IsBadRow P zs) o) same first

-- a row at a place is bad where the fact does not hold of it
pub bad_at : {A : Type 0} (P : A → Type 0) (rows : List A) (place : ℕ) (d : A) → place < length rows → (P (get_or rows place d) → ⊥) → IsBadRow P rows place
bad_at P rows place d within bad = subst (λ o. IsSomeAnd o (λ r. P r → ⊥)) (sym (slice_get-get_or rows place d within)) bad

pub good_at : {A : Type 0} (P : A → Type 0) (rows : List A) (place : ℕ) (d : A) → place < length rows → P (get_or rows place d) → IsBadRow P rows place → ⊥
good_at P rows place d within good bad = let at = subst (λ o. IsSomeAnd o (λ r. P r → ⊥)) (slice_get-get_or rows place d within) bad in at good

-- where no row is bad, the row at a place is not
pub not_bad : {A : Type 0} (P : A → Type 0) (rows : List A) (place : ℕ) (row : A) → row ≡ get_or rows place row → place < length rows → (IsBadRow P rows place → ⊥) → (P row → ⊥) → ⊥
not_bad P rows place row is within good bad = good (bad_at P rows place row within (λ p. bad (subst P (sym is) p)))

-- bad rows are within the list, so a walk that finds none up to its end finds none
pub none_past : {A : Type 0} (P : A → Type 0) (rows : List A) (end : ℕ) → length rows ≤ end → ((place : ℕ) → place < end → IsBadRow P rows place → ⊥) → (place : ℕ) → IsBadRow P rows place → ⊥
none_past P rows end all below place bad = elim (le_or_lt end place) [
  | inl past ↦ subst (λ o. IsSomeAnd o (λ r. P r → ⊥)) (slice_get_past rows place (omega (arith, past, all))) bad
  | inr less ↦ below place less bad
]
  where
    le_or_lt : (a b : ℕ) → (a ≤ b) ⊎ (b < a)
    le_or_lt a b = elim (leb_tells a b) [ inl h ↦ inl h.1 | inr h ↦ inr h.1 ]

-- and one more
pub one_more : (P : ℕ → Type 0) (place : ℕ) → ((q : ℕ) → q < place → P q → ⊥) → (P place → ⊥) → (q : ℕ) → q < place + 1 → P q → ⊥
one_more P place below here q less bad = elim (leb_tells place q) [
  | inl h ↦ here (subst P (let le = h.1 in omega (arith, less, le)) bad)
  | inr h ↦ below q h.1 bad
]
