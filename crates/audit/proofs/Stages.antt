-- Kind after kind is looked for.
use Rattle.std.proofs.Common.{◌≡◌, ◌≢◌, ◌<◌, ◌≤◌, ◌+◌, ℕ, eqb, cond, List, map, Option, Some, None, inl, inr, refl, sym, ap, ◌∙◌, subst, arith}
use Rattle.std.specs.declared.cmp.Ordering.TheVariants.{Less}
use Rattle.std.specs.Ordering.{nat_cmp, ordering_then}
use Rattle.std.proofs.lemmas.Bool.Decides.{leb_tells, nat_tests}
use Rattle.rows.specs.TypedRows.{TypedRows, FileRows}
use Rattle.audit.specs.declared.damage.DamageKind.{DamageKind}
use Rattle.audit.specs.declared.damage.DamageKind.TheVariants as kind
use Rattle.audit.specs.declared.tenant.Found.{Found}
use Rattle.audit.specs.Damage.{kind_number, IsFirstFound, FindsWrong}
use Rattle.audit.specs.Laws.{OneReading}
use Rattle.audit.specs.Order.{IsFirstPlace, Differ}
use Rattle.audit.specs.Stages.{IsClearBelow, FindsBelow}
use Rattle.audit.specs.Table.{IsToldWrong, IsWrong}
use Rattle.audit.specs.Told.{TellsRows}

-- a kind by its number
abbrev kind_with : ℕ → DamageKind
kind_with n =
    cond (eqb n 1) kind.Shape (cond (eqb n 2) kind.Timestamp (cond (eqb n 3) kind.Entry (cond (eqb n 4) kind.Balance (cond (eqb n 5) kind.Status (cond (eqb n 6) kind.History (cond (eqb n 7) kind.Clock kind.FailedId))))))

kind_back : (k : DamageKind) → kind_with (kind_number k) ≡ k
kind_back kind.Shape = refl
kind_back kind.Timestamp = refl
kind_back kind.Entry = refl
kind_back kind.Balance = refl
kind_back kind.Status = refl
kind_back kind.History = refl
kind_back kind.Clock = refl
kind_back kind.FailedId = refl

same_kind : (a b : DamageKind) → kind_number a ≡ kind_number b → a ≡ b
same_kind a b same = sym (kind_back a) ∙ ap kind_with same ∙ kind_back b

-- kinds are numbered from 1 to 8
numbered : (k : DamageKind) → (0 < kind_number k) × (kind_number k < 9)
numbered kind.Shape = (omega arith, omega arith)
numbered kind.Timestamp = (omega arith, omega arith)
numbered kind.Entry = (omega arith, omega arith)
numbered kind.Balance = (omega arith, omega arith)
numbered kind.Status = (omega arith, omega arith)
numbered kind.History = (omega arith, omega arith)
numbered kind.Clock = (omega arith, omega arith)
numbered kind.FailedId = (omega arith, omega arith)

-- none is below the first kind, and all are below the number behind the last
pub none_yet : (version : ℕ) (rows : FileRows) → IsClearBelow version rows 1
none_yet version rows k place less wrong = let some = (numbered k).0 in absurd (omega (arith, less, some))

pub all_clear : (version : ℕ) (rows : FileRows) → IsClearBelow version rows 9 → FindsWrong version rows None
all_clear version rows clear k place wrong = clear k place (numbered k).1 wrong

-- one kind more
pub clear_more : (version : ℕ) (rows : FileRows) (k : DamageKind) → IsClearBelow version rows (kind_number k) → IsFirstPlace (IsWrong version rows k) None → IsClearBelow version rows (kind_number k + 1)
clear_more version rows k below none other place less wrong = elim (leb_tells (kind_number k) (kind_number other)) [
  | inr h ↦ below other place h.1 wrong
  | inl h ↦
      let le = h.1 in
      let same : other ≡ k = same_kind other k (omega (arith, less, le)) in
      none place (subst (λ (x : DamageKind). IsWrong version rows x place) same wrong)
]

-- the first of a kind, where there is none of a lesser one
greater_kind : (a b p q : ℕ) → b < a → ordering_then (nat_cmp a b) (nat_cmp p q) ≢ Less
greater_kind a b p q less is = grind (arith, nat_tests)

no_lesser_place : (a p q : ℕ) → q ≤ p → ordering_then (nat_cmp a a) (nat_cmp p q) ≢ Less
no_lesser_place a p q le is = grind (arith, nat_tests)

not_before : (a b p q : ℕ) → b ≤ a → (a ≡ b → q ≤ p) → ordering_then (nat_cmp a b) (nat_cmp p q) ≢ Less
not_before a b p q le rest = elim (leb_tells a b) [
  | inr h ↦ greater_kind a b p q h.1
  | inl h ↦
      let other = h.1 in
      let same : a ≡ b = omega (arith, le, other) in
      subst (λ (n : ℕ). ordering_then (nat_cmp a n) (nat_cmp p q) ≢ Less) same (no_lesser_place a p q (rest same))
]

pub first_found : (version : ℕ) (rows : FileRows) (k : DamageKind) (place : ℕ) → IsClearBelow version rows (kind_number k) → IsFirstPlace (IsWrong version rows k) (Some place) → IsFirstFound version rows (record { kind = k; place = place })
first_found version rows k place below first = record {
  is = first.0;
  first = λ other wrong.
      not_before (kind_number other.kind) (kind_number k) other.place place
      (elim (leb_tells (kind_number k) (kind_number other.kind)) [ inl h ↦ h.1 | inr h ↦ absurd (below other.kind other.place h.1 wrong) ])
      (λ same.
      elim (leb_tells place other.place) [
        | inl h ↦ h.1
        | inr h ↦ absurd (first.1 other.place h.1 (subst (λ (x : DamageKind). IsWrong version rows x other.place) (same_kind other.kind k same) wrong))
      ]);
}

abbrev IsSomeToldWrong : ℕ → FileRows → DamageKind → ℕ → Type 0
IsSomeToldWrong version rows k place = (told : TypedRows) × TellsRows rows told × IsToldWrong version rows told k place

-- of rows that can be read each kind is wrong where some reading tells so
some_told : (version : ℕ) (rows : FileRows) (told : TypedRows) (k : DamageKind) (place : ℕ) → TellsRows rows told → (IsWrong version rows k place → IsSomeToldWrong version rows k place) × (IsSomeToldWrong version rows k place → IsWrong version rows k place)
some_told version rows told kind.Shape place tells = (λ wrong. (told, tells, wrong), λ some. some.2)
some_told version rows told kind.Timestamp place tells = (λ wrong. wrong, λ some. some)
some_told version rows told kind.Entry place tells = (λ wrong. wrong, λ some. some)
some_told version rows told kind.Balance place tells = (λ wrong. wrong, λ some. some)
some_told version rows told kind.Status place tells = (λ wrong. wrong, λ some. some)
some_told version rows told kind.History place tells = (λ wrong. wrong, λ some. some)
some_told version rows told kind.Clock place tells = (λ wrong. wrong, λ some. some)
some_told version rows told kind.FailedId place tells = (λ wrong. wrong, λ some. some)

wrong_if_told : (version : ℕ) (rows : FileRows) (told : TypedRows) (k : DamageKind) (place : ℕ) → TellsRows rows told → IsToldWrong version rows told k place → IsWrong version rows k place
wrong_if_told version rows told k place tells wrong = (some_told version rows told k place tells).1 (told, tells, wrong)

pub told_if_wrong : OneReading → (version : ℕ) (rows : FileRows) (told : TypedRows) (k : DamageKind) (place : ℕ) → TellsRows rows told → IsWrong version rows k place → IsToldWrong version rows told k place
told_if_wrong one version rows told k place tells wrong =
    let some = (some_told version rows told k place tells).0 wrong in
    subst (λ (t : TypedRows). IsToldWrong version rows t k place) (one some.0 told some.1.fits tells.fits (some.1.cells ∙ sym tells.cells)) some.2

pub first_of_told : OneReading → (version : ℕ) (rows : FileRows) (told : TypedRows) (k : DamageKind) (o : Option ℕ) → TellsRows rows told → IsFirstPlace (IsToldWrong version rows told k) o → IsFirstPlace (IsWrong version rows k) o
first_of_told one version rows told k None tells none = λ place wrong. none place (told_if_wrong one version rows told k place tells wrong)
first_of_told one version rows told k (Some first) tells is =
    (wrong_if_told version rows told k first tells is.0, λ place less wrong. is.1 place less (told_if_wrong one version rows told k place tells wrong))

-- what is answered where a kind is found, and where it is not
pub answers_found : (version : ℕ) (rows : FileRows) (k : DamageKind) (place : ℕ) (o : Option ℕ) (r : Option Found) → IsClearBelow version rows (kind_number k) → IsFirstPlace (IsWrong version rows k) o → o ≡ Some place → r ≡ Some (record { kind = k; place = place }) → FindsWrong version rows r
answers_found version rows k place o r clear first at is =
    subst (FindsWrong version rows) (sym is) (first_found version rows k place clear (subst (IsFirstPlace (IsWrong version rows k)) at first))

pub still_clear : (version : ℕ) (rows : FileRows) (k : DamageKind) (o : Option ℕ) → IsClearBelow version rows (kind_number k) → IsFirstPlace (IsWrong version rows k) o → o ≡ None → IsClearBelow version rows (kind_number k + 1)
still_clear version rows k o clear first at = clear_more version rows k clear (subst (IsFirstPlace (IsWrong version rows k)) at first)

pub finds_below : (version : ℕ) (rows : FileRows) (n : ℕ) (r : Option Found) (f : Found) → r ≡ Some f → FindsWrong version rows r → FindsBelow version rows n r
finds_below version rows n r f is found = subst (FindsBelow version rows n) (sym is) (subst (FindsWrong version rows) is found)

-- the same differences
pub same_difference : {R C : Type 0} (cells : R → C) (xs stored : List C) (ys wanted : List R) (o : Option ℕ) → xs ≡ stored → ys ≡ wanted → IsFirstPlace (Differ xs (map cells ys)) o → IsFirstPlace (Differ stored (map cells wanted)) o
same_difference cells xs stored ys wanted o same_rows same first =
    subst (λ rows. IsFirstPlace (Differ rows (map cells wanted)) o) same_rows (subst (λ values. IsFirstPlace (Differ xs (map cells values)) o) same first)
