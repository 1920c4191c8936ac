-- Tables that tenants share: what one tenant's rows are after a row more and after a change.
use Rattle.std.proofs.Common.{◌≡◌, ◌≢◌, ℕ, ℤ, Bool, true, false, ◌&&◌, eqb, cond, List, [], ◌∷◌, ◌++◌, map, inl, inr, refl, sym, ap, ap₂, ◌∙◌}
use Rattle.std.specs.Ordering.{int_eq}
use Rattle.std.specs.List.{filter}
use Rattle.std.specs.List.Sorted.{IsPermutation}
use Rattle.std.proofs.lemmas.List.{map-append, append-nil}
use Rattle.std.proofs.lemmas.List.Elements.{filter-append}
use Rattle.std.proofs.lemmas.List.Sorted.{IsPermutation-map}
use Rattle.std.proofs.lemmas.Bool.{cases_Bool, both_ways}
use Rattle.std.proofs.lemmas.Bool.Decides.{Decides-int_eq}
use Rattle.rows.specs.Keyed.{changed}
use Rattle.rows.specs.Tables.{Owned, is_owned_by, own_rows, own_changed}
use Rattle.rows.proofs.Permuted.{IsPermutation-filter}

-- whether a row is a tenant's
owned_itself : (a : ℤ) → int_eq a a ≡ true
owned_itself a = (Decides-int_eq a a).1 refl

not_owned : (a b : ℤ) → b ≢ a → int_eq a b ≡ false
not_owned a b other = elim (cases_Bool (int_eq a b)) [ inl is ↦ absurd (other (sym ((Decides-int_eq a b).0 is))) | inr not ↦ not ]

pushed_by : {R : Type 0} (own : Bool) (owned : Owned R) → map (λ (o : Owned R). o.row) (cond own (owned ∷ []) []) ≡ cond own (owned.row ∷ []) []
pushed_by true owned = refl
pushed_by false owned = refl

pushed_as : {R : Type 0} (own : Bool) (tenant other : ℤ) (row : R) (rows : List (Owned R)) → int_eq tenant other ≡ own → own_rows other (rows ++ record { tenant = tenant; row = row } ∷ []) ≡ own_rows other rows ++ cond own (row ∷ []) []
pushed_as {R} own tenant other row rows is =
    let owned : Owned R = record { tenant = tenant; row = row } in
    ap (map (λ (o : Owned R). o.row)) (filter-append (is_owned_by other) rows (owned ∷ []))
    ∙ map-append (λ (o : Owned R). o.row) (filter (is_owned_by other) rows) (filter (is_owned_by other) (owned ∷ []))
    ∙ ap (λ xs. own_rows other rows ++ xs) (pushed_by (int_eq tenant other) owned ∙ ap (λ (b : Bool). cond b (row ∷ []) []) is)

pub own_pushed : {R : Type 0} (tenant : ℤ) (row : R) (rows : List (Owned R)) → own_rows tenant (rows ++ record { tenant = tenant; row = row } ∷ []) ≡ own_rows tenant rows ++ row ∷ []
own_pushed tenant row rows = pushed_as true tenant tenant row rows (owned_itself tenant)

pub others_pushed : {R : Type 0} (tenant other : ℤ) (row : R) (rows : List (Owned R)) → other ≢ tenant → own_rows other (rows ++ record { tenant = tenant; row = row } ∷ []) ≡ own_rows other rows
others_pushed tenant other row rows away = pushed_as false tenant other row rows (not_owned tenant other away) ∙ append-nil (own_rows other rows)

-- the tenant's rows of a list that begins with this one
first_own : {R : Type 0} (own : Bool) (tenant : ℤ) (owned : Owned R) (rows : List (Owned R)) → is_owned_by tenant owned ≡ own → own_rows tenant (owned ∷ rows) ≡ cond own (owned.row ∷ own_rows tenant rows) (own_rows tenant rows)
first_own true tenant owned rows is = ap (λ (b : Bool). map (λ (o : Owned _). o.row) (cond b (owned ∷ filter (is_owned_by tenant) rows) (filter (is_owned_by tenant) rows))) is
first_own false tenant owned rows is = ap (λ (b : Bool). map (λ (o : Owned _). o.row) (cond b (owned ∷ filter (is_owned_by tenant) rows) (filter (is_owned_by tenant) rows))) is

-- a row after a change for one tenant
abbrev row_after : {R : Type 0} → (R → ℕ) → ℤ → ℕ → (R → R) → Owned R → Owned R
row_after key tenant id change owned = cond (is_owned_by tenant owned && eqb (key owned.row) id) (record owned { row = change owned.row }) owned

-- it stays its owner's
owner_by : {R : Type 0} (b : Bool) (owned : Owned R) (row : R) → (cond b (record owned { row = row }) owned).tenant ≡ owned.tenant
owner_by true owned row = refl
owner_by false owned row = refl

owner_stays : {R : Type 0} (key : R → ℕ) (tenant other : ℤ) (id : ℕ) (change : R → R) (owned : Owned R) → is_owned_by other (row_after key tenant id change owned) ≡ is_owned_by other owned
owner_stays key tenant other id change owned = ap (λ t. int_eq t other) (owner_by (is_owned_by tenant owned && eqb (key owned.row) id) owned (change owned.row))

-- what it is then
row_by : {R : Type 0} (own here : Bool) (owned : Owned R) (row : R) → own ≡ true → (cond (own && here) (record owned { row = row }) owned).row ≡ cond here row owned.row
row_by true true owned row is = refl
row_by true false owned row is = refl
row_by false here owned row is = absurd (both_ways false refl is)

kept_by : {R : Type 0} (own here : Bool) (owned : Owned R) (row : R) → own ≡ false → (cond (own && here) (record owned { row = row }) owned).row ≡ owned.row
kept_by true here owned row is = absurd (both_ways true is refl)
kept_by false here owned row is = refl

-- the tenant's own rows after the change
pub own_after : {R : Type 0} (key : R → ℕ) (tenant : ℤ) (id : ℕ) (change : R → R) (rows : List (Owned R)) → own_rows tenant (own_changed key tenant id change rows) ≡ changed key id change (own_rows tenant rows)
own_after key tenant id change [] = refl
own_after key tenant id change (owned ∷ rows) =
    let after = row_after key tenant id change owned in
    let rest = own_changed key tenant id change rows in
    elim (cases_Bool (is_owned_by tenant owned)) [
      | inl own ↦
          first_own true tenant after rest (owner_stays key tenant tenant id change owned ∙ own)
          ∙ ap₂ ◌∷◌ (row_by (is_owned_by tenant owned) (eqb (key owned.row) id) owned (change owned.row) own) (own_after key tenant id change rows)
          ∙ sym (ap (changed key id change) (first_own true tenant owned rows own))
      | inr not ↦
          first_own false tenant after rest (owner_stays key tenant tenant id change owned ∙ not)
          ∙ own_after key tenant id change rows ∙ sym (ap (changed key id change) (first_own false tenant owned rows not))
    ]

-- and another tenant's
not_both_own : (tenant other : ℤ) {R : Type 0} (owned : Owned R) → other ≢ tenant → is_owned_by other owned ≡ true → is_owned_by tenant owned ≡ false
not_both_own tenant other owned away own = not_owned owned.tenant tenant (λ is. away (sym ((Decides-int_eq owned.tenant other).0 own) ∙ sym is))

pub others_after : {R : Type 0} (key : R → ℕ) (tenant other : ℤ) (id : ℕ) (change : R → R) (rows : List (Owned R)) → other ≢ tenant → own_rows other (own_changed key tenant id change rows) ≡ own_rows other rows
others_after key tenant other id change [] away = refl
others_after key tenant other id change (owned ∷ rows) away =
    let after = row_after key tenant id change owned in
    let rest = own_changed key tenant id change rows in
    elim (cases_Bool (is_owned_by other owned)) [
      | inl own ↦
          first_own true other after rest (owner_stays key tenant other id change owned ∙ own)
          ∙ ap₂ ◌∷◌ (kept_by (is_owned_by tenant owned) (eqb (key owned.row) id) owned (change owned.row) (not_both_own tenant other owned away own)) (others_after key tenant other id change rows away)
          ∙ sym (first_own true other owned rows own)
      | inr not ↦
          first_own false other after rest (owner_stays key tenant other id change owned ∙ not)
          ∙ others_after key tenant other id change rows away ∙ sym (first_own false other owned rows not)
    ]

pub own_permuted : {R : Type 0} (tenant : ℤ) (xs ys : List (Owned R)) → IsPermutation xs ys → IsPermutation (own_rows tenant xs) (own_rows tenant ys)
own_permuted tenant xs ys same = IsPermutation-map (λ (o : Owned _). o.row) (filter (is_owned_by tenant) xs) (filter (is_owned_by tenant) ys) (IsPermutation-filter (is_owned_by tenant) xs ys same)
