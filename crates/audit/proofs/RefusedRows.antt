-- The first refused entry, and its row.
use Rattle.std.proofs.Common.{◌≡◌, ◌<◌, ℕ, zero, suc, List, [], ◌∷◌, ◌++◌, map, length, get_or, slice_get, Option, Some, None, IsSomeAnd, inl, inr, ◌⊎◌, refl, sym, ap, ◌∙◌, subst, arith}
use Rattle.std.specs.List.{Contains}
use Rattle.std.specs.Option.{option_map}
use Rattle.std.proofs.lemmas.List.Elements.{Contains-get_or, Contains-append_cases}
use Rattle.std.proofs.lemmas.List.Sorted.{IsPermutation-sym, Contains-permutation}
use Rattle.std.proofs.lemmas.Option.{slice_get-map, slice_get-get_or}
use Rattle.records.specs.declared.account.Account.{Account}
use Rattle.records.specs.declared.transfer.Transfer.{Transfer}
use Rattle.records.specs.Machine.{Machine, new_machine}
use Rattle.rows.specs.TypedRows.{TypedRows}
use Rattle.running.specs.declared.entry.Entry.{Entry}
use Rattle.running.specs.declared.entry.Entry.TheVariants.{Opened, Moved}
use Rattle.running.specs.Entries.{time_of, AreNext, IsFirstRefused, with_entry}
use Rattle.audit.specs.Order.{IsFirstPlace}
use Rattle.audit.specs.Table.{IsRowOf, IsRefusedRow}
use Rattle.audit.specs.Told.{entries_told}
use Rattle.audit.proofs.InOrderLemmas.{in_order_same}

-- behind the first entry, which is accepted
behind_first : (m : Machine) (e : Entry) (es : List Entry) (n : ℕ) → IsFirstRefused m (e ∷ es) (suc n) → IsFirstRefused (with_entry m e) es n
behind_first m e es n is = record { within = let less = is.within in omega (arith, less); before = is.before.1; refused = is.refused }

-- where all are accepted none is refused
pub all_accepted : (m : Machine) (es : List Entry) (n : ℕ) → AreNext m es → IsFirstRefused m es n → ⊥
all_accepted m [] n next is = let less = is.within in omega (arith, less)
all_accepted m (e ∷ es) zero next is = is.refused next.0
all_accepted m (e ∷ es) (suc n) next is = all_accepted (with_entry m e) es n next.1 (behind_first m e es n is)

-- there is one first
pub one_refused : (m : Machine) (es : List Entry) (n k : ℕ) → IsFirstRefused m es n → IsFirstRefused m es k → n ≡ k
one_refused m [] n k is other = absurd (let less = is.within in omega (arith, less))
one_refused m (e ∷ es) zero zero is other = refl
one_refused m (e ∷ es) zero (suc k) is other = absurd (is.refused other.before.0)
one_refused m (e ∷ es) (suc n) zero is other = absurd (other.refused is.before.0)
one_refused m (e ∷ es) (suc n) (suc k) is other = ap suc (one_refused (with_entry m e) es n k (behind_first m e es n is) (behind_first m e es k other))

-- each entry has a row
source : {A B : Type 0} (f : A → B) (y : B) (found : Option A) → option_map f found ≡ Some y → (x : A) × (found ≡ Some x) × (f x ≡ y)
source f y None is = absurd cc
source f y (Some x) is = (x, refl, cc)

in_map : {A B : Type 0} (f : A → B) (xs : List A) (y : B) → Contains (map f xs) y → (k : ℕ) × (x : A) × (slice_get xs k ≡ Some x) × (f x ≡ y)
in_map f xs y has =
    let got = source f y (slice_get xs has.0) (sym (slice_get-map f xs has.0) ∙ slice_get-get_or (map f xs) has.0 y has.1 ∙ ap Some has.2) in
    (has.0, got.0, got.1, got.2)

row_of : (told : TypedRows) (e : Entry) → Contains (map Opened told.accounts) e ⊎ Contains (map Moved told.transfers) e → (place : ℕ) × IsRowOf told place e
row_of told (Opened account) (inl has) =
    let got = in_map Opened told.accounts (Opened account) has in
    let same : got.1 ≡ account = let e = got.3 in cc in
    (got.0, subst (λ (o : Option Account). IsSomeAnd o (λ a. a ≡ account)) (sym got.2) same)
row_of told (Opened account) (inr has) = let e = (in_map Moved told.transfers (Opened account) has).3 in absurd cc
row_of told (Moved transfer) (inl has) = let e = (in_map Opened told.accounts (Moved transfer) has).3 in absurd cc
row_of told (Moved transfer) (inr has) =
    let got = in_map Moved told.transfers (Moved transfer) has in
    let same : got.1 ≡ transfer = let e = got.3 in cc in
    (got.0, subst (λ (o : Option Transfer). IsSomeAnd o (λ t. t ≡ transfer)) (sym got.2) same)

pub has_row : (told : TypedRows) (n : ℕ) (d : Entry) → n < length (entries_told told) → (place : ℕ) × IsRowOf told place (get_or (entries_told told) n d)
has_row told n d within =
    let e = get_or (entries_told told) n d in
    let stored = map Opened told.accounts ++ map Moved told.transfers in
    let has = Contains-permutation (entries_told told) stored e (IsPermutation-sym stored (entries_told told) (in_order_same time_of stored)) (Contains-get_or (entries_told told) n d within) in
    row_of told e (Contains-append_cases (map Opened told.accounts) (map Moved told.transfers) e has)

pub refused_has_row : (told : TypedRows) (es : List Entry) (n : ℕ) (e : Entry) → es ≡ entries_told told → IsFirstRefused new_machine es n → e ≡ get_or es n e → (place : ℕ) × IsRowOf told place e
refused_has_row told es n e all refused is =
    let got = has_row told n e (subst (λ (xs : List Entry). n < length xs) all refused.within) in
    (got.0, subst (IsRowOf told got.0) (sym (is ∙ ap (λ (xs : List Entry). get_or xs n e) all)) got.1)

-- and the first of its rows is the first refused one
pub first_refused_row : (told : TypedRows) (es : List Entry) (n : ℕ) (e : Entry) (first : ℕ) → es ≡ entries_told told → IsFirstRefused new_machine es n → e ≡ get_or es n e → IsFirstPlace (λ place. IsRowOf told place e) (Some first) → IsFirstPlace (IsRefusedRow told) (Some first)
first_refused_row told es n e first all refused is row =
    let here = subst (λ (xs : List Entry). IsFirstRefused new_machine xs n) all refused in
    let at : slice_get (entries_told told) n ≡ Some e = ap (λ (xs : List Entry). slice_get xs n) (sym all) ∙ slice_get-get_or es n e refused.within ∙ ap Some (sym is) in (
      (n, here, subst (λ (o : Option Entry). IsSomeAnd o (IsRowOf told first)) (sym at) row.0),
      λ place less wrong.
          row.1 place less (subst (λ (o : Option Entry). IsSomeAnd o (IsRowOf told place)) (ap (slice_get (entries_told told)) (sym (one_refused new_machine (entries_told told) n wrong.0 here wrong.1)) ∙ at) wrong.2),
    )

-- where all are accepted no row is refused
pub no_refused_row : (told : TypedRows) (es : List Entry) → es ≡ entries_told told → AreNext new_machine es → (place : ℕ) → IsRefusedRow told place → ⊥
no_refused_row told es all next place wrong = all_accepted new_machine (entries_told told) wrong.0 (subst (AreNext new_machine) all next) wrong.1
