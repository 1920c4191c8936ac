-- The rows that a version prescribes, in order of key.
use Rattle.std.proofs.Common.{◌≡◌, ◌<◌, ◌≤◌, ◌+◌, ◌*◌, ◌^◌, ℕ, zero, suc, Bool, true, false, cond, List, [], ◌∷◌, ◌++◌, Vec, Global, take, length, get_or, Result, Ok, Err, IfOk, inl, inr, sym, ap, ◌∙◌, subst, arith, rules, is_lt}
use Rattle.std.specs.List.{All}
use Rattle.std.specs.List.Sorted.{IsPermutation, IsSortedByKey}
use Rattle.std.specs.Ordering.{nat_cmp, ordering_then}
use Rattle.std.proofs.lemmas.Bool.{both_ways}
use Rattle.std.proofs.lemmas.Bool.Decides.{leb_tells, nat_tests}
use Rattle.std.proofs.lemmas.List.Elements.{All-get_or}
use Rattle.std.proofs.lemmas.List.Sorted.{All-permutation, length_permutation, IsPermutation-refl, IsPermutation-sym, IsPermutation-trans}
use Rattle.std.proofs.Math.Seq.{take-append_seam}
use Rattle.records.specs.Machine.{Machine}
use Rattle.records.specs.Valid.{IsValid}
use Rattle.rows.specs.Prescribed.{rows_for, since, balance_rows, status_rows, history_rows}
use Rattle.rows.specs.SameRows.{AreSameRows}
use Rattle.rows.specs.Tables.{AreKeyed, HasDistinctKeys, IsAscendingBy}
use Rattle.rows.specs.TypedRows.{TypedRows}
use Rattle.running.specs.declared.running.Running.{Running}
use Rattle.running.specs.Running.{IsRunning}
use Rattle.audit.specs.Laws.{KeysAreDistinct, OneOrder}
use Rattle.audit.specs.Order.{in_order}
use Rattle.audit.proofs.InOrderLemmas.{in_order_same, in_order_up}

-- the rows of a table that a version has, and of one that it lacks
pub since_on : {A : Type 0} (first version : ℕ) (rows : List A) → first ≤ version → since first version rows ≡ rows
since_on first version rows le = elim (leb_tells first version) [
  | inl h ↦ ap (λ (b : Bool). cond b rows []) h.0
  | inr h ↦ absurd (let less = h.1 in omega (arith, le, less))
]

pub since_off : {A : Type 0} (first version : ℕ) (rows : List A) → version < first → since first version rows ≡ []
since_off first version rows less = elim (leb_tells first version) [
  | inl h ↦ absurd (let le = h.1 in omega (arith, le, less))
  | inr h ↦ ap (λ (b : Bool). cond b rows []) h.0
]

pub record HasDerived (version : ℕ) (m : Machine) : Type 0 where
  pub balances : (rows_for version m).balances ≡ balance_rows m
  pub statuses : (rows_for version m).statuses ≡ status_rows m
  pub history : (rows_for version m).history ≡ history_rows m

pub has_derived : (version : ℕ) (m : Machine) → 2 ≤ version → HasDerived version m
unfolding rows_for
has_derived version m le = record {
  balances = since_on 2 version (balance_rows m) le;
  statuses = since_on 2 version (status_rows m) le;
  history = since_on 2 version (history_rows m) le;
}

pub record LacksDerived (version : ℕ) (m : Machine) : Type 0 where
  pub balances : (rows_for version m).balances ≡ []
  pub statuses : (rows_for version m).statuses ≡ []
  pub history : (rows_for version m).history ≡ []

pub lacks_derived : (version : ℕ) (m : Machine) → version < 2 → LacksDerived version m
unfolding rows_for
lacks_derived version m less = record {
  balances = since_off 2 version (balance_rows m) less;
  statuses = since_off 2 version (status_rows m) less;
  history = since_off 2 version (history_rows m) less;
}

-- those that a valid machine prescribes have keys of their own
themselves : (rows : TypedRows) → AreSameRows rows rows
themselves rows = search (rules, IsPermutation-refl)

pub own_keys : KeysAreDistinct → (m : Machine) → IsValid m → AreKeyed (rows_for 3 m)
own_keys keys m valid = keys m (rows_for 3 m) valid (themselves (rows_for 3 m))

-- ascending rows, place by place
pub up_at : {A : Type 0} (key : A → ℕ) (xs : List A) (i j : ℕ) (d : A) → IsAscendingBy key xs → i < j → j < length xs → key (get_or xs i d) < key (get_or xs j d)
up_at key [] i j d up less within = absurd (omega (arith, within))
up_at key (x ∷ xs) zero zero d up less within = absurd (omega (arith, less))
up_at key (x ∷ xs) zero (suc j) d up less within = All-get_or (λ y. key x < key y) xs j d (omega (arith, within)) up.0
up_at key (x ∷ xs) (suc i) zero d up less within = absurd (omega (arith, less))
up_at key (x ∷ xs) (suc i) (suc j) d up less within = up_at key xs i j d up.1 (omega (arith, less)) (omega (arith, within))

not_less : (a b : ℕ) → b ≤ a → is_lt (nat_cmp a b) ≡ false
not_less a b le = grind (arith, nat_tests)

pub ascending_is_sorted : {A : Type 0} (key : A → ℕ) (xs : List A) → IsAscendingBy key xs → IsSortedByKey key nat_cmp xs
ascending_is_sorted key xs up k d low within =
    let less = up_at key xs k (k + 1) d up (omega arith) within in
    not_less (key (get_or xs (k + 1) d)) (key (get_or xs k d)) (omega (arith, less))

-- the only order
pub ordered : {A : Type 0} → OneOrder A → (key : A → ℕ) (xs ys : List A) → HasDistinctKeys key xs → IsPermutation xs ys → IsSortedByKey key nat_cmp ys → ys ≡ in_order key xs
ordered one key xs ys once same sorted =
    sym (one key (in_order key xs) ys (in_order_up key xs once) (IsPermutation-trans (in_order key xs) xs ys (IsPermutation-sym xs (in_order key xs) (in_order_same key xs)) same) sorted)

-- the rows that a call makes of a running ledger, if it makes them
abbrev AreMade : {R : Type 0} → Running → (Machine → List R) → Vec R Global → Type 0
AreMade r rows made = (m : Machine) → IsRunning m r → IsPermutation (rows m) made.items

pub made_fit : {R E : Type 0} (Fits : R → Type 0) (r : Running) (m : Machine) (rows : Machine → List R) (made : Result (Vec R Global) E) → IsRunning m r → All Fits (rows m) → IfOk made (AreMade r rows) → IfOk made (λ v. All Fits v.items)
made_fit Fits r m rows (Ok v) is fit same = All-permutation Fits (rows m) v.items (same m is) fit
made_fit Fits r m rows (Err e) is fit same = same

pub made_ordered : {R E : Type 0} → OneOrder R → (key : R → ℕ) (r : Running) (rows wanted : Machine → List R) (made : Result (Vec R Global) E) → ((m : Machine) → IsValid m → HasDistinctKeys key (rows m)) → ((m : Machine) → wanted m ≡ rows m) → IfOk made (λ v. IsAscendingBy key v.items) → IfOk made (AreMade r rows) → IfOk made (λ v. (m : Machine) → IsRunning m r → v.items ≡ in_order key (wanted m))
made_ordered one key r rows wanted (Ok v) once is up same = λ m running.
    ordered one key (rows m) v.items (once m running.valid) (same m running) (ascending_is_sorted key v.items up) ∙ ap (in_order key) (sym (is m))
made_ordered one key r rows wanted (Err e) once is up same = up

-- the order of accounts and then of timestamps is that of one number
is_less : (a b : ℕ) → a < b → is_lt (nat_cmp a b) ≡ true
is_less a b less = grind (arith, nat_tests)

first_less : (a b t u : ℕ) → a < b → is_lt (ordering_then (nat_cmp a b) (nat_cmp t u)) ≡ true
first_less a b t u less = grind (arith, nat_tests)

second_less : (a t u : ℕ) → t < u → is_lt (ordering_then (nat_cmp a a) (nat_cmp t u)) ≡ true
second_less a t u less = grind (arith, nat_tests)

pair_less : (a b t u : ℕ) → t < 2 ^ 64 → u < 2 ^ 64 → a * 2 ^ 64 + t < b * 2 ^ 64 + u → is_lt (ordering_then (nat_cmp a b) (nat_cmp t u)) ≡ true
pair_less a b t u short_t short_u less = elim (leb_tells b a) [
  | inr h ↦ first_less a b t u h.1
  | inl h ↦
      let le = h.1 in
      let same : b ≡ a = omega (arith, less, short_t, short_u, le) in
      subst (λ (n : ℕ). is_lt (ordering_then (nat_cmp a n) (nat_cmp t u)) ≡ true) (sym same) (second_less a t u (omega (arith, less, same)))
]

pub key_not_less : (a b t u : ℕ) → t < 2 ^ 64 → u < 2 ^ 64 → is_lt (ordering_then (nat_cmp a b) (nat_cmp t u)) ≡ false → is_lt (nat_cmp (a * 2 ^ 64 + t) (b * 2 ^ 64 + u)) ≡ false
key_not_less a b t u short_t short_u not = elim (leb_tells (b * 2 ^ 64 + u) (a * 2 ^ 64 + t)) [
  | inl h ↦ not_less (a * 2 ^ 64 + t) (b * 2 ^ 64 + u) h.1
  | inr h ↦ absurd (both_ways (is_lt (ordering_then (nat_cmp a b) (nat_cmp t u))) not (pair_less a b t u short_t short_u h.1))
]

-- a list that was sorted in place is as long as before
pub whole : {A : Type 0} (old new rest : List A) (n : ℕ) → IsPermutation old new → length old ≡ n → take n (new ++ rest) ≡ new
whole old new rest n same long = ap (λ k. take k (new ++ rest)) (sym (length_permutation old new same ∙ long)) ∙ take-append_seam new rest
