-- Which transfers are due, told by how often an id is counted.
use Rattle.std.proofs.Common.{◌≡◌, ◌≤◌, ◌+◌, ℕ, Bool, true, false, ◌&&◌, ◌||◌, eqb, ltb, cond, List, [], ◌∷◌, ◌++◌, map, Option, Some, None, refl, sym, ap, ◌∙◌, subst, zero-add, arith}
use Rattle.std.specs.List.{list_any, filter, count_by}
use Rattle.std.specs.List.Sorted.{IsPermutation}
use Rattle.std.proofs.lemmas.Bool.{eqb-true, eq-eqb, lt-ltb}
use Rattle.std.proofs.lemmas.List.Sums.{sum_by-cons, sum_by-append}
use Rattle.std.proofs.lemmas.List.Sorted.{sum_by-IsPermutation}
use Rattle.records.specs.declared.transfer.Transfer.{Transfer}
use Rattle.records.specs.Flags.{is_pending}
use Rattle.records.specs.Machine.{Machine, has_id, transfer_with}
use Rattle.rows.specs.declared.status_row.StatusRow.{StatusRow}
use Rattle.rows.specs.Prescribed.{rows_for, status_row}
use Rattle.rows.specs.Settling.{is_due_row, due_ids}
use Rattle.engine.proofs.ValidMachineLemmas.{AreDistinct, with_key, not_later}

abbrev one_if : Bool → ℕ
one_if b = cond b 1 0

-- counts in lists that were made of others
count_map : {A B : Type 0} (f : A → B) (q : B → Bool) (xs : List A) → count_by q (map f xs) ≡ count_by (λ x. q (f x)) xs
count_map f q [] = refl
count_map f q (x ∷ xs) = sum_by-cons (λ y. one_if (q y)) (f x) (map f xs) ∙ ap (λ n. one_if (q (f x)) + n) (count_map f q xs) ∙ sym (sum_by-cons (λ y. one_if (q (f y))) x xs)

filter_step : {A : Type 0} (here : Bool) (q : A → Bool) (x : A) (kept : List A) (n : ℕ) → count_by q kept ≡ n → count_by q (cond here (x ∷ kept) kept) ≡ one_if (here && q x) + n
filter_step true q x kept n h = sum_by-cons (λ y. one_if (q y)) x kept ∙ ap (λ k. one_if (q x) + k) h
filter_step false q x kept n h = omega (arith, h)

pub count_filter : {A : Type 0} (p q : A → Bool) (xs : List A) → count_by q (filter p xs) ≡ count_by (λ x. p x && q x) xs
count_filter p q [] = refl
count_filter p q (x ∷ xs) = filter_step (p x) q x (filter p xs) (count_by (λ y. p y && q y) xs) (count_filter p q xs) ∙ sym (sum_by-cons (λ y. one_if (p y && q y)) x xs)

-- among distinct keys each is counted once, where its element passes the test
abbrev pub counted : {A : Type 0} → (A → Bool) → Option A → ℕ
counted h None = 0
counted h (Some x) = one_if (h x)

absent_count : {A : Type 0} (key : A → ℕ) (h : A → Bool) (id : ℕ) (xs : List A) → with_key key id xs ≡ None → count_by (λ x. eqb (key x) id && h x) xs ≡ 0
absent_count key h id [] none = refl
absent_count key h id (x ∷ xs) none =
    let away = not_later (eqb (key x) id) x (with_key key id xs) none in
    sum_by-cons (λ y. one_if (eqb (key y) id && h y)) x xs
    ∙ (λ i. one_if (away.0 i && h x) + absent_count key h id xs away.1 i)

count_step : {A : Type 0} (here : Bool) (h : A → Bool) (x : A) (found : Option A) (n : ℕ) → (here ≡ true → n ≡ 0) → (here ≡ false → n ≡ counted h found) → one_if (here && h x) + n ≡ counted h (cond here (Some x) found)
count_step true h x found n none rest = omega (arith, none refl)
count_step false h x found n none rest = omega (arith, rest refl)

pub count_keyed : {A : Type 0} (key : A → ℕ) (h : A → Bool) (id : ℕ) (xs : List A) → AreDistinct key xs → count_by (λ x. eqb (key x) id && h x) xs ≡ counted h (with_key key id xs)
count_keyed key h id [] d = refl
count_keyed key h id (x ∷ xs) d =
    sum_by-cons (λ y. one_if (eqb (key y) id && h y)) x xs
    ∙ count_step (eqb (key x) id) h x (with_key key id xs) (count_by (λ y. eqb (key y) id && h y) xs)
    (λ is. absent_count key h id xs (subst (λ k. with_key key k xs ≡ None) (eqb-true (key x) id is) d.0))
    (λ _. count_keyed key h id xs d.1)

-- whether an element passes is whether one is counted
any_step : (here rest : Bool) (n : ℕ) → rest ≡ ltb 0 n → (here || rest) ≡ ltb 0 (one_if here + n)
any_step true rest n h = sym (lt-ltb 0 (1 + n) (omega arith))
any_step false rest n h = h ∙ ap (λ k. ltb 0 k) (sym (zero-add n))

pub any_by_count : {A : Type 0} (p : A → Bool) (xs : List A) → list_any p xs ≡ ltb 0 (count_by p xs)
any_by_count p [] = refl
any_by_count p (x ∷ xs) = any_step (p x) (list_any p xs) (count_by p xs) (any_by_count p xs) ∙ ap (λ n. ltb 0 n) (sym (sum_by-cons (λ y. one_if (p y)) x xs))

-- a pending transfer that is open in the machine, and due at the clock
abbrev pub is_due_in : Machine → ℕ → Transfer → Bool
is_due_in m clock t = is_pending t.flags && is_due_row clock (status_row m t)

key_first : (a b c : Bool) → (a && (b && c)) ≡ (c && (a && b))
key_first true true true = refl
key_first true true false = refl
key_first true false true = refl
key_first true false false = refl
key_first false b true = refl
key_first false b false = refl

-- how often an id is among the due ones
pub count_due : (m : Machine) (clock id : ℕ) → AreDistinct (λ (t : Transfer). t.id) m.transfers → count_by (λ x. eqb x id) (due_ids clock (rows_for 3 m)) ≡ counted (is_due_in m clock) (transfer_with id m.transfers)
unfolding rows_for
count_due m clock id distinct =
    let row = λ (r : StatusRow). r.transfer in
    let pends = λ (t : Transfer). is_pending t.flags in
    let rows = map (status_row m) (filter pends m.transfers) in
    count_map row (λ x. eqb x id) (filter (is_due_row clock) rows)
    ∙ count_filter (is_due_row clock) (λ r. eqb r.transfer id) rows
    ∙ count_map (status_row m) (λ r. is_due_row clock r && eqb r.transfer id) (filter pends m.transfers)
    ∙ count_filter pends (λ t. is_due_row clock (status_row m t) && eqb t.id id) m.transfers
    ∙ ap (λ (p : Transfer → Bool). count_by p m.transfers) (λ i t. key_first (is_pending t.flags) (is_due_row clock (status_row m t)) (eqb t.id id) i)
    ∙ count_keyed (λ (t : Transfer). t.id) (is_due_in m clock) id m.transfers distinct

-- an id that is among the due ones, with those that were released before it
pub record IsReleasing (m : Machine) (clock : ℕ) (done : List ℕ) (id : ℕ) (t : Transfer) : Type 0 where
  pub found : transfer_with id m.transfers ≡ Some t
  pub due : is_due_in m clock t ≡ true
  pub not_done : has_id id done ≡ false

is_one : (due : Bool) (n : ℕ) → n + 1 ≤ one_if due → (due ≡ true) × (n ≡ 0)
is_one true n h = (refl, omega arith)
is_one false n h = absurd (omega arith)

is_found : (due : Transfer → Bool) (found : Option Transfer) (n : ℕ) → n + 1 ≤ counted due found → (t : Transfer) × (found ≡ Some t) × (due t ≡ true) × (n ≡ 0)
is_found due None n h = absurd (omega arith)
is_found due (Some t) n h = let parts = is_one (due t) n h in (t, refl, parts.0, parts.1)

pub is_releasing : (m : Machine) (clock : ℕ) (done rest : List ℕ) (id : ℕ) → AreDistinct (λ (t : Transfer). t.id) m.transfers → IsPermutation (due_ids clock (rows_for 3 m)) (done ++ id ∷ rest) → (t : Transfer) × IsReleasing m clock done id t
is_releasing m clock done rest id distinct same =
    let here = λ (x : ℕ). one_if (eqb x id) in
    let n = count_by (λ x. eqb x id) done in
    let all = sum_by-IsPermutation here (due_ids clock (rows_for 3 m)) (done ++ id ∷ rest) same ∙ count_due m clock id distinct in
    let cut = sum_by-append here done (id ∷ rest) in
    let own = sum_by-cons here id rest in
    let itself = ap one_if (eq-eqb id id refl) in
    let parts = is_found (is_due_in m clock) (transfer_with id m.transfers) n (omega (arith, all, cut, own, itself)) in
    (parts.0, record { found = parts.1; due = parts.2; not_done = any_by_count (λ x. eqb x id) done ∙ ap (λ k. ltb 0 k) parts.3 })
