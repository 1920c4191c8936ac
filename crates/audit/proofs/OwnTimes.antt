-- The timestamps of a valid machine's entries are their own.
use Rattle.std.proofs.Common.{◌≡◌, ◌≢◌, ◌<◌, ◌≤◌, ◌+◌, ℕ, zero, suc, Bool, eqb, cond, List, [], ◌∷◌, ◌++◌, map, Option, inl, inr, refl, sym, ap, subst, arith}
use Rattle.std.specs.List.{All, count_by}
use Rattle.std.specs.List.Sorted.{IsPermutation}
use Rattle.std.proofs.lemmas.Bool.Decides.{eqb_tells}
use Rattle.std.proofs.lemmas.List.Elements.{All-head, All-tail, All-map, All-weaker}
use Rattle.std.proofs.lemmas.List.Sorted.{IsPermutation-map, IsPermutation-append, All-permutation, sum_by-IsPermutation}
use Rattle.std.proofs.lemmas.List.Sums.{sum_by-cons, sum_by-append}
use Rattle.records.specs.declared.account.Account.{Account}
use Rattle.records.specs.declared.transfer.Transfer.{Transfer}
use Rattle.records.specs.EntryByEntry.{AreTimestampsApart}
use Rattle.records.specs.Machine.{Machine}
use Rattle.rows.specs.Tables.{IsAscendingBy}
use Rattle.rows.specs.TypedRows.{TypedRows}
use Rattle.audit.specs.Order.{IsBadRow, IsFirstPlace, lesser_place}
use Rattle.audit.specs.Told.{account_times, transfer_times}
use Rattle.audit.specs.Table.{IsOwnTime, IsBadTime}
use Rattle.audit.proofs.FirstPlaces.{first_of_two}
use Rattle.audit.proofs.EntriesApart.{times_at, counted_has, count_map}
use Rattle.audit.proofs.Readable.{none_bad}

abbrev one_if : Bool → ℕ
one_if b = cond b 1 0

-- a number that none has is not counted
uncounted : (time : ℕ) (times : List ℕ) → All (λ x. time ≢ x) times → times_at time times ≡ 0
uncounted time [] all = refl
uncounted time (x ∷ xs) all =
    let sums = sum_by-cons (λ y. one_if (eqb y time)) x xs in
    let rest = uncounted time xs (All-tail (λ y. time ≢ y) x xs all) in
    elim (eqb_tells x time) [
      | inl is ↦ absurd (All-head (λ y. time ≢ y) x xs all (sym is.1))
      | inr away ↦ omega (arith, sums, rest, ap one_if away.0)
    ]

-- in ascending rows each is counted once
abbrev key_at : {A : Type 0} → (A → ℕ) → ℕ → List A → ℕ
key_at key id xs = count_by (λ x. eqb (key x) id) xs

above_uncounted : {A : Type 0} (key : A → ℕ) (id : ℕ) (xs : List A) → All (λ x. id < key x) xs → key_at key id xs ≡ 0
above_uncounted key id [] all = refl
above_uncounted key id (x ∷ xs) all =
    let sums = sum_by-cons (λ y. one_if (eqb (key y) id)) x xs in
    let rest = above_uncounted key id xs (All-tail (λ y. id < key y) x xs all) in
    let less = All-head (λ y. id < key y) x xs all in
    elim (eqb_tells (key x) id) [
      | inl is ↦ absurd (let same = is.1 in omega (arith, less, same))
      | inr away ↦ omega (arith, sums, rest, ap one_if away.0)
    ]

pub ascending_once : {A : Type 0} (key : A → ℕ) (xs : List A) → IsAscendingBy key xs → (id : ℕ) → key_at key id xs ≤ 1
ascending_once key [] up id = omega arith
ascending_once key (x ∷ xs) up id =
    let sums = sum_by-cons (λ y. one_if (eqb (key y) id)) x xs in
    elim (eqb_tells (key x) id) [
      | inl is ↦
          let rest = above_uncounted key id xs (subst (λ (k : ℕ). All (λ y. k < key y) xs) is.1 up.0) in
          omega (arith, sums, rest, ap one_if is.0)
      | inr away ↦ let rest = ascending_once key xs up.1 id in omega (arith, sums, rest, ap one_if away.0)
    ]

-- so it is of the accounts, and of all entries, of a valid machine
abbrev opened_at : Account → ℕ
opened_at a = a.timestamp

abbrev made_at : Transfer → ℕ
made_at t = t.timestamp

accounts_once : (m : Machine) → IsAscendingBy opened_at m.accounts → (time : ℕ) → times_at time (map opened_at m.accounts) ≤ 1
accounts_once m up time = let once = ascending_once opened_at m.accounts up time in omega (arith, once, count_map opened_at (λ x. eqb x time) m.accounts)

transfers_once : (m : Machine) → IsAscendingBy made_at m.transfers → (time : ℕ) → times_at time (map made_at m.transfers) ≤ 1
transfers_once m up time = let once = ascending_once made_at m.transfers up time in omega (arith, once, count_map made_at (λ x. eqb x time) m.transfers)

not_both : (a t : List ℕ) (time : ℕ) → All (λ x. All (λ y. x ≢ y) t) a → times_at time a ≤ 1 → times_at time t ≤ 1 → times_at time (a ++ t) ≤ 1
not_both a t time apart once_a once_t = by (times_at time a) (times_at time t) (sum_by-append (λ y. one_if (eqb y time)) a t) once_a once_t (λ some. uncounted time t (counted_has (λ x. All (λ y. x ≢ y) t) time a apart some))
  where
    by : {c : ℕ} (n k : ℕ) → c ≡ n + k → n ≤ 1 → k ≤ 1 → (0 < n → k ≡ 0) → c ≤ 1
    by zero k sums once_n once_k none = omega (arith, sums, once_k)
    by (suc n) k sums once_n once_k none = let zero_k = none (omega arith) in omega (arith, sums, once_n, zero_k)

entries_once : (m : Machine) → AreTimestampsApart m → IsAscendingBy opened_at m.accounts → IsAscendingBy made_at m.transfers → (time : ℕ) → times_at time (map opened_at m.accounts ++ map made_at m.transfers) ≤ 1
entries_once m apart up_a up_t time =
    not_both (map opened_at m.accounts) (map made_at m.transfers) time
    (All-map (λ (x : ℕ). All (λ y. x ≢ y) (map made_at m.transfers)) opened_at m.accounts (All-weaker (λ (a : Account). All (λ (t : Transfer). a.timestamp ≢ t.timestamp) m.transfers) (λ (a : Account). All (λ y. a.timestamp ≢ y) (map made_at m.transfers)) (λ a away. All-map (λ (y : ℕ). a.timestamp ≢ y) made_at m.transfers away) m.accounts apart.apart))
    (accounts_once m up_a time) (transfers_once m up_t time)

-- and in any order
same_count : (time : ℕ) (xs ys : List ℕ) → IsPermutation xs ys → times_at time xs ≤ 1 → times_at time ys ≤ 1
same_count time xs ys same once = let e = sum_by-IsPermutation (λ x. one_if (eqb x time)) xs ys same in omega (arith, once, e)

id_map : (xs : List ℕ) → map (λ x. x) xs ≡ xs
id_map [] = refl
id_map (x ∷ xs) = ap (λ ys. x ∷ ys) (id_map xs)

own_times : (times among : List ℕ) → All (λ t. 0 < t) times → ((time : ℕ) → times_at time among ≤ 1) → (place : ℕ) → IsBadRow (IsOwnTime among) times place → ⊥
own_times times among positive once place bad =
    none_bad (λ (t : ℕ). t) (λ t. 0 < t) (IsOwnTime among) (λ t p. record { positive = p; once = once t }) times positive place
    (subst (λ (xs : List ℕ). IsBadRow (IsOwnTime among) xs place) (sym (id_map times)) bad)

pub no_bad_time : (m : Machine) (told : TypedRows) → AreTimestampsApart m → IsAscendingBy opened_at m.accounts → IsAscendingBy made_at m.transfers → IsPermutation m.accounts told.accounts → IsPermutation m.transfers told.transfers → (place : ℕ) → IsBadTime told place → ⊥
no_bad_time m told apart up_a up_t accounts transfers place bad =
    let same_a = IsPermutation-map opened_at m.accounts told.accounts accounts in
    let same_t = IsPermutation-map made_at m.transfers told.transfers transfers in
    let pos_a = All-permutation (λ (t : ℕ). 0 < t) (map opened_at m.accounts) (account_times told) same_a (All-map (λ (t : ℕ). 0 < t) opened_at m.accounts apart.positive_accounts) in
    let pos_t = All-permutation (λ (t : ℕ). 0 < t) (map made_at m.transfers) (transfer_times told) same_t (All-map (λ (t : ℕ). 0 < t) made_at m.transfers apart.positive_transfers) in
    let once_a = λ (time : ℕ). same_count time (map opened_at m.accounts) (account_times told) same_a (accounts_once m up_a time) in
    let once_all = λ (time : ℕ). same_count time (map opened_at m.accounts ++ map made_at m.transfers) (account_times told ++ transfer_times told) (IsPermutation-append (map opened_at m.accounts) (account_times told) (map made_at m.transfers) (transfer_times told) same_a same_t) (entries_once m apart up_a up_t time) in
    elim bad [
      | inl b ↦ own_times (account_times told) (account_times told) pos_a once_a place b
      | inr b ↦ own_times (transfer_times told) (account_times told ++ transfer_times told) pos_t once_all place b
    ]

-- the first bad time, of the times that are held
pub first_bad : (typed : TypedRows) (a b t all : List ℕ) (x y o : Option ℕ) → a ≡ account_times typed → b ≡ account_times typed → t ≡ transfer_times typed → all ≡ account_times typed ++ transfer_times typed → IsFirstPlace (IsBadRow (IsOwnTime a) b) x → IsFirstPlace (IsBadRow (IsOwnTime all) t) y → o ≡ lesser_place x y → IsFirstPlace (IsBadTime typed) o
first_bad typed a b t all x y o same_a same_b same_t same_all first second is =
    first_of_two (IsBadRow (IsOwnTime (account_times typed)) (account_times typed)) (IsBadRow (IsOwnTime (account_times typed ++ transfer_times typed)) (transfer_times typed)) x y o is
    (subst (λ (ts : List ℕ). IsFirstPlace (IsBadRow (IsOwnTime (account_times typed)) ts) x) same_b (subst (λ (ts : List ℕ). IsFirstPlace (IsBadRow (IsOwnTime ts) b) x) same_a first))
    (subst (λ (ts : List ℕ). IsFirstPlace (IsBadRow (IsOwnTime (account_times typed ++ transfer_times typed)) ts) y) same_t (subst (λ (ts : List ℕ). IsFirstPlace (IsBadRow (IsOwnTime ts) t) y) same_all second))
