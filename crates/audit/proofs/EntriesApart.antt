-- Entries whose timestamps are their own.
use Rattle.std.proofs.Common.{◌≡◌, ◌<◌, ◌≤◌, ◌+◌, ℕ, zero, suc, Bool, eqb, cond, List, [], ◌∷◌, ◌++◌, map, inl, inr, refl, sym, ap, ◌∙◌, subst, arith}
use Rattle.std.specs.List.{All, count_by}
use Rattle.std.proofs.lemmas.Bool.Decides.{eqb_tells}
use Rattle.std.proofs.lemmas.List.Elements.{All-head, All-tail}
use Rattle.std.proofs.lemmas.List.Sums.{sum_by-cons, sum_by-append}
use Rattle.records.specs.declared.account.Account.{Account}
use Rattle.records.specs.declared.transfer.Transfer.{Transfer}
use Rattle.rows.specs.Tables.{HasDistinctKeys}
use Rattle.rows.specs.TypedRows.{TypedRows}
use Rattle.running.specs.declared.entry.Entry.TheVariants.{Opened, Moved}
use Rattle.running.specs.Entries.{time_of}
use Rattle.audit.specs.Order.{IsBadRow}
use Rattle.audit.specs.Told.{account_times, transfer_times}
use Rattle.audit.specs.Table.{IsOwnTime, IsBadTime}
use Rattle.audit.proofs.FirstPlaces.{bad_at}

abbrev one_if : Bool → ℕ
one_if b = cond b 1 0

-- how often a time stands in a list
abbrev pub times_at : ℕ → List ℕ → ℕ
times_at time times = count_by (λ x. eqb x time) times

-- where no time is bad, one that stands there stands once among those that count
pub counted_has : (Q : ℕ → Type 0) (time : ℕ) (times : List ℕ) → All Q times → 0 < times_at time times → Q time
counted_has Q time [] all some = absurd (omega arith)
counted_has Q time (x ∷ xs) all some =
    let sums = sum_by-cons (λ y. one_if (eqb y time)) x xs in
    elim (eqb_tells x time) [
      | inl is ↦ subst Q is.1 (All-head Q x xs all)
      | inr away ↦ counted_has Q time xs (All-tail Q x xs all) (omega (arith, some, sums, ap one_if away.0))
    ]

all_own : (times among : List ℕ) → ((place : ℕ) → IsBadRow (IsOwnTime among) times place → ⊥) → All (λ time. (IsOwnTime among time → ⊥) → ⊥) times
all_own times among good place d within = λ bad. good place (bad_at (IsOwnTime among) times place d within bad)

at_most_once : (n : ℕ) → ((n ≤ 1 → ⊥) → ⊥) → n ≤ 1
at_most_once zero h = omega arith
at_most_once (suc zero) h = omega arith
at_most_once (suc (suc n)) h = absurd (h (λ le. omega (arith, le)))

stands_once : (times among : List ℕ) (time : ℕ) → ((place : ℕ) → IsBadRow (IsOwnTime among) times place → ⊥) → 0 < times_at time times → times_at time among ≤ 1
stands_once times among time good some =
    at_most_once (times_at time among) (λ more. counted_has (λ t. (IsOwnTime among t → ⊥) → ⊥) time times (all_own times among good) some (λ own. more own.once))

-- how often it stands in two lists
one_list : (a t : List ℕ) (time : ℕ) → ((place : ℕ) → IsBadRow (IsOwnTime a) a place → ⊥) → ((place : ℕ) → IsBadRow (IsOwnTime (a ++ t)) t place → ⊥) → times_at time (a ++ t) ≤ 1
one_list a t time good_a good_t =
    by (times_at time a) (times_at time t) (times_at time (a ++ t)) (sum_by-append (λ y. one_if (eqb y time)) a t) (stands_once a a time good_a) (stands_once t (a ++ t) time good_t)
  where
    by : (n k both : ℕ) → both ≡ n + k → (0 < n → n ≤ 1) → (0 < k → both ≤ 1) → both ≤ 1
    by zero zero both sums one other = omega (arith, sums)
    by (suc n) zero both sums one other = let le = one (omega arith) in omega (arith, sums, le)
    by n (suc k) both sums one other = other (omega arith)

-- counts in lists that are made of others
pub count_map : {A B : Type 0} (f : A → B) (q : B → Bool) (xs : List A) → count_by q (map f xs) ≡ count_by (λ x. q (f x)) xs
count_map f q [] = refl
count_map f q (x ∷ xs) = sum_by-cons (λ y. one_if (q y)) (f x) (map f xs) ∙ ap (λ n. one_if (q (f x)) + n) (count_map f q xs) ∙ sym (sum_by-cons (λ y. one_if (q (f y))) x xs)

times_of : (accounts : List Account) (transfers : List Transfer) (time : ℕ) → count_by (λ e. eqb (time_of e) time) (map Opened accounts ++ map Moved transfers) ≡ times_at time (map (λ (a : Account). a.timestamp) accounts ++ map (λ (t : Transfer). t.timestamp) transfers)
times_of accounts transfers time =
    let at = λ (x : ℕ). one_if (eqb x time) in
    sum_by-append (λ e. at (time_of e)) (map Opened accounts) (map Moved transfers)
    ∙ (λ i. (count_map Opened (λ e. eqb (time_of e) time) accounts ∙ sym (count_map (λ (a : Account). a.timestamp) (λ x. eqb x time) accounts)) i
    + (count_map Moved (λ e. eqb (time_of e) time) transfers ∙ sym (count_map (λ (t : Transfer). t.timestamp) (λ x. eqb x time) transfers)) i)
    ∙ sym (sum_by-append at (map (λ (a : Account). a.timestamp) accounts) (map (λ (t : Transfer). t.timestamp) transfers))

pub entries_apart : (told : TypedRows) → ((place : ℕ) → IsBadTime told place → ⊥) → HasDistinctKeys time_of (map Opened told.accounts ++ map Moved told.transfers)
entries_apart told good time =
    let once = one_list (account_times told) (transfer_times told) time (λ place bad. good place (inl bad)) (λ place bad. good place (inr bad)) in
    omega (arith, once, times_of told.accounts told.transfers time)
