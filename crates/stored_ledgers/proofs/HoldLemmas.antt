-- The holds of one tenant that are due.
use Rattle.std.proofs.Common.{◌≡◌, ◌≢◌, inl, inr, ℕ, ◌+◌, ◌-◌, ◌<◌, ◌≤◌, Bool, true, false, cond, ◌&&◌, List, [], ◌∷◌, ◌++◌, Ordering, Less, Equal, Greater, is_gt, IsTrue, refl, sym, ap, subst, ◌∙◌, arith}
use Rattle.std.specs.Prelude.{nat_lt, nat_le, count_by}
use Rattle.std.specs.List.{All, AllByRecursion}
use Rattle.std.specs.List.Sorted.{IsStrictlySortedBy}
use Rattle.std.specs.Ordering.{nat_cmp, ordering_then}
use Rattle.std.proofs.lemmas.Bool.Decides.{nat_tests}
use Rattle.std.proofs.lemmas.Cmp.{nat_cmp_total, then_total, on_total}
use Rattle.std.proofs.lemmas.List.Elements.{All-head, All-tail, All-append, All-cons, All-nil, All-push, All-weaker, All-contains, All-same, All-from_recursion, recursion_from_All, Contains-push}
use Rattle.std.proofs.lemmas.List.Sums.{sum_by-append, sum_by-cons, sum_by_push, sum_by-le-sum_by}
use Rattle.std.proofs.lemmas.Map.Keys.{sorted_head, sorted_tail, le_from_not_gt}
use Rattle.std.proofs.lemmas.Map.Lookups.{exact_unsigned, exact_pairs}
use Rattle.std.proofs.lemmas.Map.Views.{btree_set_contains_iff}
use Rattle.std.specs.BTreeSet.{contains}
use Rattle.std.specs.Cmp.{IsTotalOrder}
use Rattle.std.proofs.lemmas.Bool.{cases_Bool}
use Rattle.stored_ledgers.specs.DueSets.{DueSet, due_cmp}
use Rattle.stored_ledgers.specs.Overdue.{HasHold, HasOneAt, IsNotOverdue, IsDuePiece, due_within}

-- tests that agree on all elements count alike, and one that none passes counts none
count_same : {X : Type 0} (p q : X → Bool) (xs : List X) → All (λ x. p x ≡ q x) xs
    → count_by p xs ≡ count_by q xs
count_same p q [] all = refl
count_same p q (x ∷ xs) all =
    let here = All-head (λ x. p x ≡ q x) x xs all in
    let there = count_same p q xs (All-tail (λ x. p x ≡ q x) x xs all) in
    sum_by-cons (λ x. cond (p x) 1 0) x xs ∙ (λ i. cond (here i) 1 0 + there i)
    ∙ sym (sum_by-cons (λ x. cond (q x) 1 0) x xs)

count_none : {X : Type 0} (p : X → Bool) (xs : List X) → All (λ x. p x ≡ false) xs
    → count_by p xs ≡ 0
count_none p [] all = refl
count_none p (x ∷ xs) all =
    let here = All-head (λ x. p x ≡ false) x xs all in
    let there = count_none p xs (All-tail (λ x. p x ≡ false) x xs all) in
    sum_by-cons (λ x. cond (p x) 1 0) x xs ∙ (λ i. cond (here i) 1 0 + there i)

-- a pair before another is due no later
not_greater : (o p : Ordering) → ordering_then o p ≡ Less → is_gt o ≡ false
not_greater Less p is = refl
not_greater Equal p is = refl
not_greater Greater p is = absurd (cc)

earlier : (a b : ℕ × ℕ) → due_cmp a b ≡ Less → a.0 ≤ b.0
earlier a b is = le_from_not_gt a.0 b.0 (not_greater (nat_cmp a.0 b.0) (nat_cmp a.1 b.1) is)

middle : {X : Type 0} (P : X → Type 0) (xs : List X) (y : X) (ys : List X)
    → AllByRecursion P (xs ++ y ∷ ys) → P y
middle P [] y ys all = all.0
middle P (x ∷ xs) y ys all = middle P xs y ys all.1

sorted_split : (seen : List (ℕ × ℕ)) (hold : ℕ × ℕ) (rest : List (ℕ × ℕ))
    → IsStrictlySortedBy due_cmp (seen ++ hold ∷ rest)
    → All (λ h. h.0 ≤ hold.0) seen × All (λ h. hold.0 ≤ h.0) rest
sorted_split [] hold rest sorted = (
  All-nil (λ h. h.0 ≤ hold.0),
  All-weaker (λ h. due_cmp hold h ≡ Less) (λ h. hold.0 ≤ h.0) (earlier hold) rest
      (All-from_recursion (λ h. due_cmp hold h ≡ Less) rest (sorted_head due_cmp hold rest sorted)),
)
sorted_split (x ∷ seen) hold rest sorted =
    let tail = sorted_split seen hold rest (sorted_tail due_cmp x (seen ++ hold ∷ rest) sorted) in
    let less = middle (λ h. due_cmp x h ≡ Less) seen hold rest
    (sorted_head due_cmp x (seen ++ hold ∷ rest) sorted) in (
      All-cons (λ h. h.0 ≤ hold.0) x seen (earlier x hold less) tail.0,
      tail.1,
    )

-- the tests at a hold that is early or late
by_then : (after by due : ℕ) → due ≤ by → (nat_lt after due && nat_le due by) ≡ nat_lt after due
by_then after by due early = grind (arith, nat_tests)

behind : (after by due : ℕ) → by < due → (nat_lt after due && nat_le due by) ≡ false
behind after by due late = grind (arith, nat_tests)

not_before : (after before due : ℕ) → before ≤ due → (nat_lt after due && nat_lt due before) ≡ false
not_before after before due late = grind (arith, nat_tests)

not_fresh : (after due later : ℕ) → due ≤ later → nat_lt after later ≡ false → nat_lt after due ≡ false
not_fresh after due later early old = grind (arith, nat_tests)

due_cmp_total : IsTotalOrder due_cmp
due_cmp_total = then_total (on_total (λ a. a.0) nat_cmp_total) (on_total (λ a. a.1) nat_cmp_total)

no_more : (a b : Bool) → cond {A = ℕ} (a && b) 1 0 ≤ cond {A = ℕ} a 1 0
no_more true true = omega arith
no_more true false = omega arith
no_more false b = omega arith

-- what was read of a set in order: since the time to which its tenant was settled so many are due
pub record IsRead (set : DueSet) (first released moment until count : ℕ)
    (seen : List (ℕ × ℕ)) : Type 0 where
  pub by : until ≤ moment
  pub at : HasOneAt set first → HasOneAt set until
  pub upto : All (λ h. h.0 ≤ until) seen
  pub counted : count ≡ count_by (λ h. nat_lt released h.0) seen
  pub few : count_by (λ h. nat_lt released h.0 && nat_lt h.0 until) seen < 200
  pub most : count ≤ 200
  pub last : (n : ℕ) → 0 < count → All (λ h. h.0 ≤ n) seen → until ≤ n

pub read_none : (set : DueSet) (first released moment : ℕ) → first ≤ moment
    → IsRead set first released moment first 0 []
read_none set first released moment by = record {
  by = by;
  at = λ has. has;
  upto = All-nil (λ h. h.0 ≤ first);
  counted = refl;
  few = omega arith;
  most = omega arith;
  last = λ n some all. absurd (omega arith);
}

pub read_more : (set : DueSet) (first released moment until count more : ℕ)
    (seen : List (ℕ × ℕ)) (hold : ℕ × ℕ) (rest : List (ℕ × ℕ))
    → set.keys ≡ seen ++ hold ∷ rest → IsStrictlySortedBy due_cmp set.keys
    → All (λ h. IsTrue (contains due_cmp set h)) set.keys → hold.0 ≤ moment → count ≢ 200
    → more ≡ count + cond {A = ℕ} (nat_lt released hold.0) 1 0
    → IsRead set first released moment until count seen
    → IsRead set first released moment hold.0 more (seen ++ hold ∷ [])
read_more set first released moment until count more seen hold rest keys sorted found by few adds read =
    let P : ℕ × ℕ → Type 0 = λ h. IsTrue (contains due_cmp set h) in
    let has : P hold = middle P seen hold rest
    (recursion_from_All P (seen ++ hold ∷ rest) (subst (All P) keys found)) in
    let fresh : ℕ × ℕ → Bool = λ h. nat_lt released h.0 in
    let before : ℕ × ℕ → Bool = λ h. nat_lt released h.0 && nat_lt h.0 hold.0 in
    let split = sorted_split seen hold rest (subst (IsStrictlySortedBy due_cmp) keys sorted) in
    let all : count_by fresh (seen ++ hold ∷ []) ≡ count_by fresh seen + cond {A = ℕ} (nat_lt released hold.0) 1 0
    = sum_by_push (λ h. cond (fresh h) 1 0) seen hold in
    let some : count_by before (seen ++ hold ∷ []) ≡ count_by before seen + cond {A = ℕ} (before hold) 1 0
    = sum_by_push (λ h. cond (before h) 1 0) seen hold in
    let last : before hold ≡ false = not_before released hold.0 hold.0 (omega arith) in
    let none : cond {A = ℕ} (before hold) 1 0 ≡ 0 = ap (λ (b : Bool). cond {A = ℕ} b 1 0) last in
    let part : count_by before seen ≤ count_by fresh seen =
    sum_by-le-sum_by (λ h. cond (before h) 1 0) (λ h. cond (fresh h) 1 0) seen
    (λ h. no_more (nat_lt released h.0) (nat_lt h.0 hold.0)) in
    let less : count < 200 = omega (arith, read.most, few) in
    let one : cond {A = ℕ} (nat_lt released hold.0) 1 0 ≤ 1 = no_more true (nat_lt released hold.0) in
    record {
      by = by;
      at = λ _. (hold.1, has);
      upto = All-push (λ h. h.0 ≤ hold.0) seen hold split.0 (omega arith);
      counted = adds ∙ ap (λ n. n + cond {A = ℕ} (nat_lt released hold.0) 1 0) read.counted ∙ sym all;
      few = omega (arith, some, none, part, read.counted, less);
      most = omega (arith, adds, one, less);
      last = λ n some all. All-contains (λ h. h.0 ≤ n) (seen ++ hold ∷ []) hold all (Contains-push seen hold);
    }

-- all that was read is due by a moment behind it
read_within : (set : DueSet) (first released moment until count by : ℕ) (seen : List (ℕ × ℕ))
    → until ≤ by → IsRead set first released moment until count seen
    → count_by (λ h. nat_lt released h.0 && nat_le h.0 by) seen ≡ count
read_within set first released moment until count by seen upto read =
    count_same (λ h. nat_lt released h.0 && nat_le h.0 by) (λ h. nat_lt released h.0) seen
    (All-weaker (λ h. h.0 ≤ until) (λ h. (nat_lt released h.0 && nat_le h.0 by) ≡ nat_lt released h.0)
    (λ h early. by_then released by h.0 (omega (arith, early, upto))) seen read.upto)
    ∙ sym read.counted

-- what a set has is among its keys
held : (P : ℕ × ℕ → Type 0) (set : DueSet) → All P set.keys → (due id : ℕ) → HasHold set due id
    → P (due, id)
held P set all due id has = All-contains P set.keys (due, id) all
    ((btree_set_contains_iff due_cmp_total
    (exact_pairs nat_cmp nat_cmp exact_unsigned exact_unsigned) set (due, id)).0 has)

-- how many pass in two parts of a list
parts : (p : ℕ × ℕ → Bool) (keys seen rest : List (ℕ × ℕ)) → keys ≡ seen ++ rest
    → count_by p keys ≡ count_by p seen + count_by p rest
parts p keys seen rest is = ap (count_by p) is ∙ sum_by-append (λ h. cond (p h) 1 0) seen rest

-- where what is left is due later, all that is due was read
pub read_all : (set : DueSet) (first released moment until count : ℕ) (seen rest : List (ℕ × ℕ))
    → set.keys ≡ seen ++ rest → All (λ h. moment < h.0) rest
    → IsRead set first released moment until count seen → HasOneAt set first
    → IsDuePiece set released moment (record { until = until; has_more = false })
read_all set first released moment until count seen rest keys later read has =
    let due : ℕ × ℕ → Bool = λ h. nat_lt released h.0 && nat_le h.0 moment in
    let before : ℕ × ℕ → Bool = λ h. nat_lt released h.0 && nat_lt h.0 until in
    let whole = parts due set.keys seen rest keys in
    let front : count_by due seen ≡ count =
    read_within set first released moment until count moment seen read.by read in
    let back : count_by due rest ≡ 0 = count_none due rest
    (All-weaker (λ h. moment < h.0) (λ h. due h ≡ false) (λ h. behind released moment h.0) rest later) in
    let whole_before = parts before set.keys seen rest keys in
    let back_before : count_by before rest ≡ 0 = count_none before rest
    (All-weaker (λ h. moment < h.0) (λ h. before h ≡ false)
    (λ h late. not_before released until h.0 (omega (arith, late, read.by))) rest later) in
    let P : ℕ × ℕ → Type 0 = λ h. h.0 ≤ moment → h.0 ≤ until in
    record {
      by = read.by;
      at = read.at has;
      few = omega (arith, whole_before, back_before, read.few);
      full = λ is. absurd (cc);
      more = λ is. absurd (cc);
      all = λ _. held P set (All-same P set.keys (seen ++ rest) keys
          (All-append P seen rest (All-weaker (λ h. h.0 ≤ until) P (λ h early _. early) seen read.upto)
          (All-weaker (λ h. moment < h.0) P (λ h late by. absurd (omega (arith, late, by))) rest later)));
      enough = λ _. omega (arith, whole, front, back, read.most);
    }

-- where one is due later than a moment, so is what comes after it
pub all_later : (set : DueSet) (seen : List (ℕ × ℕ)) (hold : ℕ × ℕ) (rest : List (ℕ × ℕ))
    → (moment : ℕ) → set.keys ≡ seen ++ hold ∷ rest → IsStrictlySortedBy due_cmp set.keys
    → moment < hold.0 → All (λ h. moment < h.0) (hold ∷ rest)
all_later set seen hold rest moment keys sorted later =
    let split = sorted_split seen hold rest (subst (IsStrictlySortedBy due_cmp) keys sorted) in
    All-cons (λ h. moment < h.0) hold rest later
    (All-weaker (λ h. hold.0 ≤ h.0) (λ h. moment < h.0) (λ h up. omega (arith, later, up)) rest split.1)

-- where so many were read, the next is due since the time to which the tenant was settled
fresh_next : (released count : ℕ) (seen : List (ℕ × ℕ)) (hold : ℕ × ℕ) → count ≡ 200
    → count ≡ count_by (λ h. nat_lt released h.0) seen → All (λ h. h.0 ≤ hold.0) seen
    → nat_lt released hold.0 ≡ true
fresh_next released count seen hold full counted upto = elim (cases_Bool (nat_lt released hold.0)) [
  | inl fresh ↦ fresh
  | inr old ↦ absurd (
      let none = count_none (λ h. nat_lt released h.0) seen
      (All-weaker (λ h. h.0 ≤ hold.0) (λ h. nat_lt released h.0 ≡ false)
      (λ h early. not_fresh released h.0 hold.0 early old) seen upto) in
      omega (arith, full, counted, none))
]

-- where as many were read as are released at once, and one more is due
pub read_enough : (set : DueSet) (first released moment until count : ℕ)
    (seen : List (ℕ × ℕ)) (hold : ℕ × ℕ) (rest : List (ℕ × ℕ))
    → set.keys ≡ seen ++ hold ∷ rest → IsStrictlySortedBy due_cmp set.keys
    → hold.0 ≤ moment → count ≡ 200
    → IsRead set first released moment until count seen → HasOneAt set first
    → IsDuePiece set released moment (record { until = until; has_more = true })
read_enough set first released moment until count seen hold rest keys sorted by full read has =
    let due : ℕ × ℕ → Bool = λ h. nat_lt released h.0 && nat_le h.0 moment in
    let told : ℕ × ℕ → Bool = λ h. nat_lt released h.0 && nat_le h.0 until in
    let before : ℕ × ℕ → Bool = λ h. nat_lt released h.0 && nat_lt h.0 until in
    let split = sorted_split seen hold rest (subst (IsStrictlySortedBy due_cmp) keys sorted) in
    let last : until ≤ hold.0 = read.last hold.0 (omega (arith, full)) split.0 in
    let next : due hold ≡ true = by_then released moment hold.0 by
    ∙ fresh_next released count seen hold full read.counted split.0 in
    let whole = parts due set.keys seen (hold ∷ rest) keys in
    let whole_told = parts told set.keys seen (hold ∷ rest) keys in
    let whole_before = parts before set.keys seen (hold ∷ rest) keys in
    let front = read_within set first released moment until count moment seen read.by read in
    let front_told = read_within set first released moment until count until seen (omega arith) read in
    let back : count_by due (hold ∷ rest) ≡ 1 + count_by due rest =
    sum_by-cons (λ h. cond (due h) 1 0) hold rest
    ∙ ap (λ (b : Bool). cond {A = ℕ} b 1 0 + count_by due rest) next in
    let back_before : count_by before (hold ∷ rest) ≡ 0 = count_none before (hold ∷ rest)
    (All-cons (λ h. before h ≡ false) hold rest (not_before released until hold.0 last)
    (All-weaker (λ h. hold.0 ≤ h.0) (λ h. before h ≡ false)
    (λ h late. not_before released until h.0 (omega (arith, late, last))) rest split.1)) in
    record {
      by = read.by;
      at = read.at has;
      few = omega (arith, whole_before, back_before, read.few);
      full = λ _. omega (arith, whole_told, front_told, full);
      more = λ _. omega (arith, whole, front, back, full);
      all = λ is. absurd (cc);
      enough = λ is. absurd (cc);
    }

-- where all is due later than a moment, nothing is overdue at it
pub none_overdue : (set : DueSet) (released moment : ℕ) → All (λ h. moment < h.0) set.keys
    → IsNotOverdue set released moment
none_overdue set released moment later = record {
  few = let none : due_within set released moment ≡ 0
      = count_none (λ h. nat_lt released h.0 && nat_le h.0 moment) set.keys
      (All-weaker (λ h. moment < h.0) (λ h. (nat_lt released h.0 && nat_le h.0 moment) ≡ false)
      (λ h. behind released moment h.0) set.keys later) in omega (arith, none);
  late = λ due id has. let late = held (λ h. moment < h.0) set later due id has in omega (arith, late);
}

-- all keys are due no earlier than the first
not_greater_first : (o p : Ordering) → is_gt (ordering_then o p) ≡ false → is_gt o ≡ false
not_greater_first Less p is = refl
not_greater_first Equal p is = refl
not_greater_first Greater p is = is

pub from_first : (set : DueSet) (first : ℕ × ℕ) (moment : ℕ) → moment < first.0
    → All (λ h. is_gt (due_cmp first h) ≡ false) set.keys → All (λ h. moment < h.0) set.keys
from_first set first moment later all =
    All-weaker (λ h. is_gt (due_cmp first h) ≡ false) (λ h. moment < h.0)
    (λ h up. let le : first.0 ≤ h.0 = le_from_not_gt first.0 h.0
    (not_greater_first (nat_cmp first.0 h.0) (nat_cmp first.1 h.1) up) in omega (arith, later, le))
    set.keys all

-- where few are due and the first has not been for a second, nothing is overdue
pub few_overdue : (set : DueSet) (released moment : ℕ) → due_within set released moment ≤ 200
    → All (λ h. moment - 1000000000 < h.0) set.keys → IsNotOverdue set released moment
few_overdue set released moment few later = record {
  few = few;
  late = λ due id has. held (λ h. moment - 1000000000 < h.0) set later due id has;
}
