-- Double-entry: over the accounts of a ledger, debits and credits are sums over the same entries.
use Rattle.std.proofs.Common.{◌≡◌, ◌+◌, ℕ, Bool, true, false, eqb, cond, List, [], ◌∷◌, Some, None, inl, inr, refl, sym, ap, ◌∙◌, arith}
use Rattle.std.specs.List.{sum_by, filter, All}
use Rattle.std.proofs.lemmas.Bool.{eqb-true, eq-eqb}
use Rattle.std.proofs.lemmas.Bool.Decides.{nat_tests}
use Rattle.std.proofs.lemmas.List.Elements.{All-head, All-tail, All-weaker}
use Rattle.std.proofs.lemmas.List.Sums.{sum_by-cons}
use Rattle.records.specs.declared.account.Account.{Account}
use Rattle.records.specs.declared.transfer.Transfer.{Transfer}
use Rattle.records.specs.Machine.{Machine, account_with}
use Rattle.records.specs.declared.side.Side.{Side}
use Rattle.records.specs.declared.side.Side.TheVariants.{Debit, Credit}
use Rattle.records.specs.Sides.{account_on}
use Rattle.records.specs.Balances.{amount_on, pending_amount, posted_amount}
use Rattle.engine.specs.Promises.{BooksBalance}
use Rattle.engine.proofs.FindByIdLemmas.{AreDistinct, with_key, here_or_later, not_later, other_way}
use Rattle.engine.proofs.SideSumLemmas.{total}
use Rattle.engine.proofs.IsSound.{IsSound, IsEntrySound}

-- sums of nothing, of two terms, of what a test keeps
sum_nothing : {A : Type 0} (f : A → ℕ) (xs : List A) → ((x : A) → f x ≡ 0) → sum_by f xs ≡ 0
sum_nothing f [] h = refl
sum_nothing f (x ∷ xs) h = omega (arith, sum_nothing f xs h, sum_by-cons f x xs, h x)

sum_plus : {A : Type 0} (f g both : A → ℕ) (xs : List A) → ((x : A) → both x ≡ f x + g x) → sum_by both xs ≡ sum_by f xs + sum_by g xs
sum_plus f g both [] h = refl
sum_plus f g both (x ∷ xs) h = omega (arith, sum_plus f g both xs h, sum_by-cons f x xs, sum_by-cons g x xs, sum_by-cons both x xs, h x)

sum_kept : {A : Type 0} (f : A → ℕ) (keep : Bool) (x : A) (xs : List A) → sum_by f (cond keep (x ∷ xs) xs) ≡ cond keep (f x) 0 + sum_by f xs
sum_kept f true x xs = sum_by-cons f x xs
sum_kept f false x xs = omega arith

-- an amount at the element with one key, among those that pass a test

absent_sum : {A : Type 0} (key : A → ℕ) (test : A → Bool) (id amount : ℕ) (xs : List A) → with_key key id xs ≡ None → sum_by (λ x. cond (eqb id (key x)) amount 0) (filter test xs) ≡ 0
absent_sum key test id amount [] none = refl
absent_sum key test id amount (x ∷ xs) none =
    let away = not_later (eqb (key x) id) x (with_key key id xs) none in
    grind (arith, nat_tests, away.0, absent_sum key test id amount xs away.1, sum_kept (λ y. cond (eqb id (key y)) amount 0) (test x) x (filter test xs))

kept_amount : (keep own : Bool) (amount rest : ℕ) → own ≡ true → rest ≡ 0 → cond keep (cond own amount 0) 0 + rest ≡ cond keep amount 0
kept_amount keep own amount rest is none = grind arith

kept_nothing : (keep own : Bool) (amount rest : ℕ) → own ≡ false → cond keep (cond own amount 0) 0 + rest ≡ rest
kept_nothing keep own amount rest is = grind arith

found_sum : {A : Type 0} (key : A → ℕ) (test : A → Bool) (id amount : ℕ) (xs : List A) (d : A) → AreDistinct key xs → with_key key id xs ≡ Some d → sum_by (λ x. cond (eqb id (key x)) amount 0) (filter test xs) ≡ cond (test d) amount 0
found_sum {A} key test id amount [] d distinct found = grind arith
found_sum {A} key test id amount (x ∷ xs) d distinct found =
    let f = λ (y : A). cond (eqb id (key y)) amount 0 in
    let kept = sum_kept f (test x) x (filter test xs) in
    elim (here_or_later (eqb (key x) id) x d (with_key key id xs) found) [
      | inl w ↦
          let same = eqb-true (key x) id w.0 in
          let rest = absent_sum key test id amount xs (rw same at distinct.0) in
          kept ∙ (kept_amount (test x) (eqb id (key x)) amount (sum_by f (filter test xs)) (eq-eqb id (key x) (sym same)) rest ∙ ap (λ (y : A). cond (test y) amount 0) w.1)
      | inr w ↦ kept ∙ (kept_nothing (test x) (eqb id (key x)) amount (sum_by f (filter test xs)) (other_way (key x) id w.0) ∙ found_sum key test id amount xs d distinct.1 w.1)
    ]

-- an entry's account on one side is there, in the entry's ledger
abbrev HasAccount : Side → List Account → Transfer → Type 0
HasAccount side accounts e = (a : Account) × (account_with (account_on side e) accounts ≡ Some a) × (a.ledger ≡ e.ledger)

-- the sum over the accounts of a ledger is a sum over its entries
by_entries : (side : Side) (f : Transfer → ℕ) (ledger : ℕ) (accounts : List Account) (entries : List Transfer) → AreDistinct (λ (a : Account). a.id) accounts → All (HasAccount side accounts) entries → sum_by (λ a. total side a.id f entries) (filter (λ a. eqb a.ledger ledger) accounts) ≡ sum_by (λ e. cond (eqb e.ledger ledger) (f e) 0) entries
by_entries side f ledger accounts [] distinct all = sum_nothing (λ a. total side a.id f []) (filter (λ a. eqb a.ledger ledger) accounts) (λ a. refl)
by_entries side f ledger accounts (e ∷ es) distinct all =
    let here = All-head (HasAccount side accounts) e es all in
    let of_ledger = filter (λ (a : Account). eqb a.ledger ledger) accounts in
    let split = sum_plus (λ a. amount_on side a.id f e) (λ a. total side a.id f es) (λ a. total side a.id f (e ∷ es)) of_ledger (λ a. sum_by-cons (amount_on side a.id f) e es) in
    let first = found_sum (λ (a : Account). a.id) (λ (a : Account). eqb a.ledger ledger) (account_on side e) (f e) accounts here.0 distinct here.1 ∙ ap (λ (l : ℕ). cond (eqb l ledger) (f e) 0) here.2 in
    let rest = by_entries side f ledger accounts es distinct (All-tail (HasAccount side accounts) e es all) in
    omega (arith, split, first, rest, sum_by-cons (λ (x : Transfer). cond (eqb x.ledger ledger) (f x) 0) e es)

-- so both sides of a ledger are the same sum
pub books_balance : (m : Machine) (ledger : ℕ) → IsSound m → BooksBalance m ledger
books_balance m ledger s =
    let has = λ (side : Side). All-weaker (IsEntrySound m.accounts m.transfers) (HasAccount side m.accounts) (λ e h. (h.account side, h.is_account side, h.ledger side)) m.transfers s.entries in
    let by = λ (side : Side) (f : Transfer → ℕ). by_entries side f ledger m.accounts m.transfers s.accounts (has side) in
    let same = λ (f : Transfer → ℕ). by Debit f ∙ sym (by Credit f) in
    record { posted = same posted_amount; pending = same (pending_amount m.transfers m.clock) }
