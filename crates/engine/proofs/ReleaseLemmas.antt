-- The balances of a list without one of its open entries.
use Rattle.std.proofs.Common.{◌≡◌, ◌≤◌, ◌+◌, ◌-◌, ℕ, Bool, true, false, ◌&&◌, ◌||◌, eqb, cond, List, [], ◌∷◌, ◌++◌, refl, sym, ap, ap₂, ◌∙◌, subst, arith}
use Rattle.std.specs.List.{list_any, sum_by, All}
use Rattle.std.proofs.lemmas.Bool.{eq-eqb, and_from, cond-true, both_ways}
use Rattle.std.proofs.lemmas.List.Elements.{All-head, All-tail}
use Rattle.std.proofs.lemmas.List.Sums.{sum_by-cons}
use Rattle.records.specs.declared.transfer.Transfer.{Transfer}
use Rattle.records.specs.Flags.{is_pending, is_post_or_void}
use Rattle.records.specs.Fate.{posts, voids, fate_of, is_open}
use Rattle.records.specs.declared.side.Side.{Side}
use Rattle.records.specs.declared.side.Side.TheVariants.{Debit, Credit}
use Rattle.records.specs.Sides.{other_side, account_on, sums_on}
use Rattle.records.specs.Balances.{amount_on, sums_of, balances_of, pending_amount, posted_amount}
use Rattle.records.specs.Machine.{Machine}
use Rattle.engine.specs.After.{sums_without, balances_released}
use Rattle.engine.specs.Promises.{IsReleased}
use Rattle.engine.proofs.ListSumLemmas.{sum_same}
use Rattle.engine.proofs.SideLemmas.{by_side, differ_on}
use Rattle.engine.proofs.FateLemmas.{ends_none, pending_same}
use Rattle.engine.proofs.SideSumLemmas.{total, new_posted}
use Rattle.engine.proofs.IsSound.{IsSound, IsEntrySound}

-- a test and a sum without one element
any_without : {A : Type 0} (p : A → Bool) (before after : List A) (x : A) → p x ≡ false → list_any p (before ++ x ∷ after) ≡ list_any p (before ++ after)
any_without p [] after x fails = rw fails refl
any_without p (y ∷ ys) after x fails = ap (λ (b : Bool). p y || b) (any_without p ys after x fails)

sum_without : {A : Type 0} (f : A → ℕ) (before after : List A) (x : A) → sum_by f (before ++ x ∷ after) ≡ f x + sum_by f (before ++ after)
sum_without f [] after x = sum_by-cons f x after
sum_without f (y ∷ ys) after x = omega (arith, sum_without f ys after x, sum_by-cons f y (ys ++ x ∷ after), sum_by-cons f y (ys ++ after))

-- an entry that ends nothing leaves each fate as it is
pending_without : (before after : List Transfer) (t e : Transfer) (clock : ℕ) → is_post_or_void t.flags ≡ false → pending_amount (before ++ t ∷ after) clock e ≡ pending_amount (before ++ after) clock e
pending_without before after t e clock new =
    let none = ends_none e.id t new in
    pending_same (before ++ t ∷ after) (before ++ after) clock e (any_without (posts e.id) before after t none.0) (any_without (voids e.id) before after t none.1)

-- what the two sums of an account lose without it
pending_total : (before after : List Transfer) (t : Transfer) (clock : ℕ) (side : Side) (id : ℕ) → is_post_or_void t.flags ≡ false → pending_amount (before ++ t ∷ after) clock t ≡ t.amount → total side id (pending_amount (before ++ t ∷ after) clock) (before ++ t ∷ after) ≡ cond (eqb (account_on side t) id) t.amount 0 + total side id (pending_amount (before ++ after) clock) (before ++ after)
pending_total before after t clock side id new own =
    let whole = pending_amount (before ++ t ∷ after) clock in
    let same = sum_same (amount_on side id whole) (amount_on side id (pending_amount (before ++ after) clock)) (before ++ after) (λ e. ap (λ (x : ℕ). cond (eqb (account_on side e) id) x 0) (pending_without before after t e clock new)) in
    sum_without (amount_on side id whole) before after t ∙ ap₂ ◌+◌ (ap (λ (x : ℕ). cond (eqb (account_on side t) id) x 0) own) same

cond_nothing : (has : Bool) (amount : ℕ) → amount ≡ 0 → cond has amount 0 ≡ 0
cond_nothing true amount h = h
cond_nothing false amount h = refl

posted_total : (before after : List Transfer) (t : Transfer) (side : Side) (id : ℕ) → is_post_or_void t.flags ≡ false → is_pending t.flags ≡ true → total side id posted_amount (before ++ t ∷ after) ≡ total side id posted_amount (before ++ after)
posted_total before after t side id new pends =
    let nothing = new_posted t new ∙ cond-true (is_pending t.flags) 0 t.amount pends in
    omega (arith, sum_without (amount_on side id posted_amount) before after t, cond_nothing (eqb (account_on side t) id) (posted_amount t) nothing)

-- on the side of its own account, and of the other one
less : (rest whole amount id : ℕ) → whole ≡ cond (eqb id id) amount 0 + rest → (rest ≡ whole - amount) × (amount ≤ whole)
less rest whole amount id is =
    let own = is ∙ ap (λ (has : Bool). cond has amount 0 + rest) (eq-eqb id id refl) in
    (omega (arith, own), omega (arith, own))

kept : (has : Bool) (rest whole amount : ℕ) → has ≡ false → whole ≡ cond has amount 0 + rest → rest ≡ whole
kept has rest whole amount h is = grind arith

-- what one side loses, and what stays on both
record Loses (entries rest : List Transfer) (clock : ℕ) (t : Transfer) : Type 0 where
  pending : (side : Side) (id : ℕ) → total side id (pending_amount entries clock) entries ≡ cond (eqb (account_on side t) id) t.amount 0 + total side id (pending_amount rest clock) rest
  posted : (side : Side) (id : ℕ) → total side id posted_amount entries ≡ total side id posted_amount rest
  differ : eqb t.debit_account_id t.credit_account_id ≡ false

-- the sums of its account on its side, and on the other side
record LosesOn (entries rest : List Transfer) (clock : ℕ) (t : Transfer) (side : Side) : Type 0 where
  holds : t.amount ≤ (sums_of side entries clock (account_on side t)).pending
  own : sums_of side rest clock (account_on side t) ≡ sums_without (sums_of side entries clock (account_on side t)) t.amount
  other : sums_of (other_side side) rest clock (account_on side t) ≡ sums_of (other_side side) entries clock (account_on side t)

loses_on : (entries rest : List Transfer) (clock : ℕ) (t : Transfer) → Loses entries rest clock t → (side : Side) → LosesOn entries rest clock t side
loses_on entries rest clock t l side =
    let id = account_on side t in
    let other = other_side side in
    let own = less (sums_of side rest clock id).pending (sums_of side entries clock id).pending t.amount id (l.pending side id) in
    let stays = kept (eqb (account_on other t) id) (sums_of other rest clock id).pending (sums_of other entries clock id).pending t.amount (differ_on side t l.differ) (l.pending other id) in
    record {
      holds = own.1;
      own = λ i. record { pending = own.0 i; posted = sym (l.posted side id) i };
      other = λ i. record { pending = stays i; posted = sym (l.posted other id) i };
    }

released_by : (entries rest : List Transfer) (clock : ℕ) (t : Transfer) → ((side : Side) → LosesOn entries rest clock t side) → IsReleased entries rest clock t
released_by entries rest clock t l = record {
  holds = by_side (λ side. t.amount ≤ (sums_on side (balances_of entries clock (account_on side t))).pending) (l Debit).holds (l Credit).holds;
  balances = by_side (λ side. balances_of rest clock (account_on side t) ≡ balances_released side (balances_of entries clock (account_on side t)) t.amount)
      (λ i. record { debits = (l Debit).own i; credits = (l Debit).other i })
      (λ i. record { debits = (l Credit).other i; credits = (l Credit).own i });
}

-- an entry that is pending, open and no post or void, in any list
pub released : (before after : List Transfer) (t : Transfer) (clock : ℕ) → is_pending t.flags ≡ true → is_post_or_void t.flags ≡ false → is_open (fate_of (before ++ t ∷ after) clock t) ≡ true → eqb t.debit_account_id t.credit_account_id ≡ false → IsReleased (before ++ t ∷ after) (before ++ after) clock t
released before after t clock pends new opened differ =
    let fate = fate_of (before ++ t ∷ after) clock t in
    let own = cond-true (is_pending t.flags && is_open fate) t.amount 0 (and_from (is_pending t.flags) (is_open fate) pends opened) in
    released_by (before ++ t ∷ after) (before ++ after) clock t (loses_on (before ++ t ∷ after) (before ++ after) clock t (record {
      pending = λ side id. pending_total before after t clock side id new own;
      posted = λ side id. posted_total before after t side id new pends;
      differ = differ;
    }))

all_at : {A : Type 0} (P : A → Type 0) (before after : List A) (x : A) → All P (before ++ x ∷ after) → P x
all_at P [] after x all = All-head P x after all
all_at P (y ∷ ys) after x all = all_at P ys after x (All-tail P y (ys ++ x ∷ after) all)

not_both : (a b : Bool) → (a ≡ true → b ≡ false) → b ≡ true → a ≡ false
not_both true b h is = absurd (both_ways b (h refl) is)
not_both false b h is = refl

-- in a valid machine, where a pending entry is no post or void and has two accounts
pub released_in : (m : Machine) (before after : List Transfer) (t : Transfer) → IsSound m → m.transfers ≡ before ++ t ∷ after → is_pending t.flags ≡ true → is_open (fate_of m.transfers m.clock t) ≡ true → IsReleased m.transfers (before ++ after) m.clock t
released_in m before after t s same pends opened =
    let entry = all_at (IsEntrySound m.accounts m.transfers) before after t (subst (λ (xs : List Transfer). All (IsEntrySound m.accounts m.transfers) xs) same s.entries) in
    let new = not_both (is_post_or_void t.flags) (is_pending t.flags) entry.single pends in
    subst (λ (xs : List Transfer). IsReleased xs (before ++ after) m.clock t) (sym same) (released before after t m.clock pends new (subst (λ (xs : List Transfer). is_open (fate_of xs m.clock t) ≡ true) same opened) entry.differ)
