-- The balances of the accounts of a next entry, with that entry.
use Rattle.std.proofs.Common.{◌≡◌, ◌≤◌, ◌+◌, ◌-◌, min, ℕ, Bool, true, false, eqb, cond, Option, Some, None, inl, inr, refl, sym, ap, ◌∙◌, arith}
use Rattle.std.proofs.lemmas.Bool.{cases_Bool, eq-eqb, cond-true}
use Rattle.std.specs.Option.{option_map}
use Rattle.records.specs.declared.balances.Sums.{Sums}
use Rattle.records.specs.declared.side.Side.{Side}
use Rattle.records.specs.declared.side.Side.TheVariants.{Debit, Credit}
use Rattle.records.specs.declared.transfer.Transfer.{Transfer}
use Rattle.records.specs.declared.facts.PendingTransfer.{PendingTransfer}
use Rattle.records.specs.Flags.{is_pending, is_post, is_post_or_void}
use Rattle.records.specs.Sides.{other_side, account_on}
use Rattle.records.specs.Machine.{Machine, max_amount}
use Rattle.records.specs.Facts.{facts_of, with_state}
use Rattle.records.specs.Balances.{sums_of, balances_in}
use Rattle.records.specs.Valid.{IsNextTransfer, event_of_transfer, with_transfer}
use Rattle.engine.specs.After.{sums_after, sums_after_single_or_pending, sums_after_post_or_void, balances_after}
use Rattle.engine.proofs.SideLemmas.{differ_on}
use Rattle.engine.proofs.FactsLemmas.{pending_of, no_pending_of}
use Rattle.engine.proofs.NextTransferLemmas.{NextPostOrVoid, next_entry_of, next_post_or_void, next_single_or_pending}
use Rattle.engine.proofs.EntryChanges.{Adds, Ends, pending_with, adds_by_next, ends_by_next}
use Rattle.engine.proofs.IsSound.{IsSound}
use Rattle.engine.proofs.SoundWithTransfer.{next_is_sound}

-- what is added to one of two sums does not come to the cap
pending_added : (has pending : Bool) (now old amount limit : ℕ) → has ≡ true → now ≡ old + cond has (cond pending amount 0) 0 → old + amount ≤ limit → now ≡ cond pending (min (old + amount) limit) old
pending_added has pending now old amount limit h is fits = grind arith

posted_added : (has pending : Bool) (now old amount limit : ℕ) → has ≡ true → now ≡ old + cond has (cond pending 0 amount) 0 → old + amount ≤ limit → now ≡ cond pending old (min (old + amount) limit)
posted_added has pending now old amount limit h is fits = grind arith

other_kept : (has : Bool) (now old amount : ℕ) → has ≡ false → now ≡ old + cond has amount 0 → now ≡ old
other_kept has now old amount h is = grind arith

released : (has : Bool) (now old amount : ℕ) → has ≡ true → now + cond has amount 0 ≡ old → now ≡ old - amount
released has now old amount h is = grind arith

other_held : (has : Bool) (now old amount : ℕ) → has ≡ false → now + cond has amount 0 ≡ old → now ≡ old
other_held has now old amount h is = grind arith

post_added : (has post : Bool) (now old amount limit : ℕ) → has ≡ true → now ≡ old + cond has (cond post amount 0) 0 → old + amount ≤ limit → now ≡ cond post (min (old + amount) limit) old
post_added has post now old amount limit h is fits = grind arith

room_for_post : (has : Bool) (now old posted whole amount limit : ℕ) → has ≡ true → now + cond has whole 0 ≡ old → amount ≤ whole → old + posted ≤ limit → posted + amount ≤ limit
room_for_post has now old posted whole amount limit h is le fits = grind arith

-- the sums of a side with one entry more
abbrev pub sums_with : Side → ℕ → Machine → Transfer → Sums
sums_with side id m t = sums_of side (with_transfer m t).transfers m.clock id

abbrev pub sums_now : Side → ℕ → Machine → Sums
sums_now side id m = sums_of side m.transfers m.clock id

-- an account's balances stay, where the entry does not have it
abbrev IsElsewhere : Side → ℕ → Transfer → Type 0
IsElsewhere side id t = eqb (account_on side t) id ≡ false

adds_elsewhere : (side : Side) (id : ℕ) (m : Machine) (t : Transfer) → Adds side id m t → IsElsewhere side id t → sums_with side id m t ≡ sums_now side id m
adds_elsewhere side id m t a away =
    let old = sums_now side id m in
    λ i. record { pending = other_kept (eqb (account_on side t) id) _ old.pending (cond (is_pending t.flags) t.amount 0) away a.pending i; posted = other_kept (eqb (account_on side t) id) _ old.posted (cond (is_pending t.flags) 0 t.amount) away a.posted i }

ends_elsewhere : (side : Side) (id : ℕ) (m : Machine) (t p : Transfer) → Ends side id m t p → IsElsewhere side id t → sums_with side id m t ≡ sums_now side id m
ends_elsewhere side id m t p e away =
    let old = sums_now side id m in
    λ i. record { pending = other_held (eqb (account_on side t) id) _ old.pending p.amount away e.pending i; posted = other_kept (eqb (account_on side t) id) _ old.posted (cond (is_post t.flags) t.amount 0) away e.posted i }

-- a next entry adds, or ends
adds_of : (side : Side) (id : ℕ) (m : Machine) (t : Transfer) → IsSound m → IsNextTransfer m t → is_post_or_void t.flags ≡ false → Adds side id m t
adds_of side id m t s next new = adds_by_next side id m t new (s.unnamed t.id (next_entry_of m t next).unknown) next.timestamp.in_batch

ends_of : (side : Side) (id : ℕ) (m : Machine) (t : Transfer) → IsSound m → IsNextTransfer m t → is_post_or_void t.flags ≡ true → (e : NextPostOrVoid m t) → Ends side id m t e.pending
ends_of side id m t s next ending e = ends_by_next side id m t e s.transfers ending ((next_entry_of m t next).single ending)

-- the sums of an account that the entry does not have on this side stay
pub sums_elsewhere : (side : Side) (id : ℕ) (m : Machine) (t : Transfer) → IsSound m → IsNextTransfer m t → eqb (account_on side t) id ≡ false → sums_with side id m t ≡ sums_now side id m
sums_elsewhere side id m t s next away = elim (cases_Bool (is_post_or_void t.flags)) [
  | inl ending ↦ let e = next_post_or_void m t next ending in ends_elsewhere side id m t e.pending (ends_of side id m t s next ending e) away
  | inr new ↦ adds_elsewhere side id m t (adds_of side id m t s next new) away
]

-- the sums of its own account on a side
sums_single_or_pending : (side : Side) (m : Machine) (t : Transfer) → IsSound m → IsNextTransfer m t → is_post_or_void t.flags ≡ false → sums_with side (account_on side t) m t ≡ sums_after_single_or_pending (sums_now side (account_on side t) m) t
sums_single_or_pending side m t s next new =
    let id = account_on side t in
    let old = sums_now side id m in
    let own = adds_of side id m t s next new in
    let fits = (next_single_or_pending m t next new).fits side in
    let same = eq-eqb id id refl in
    let pending = pending_added (eqb id id) (is_pending t.flags) _ old.pending t.amount max_amount same own.pending (omega (arith, fits)) in
    let posted = posted_added (eqb id id) (is_pending t.flags) _ old.posted t.amount max_amount same own.posted (omega (arith, fits)) in
    λ i. record { pending = pending i; posted = posted i }

sums_post_or_void : (side : Side) (m : Machine) (t : Transfer) → IsSound m → IsNextTransfer m t → is_post_or_void t.flags ≡ true → (e : NextPostOrVoid m t) → sums_with side (account_on side t) m t ≡ sums_after_post_or_void (sums_now side (account_on side t) m) e.pending.amount t
sums_post_or_void side m t s next ending e =
    let id = account_on side t in
    let old = sums_now side id m in
    let own = ends_of side id m t s next ending e in
    let same = eq-eqb id id refl in
    let room = room_for_post (eqb id id) (pending_with side id m t) old.pending old.posted e.pending.amount t.amount max_amount same own.pending e.fits (s.sums side id) in
    let pending = released (eqb id id) _ old.pending e.pending.amount same own.pending in
    let posted = post_added (eqb id id) (is_post t.flags) _ old.posted t.amount max_amount same own.posted room in
    λ i. record { pending = pending i; posted = posted i }

-- by what the facts of its own event have
after_pending : (sums : Sums) (found : Option PendingTransfer) (p : PendingTransfer) (t : Transfer) → is_post_or_void t.flags ≡ true → found ≡ Some p → sums_after sums found t ≡ sums_after_post_or_void sums p.transfer.amount t
after_pending sums found p t ending is = rw is (cond-true (is_post_or_void t.flags) (sums_after_post_or_void sums p.transfer.amount t) (sums_after_single_or_pending sums t) ending)

after_none : (sums : Sums) (found : Option PendingTransfer) (t : Transfer) → found ≡ None → sums_after sums found t ≡ sums_after_single_or_pending sums t
after_none sums found t is = rw is refl

sums_own : (side : Side) (m : Machine) (t : Transfer) → IsSound m → IsNextTransfer m t → sums_with side (account_on side t) m t ≡ sums_after (sums_now side (account_on side t) m) (facts_of m (event_of_transfer t)).pending t
sums_own side m t s next =
    let old = sums_now side (account_on side t) m in
    let ev = event_of_transfer t in
    let found = (facts_of m ev).pending in
    elim (cases_Bool (is_post_or_void t.flags)) [
      | inl ending ↦ let e = next_post_or_void m t next ending in sums_post_or_void side m t s next ending e ∙ sym (after_pending old found (with_state m e.pending) t ending (pending_of m ev ending ∙ ap (option_map (with_state m)) e.found))
      | inr new ↦ sums_single_or_pending side m t s next new ∙ sym (after_none old found t (no_pending_of m ev new))
    ]

-- the balances of its account on a side
sums_other : (side : Side) (m : Machine) (t : Transfer) → IsSound m → IsNextTransfer m t → sums_with (other_side side) (account_on side t) m t ≡ sums_now (other_side side) (account_on side t) m
sums_other side m t s next = sums_elsewhere (other_side side) (account_on side t) m t s next (differ_on side t (next_is_sound m t s next).differ)

pub balances_with : (side : Side) (m : Machine) (t : Transfer) → IsSound m → IsNextTransfer m t → balances_in (with_transfer m t) (account_on side t) ≡ balances_after side (balances_in m (account_on side t)) (facts_of m (event_of_transfer t)).pending t
balances_with Debit m t s next = λ i. record { debits = sums_own Debit m t s next i; credits = sums_other Debit m t s next i }
balances_with Credit m t s next = λ i. record { debits = sums_other Credit m t s next i; credits = sums_own Credit m t s next i }

-- and those of an account that it has on neither side
pub balances_elsewhere : (m : Machine) (t : Transfer) (id : ℕ) → IsSound m → IsNextTransfer m t → ((side : Side) → eqb (account_on side t) id ≡ false) → balances_in (with_transfer m t) id ≡ balances_in m id
balances_elsewhere m t id s next away = λ i. record { debits = sums_elsewhere Debit id m t s next (away Debit) i; credits = sums_elsewhere Credit id m t s next (away Credit) i }
