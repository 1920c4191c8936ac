-- A valid machine stays sound with its next transfer.
use Rattle.std.proofs.Common.{◌≡◌, ◌≤◌, ◌+◌, ℕ, Bool, true, false, eqb, cond, List, [], ◌∷◌, ◌++◌, Some, None, inl, inr, refl, sym, ◌∙◌, subst, subst₂, arith}
use Rattle.std.specs.List.{list_any, count_by}
use Rattle.std.proofs.lemmas.Bool.{cases_Bool, both_ways, eqb-true, cond-false, or_from}
use Rattle.std.proofs.lemmas.Option.{same_Some}
use mathlib.Core.Logic.{◌⊎◌}
use Rattle.std.proofs.lemmas.List.Elements.{All-push, All-weaker}
use Rattle.std.proofs.lemmas.List.Sums.{sum_by_push}
use Rattle.records.specs.declared.account.Account.{Account}
use Rattle.records.specs.declared.side.Side.{Side}
use Rattle.records.specs.declared.side.Side.TheVariants.{Debit, Credit}
use Rattle.records.specs.declared.transfer.Transfer.{Transfer}
use Rattle.records.specs.Flags.{is_post_or_void}
use Rattle.records.specs.Sides.{other_side, account_on, limits_side}
use Rattle.records.specs.Machine.{Machine, max_amount, account_with, transfer_with}
use Rattle.records.specs.Due.{is_due}
use Rattle.records.specs.Fate.{posts, voids}
use Rattle.records.specs.Valid.{IsNextTransfer, with_transfer}
use Rattle.engine.specs.Promises.{ends}
use Rattle.engine.proofs.FindByIdLemmas.{distinct_push, find_push_some, find_push_none, found_key, found_all, absent_other}
use Rattle.engine.proofs.ListSumLemmas.{count_none}
use Rattle.engine.proofs.FailedIdsLemmas.{failed_with_transfer}
use Rattle.engine.proofs.FateLemmas.{any_push_no, ends_none, ends_other}
use Rattle.engine.proofs.SideSumLemmas.{posted_in, total_in}
use Rattle.engine.proofs.EntryChanges.{Rises, adds_by_next, ends_by_next, adds_rises, ends_rises}
use Rattle.engine.proofs.NextTransferLemmas.{NextEntry, NextPostOrVoid, NextSingleOrPending, next_entry_of, next_post_or_void, next_single_or_pending}
use Rattle.engine.proofs.IsSound.{EndsPending, IsEntrySound, IsSound}

entry_with_transfer : (accounts : List Account) (transfers : List Transfer) (t e : Transfer) → IsEntrySound accounts transfers e → IsEntrySound accounts (transfers ++ t ∷ []) e
entry_with_transfer accounts transfers t e s = record {
  amount = s.amount;
  account = s.account;
  is_account = s.is_account;
  ledger = s.ledger;
  differ = s.differ;
  single = s.single;
  ended = λ h.
      let p = s.ended h in
      record { pending = p.pending; found = find_push_some (λ (x : Transfer). x.id) e.pending_id transfers t p.pending p.found; pends = p.pends; account = p.account; ledger = p.ledger; fits = p.fits; in_time = p.in_time };
}

-- how much the sums of its accounts rise with it on their sides, and that there is room
record Room (m : Machine) (t : Transfer) (more : ℕ) : Type 0 where
  rises : (side : Side) (id : ℕ) → Rises side id m t more
  fits : (side : Side) → total_in side m (account_on side t) + more ≤ max_amount
  limit : (side : Side) (a : Account) → account_with (account_on side t) m.accounts ≡ Some a → limits_side side a.flags ≡ true → total_in side m (account_on side t) + more ≤ posted_in (other_side side) m (account_on side t)

room_single_or_pending : (m : Machine) (t : Transfer) → IsSound m → IsNextTransfer m t → is_post_or_void t.flags ≡ false → Room m t t.amount
room_single_or_pending m t s next new =
    let n = next_single_or_pending m t next new in
    let none = s.unnamed t.id (next_entry_of m t next).unknown in
    record {
      rises = λ side id. adds_rises side id m t (adds_by_next side id m t new none next.timestamp.in_batch);
      fits = n.fits;
      limit = λ side a found limited. n.limit side (subst (λ (x : Account). limits_side side x.flags ≡ true) (same_Some a (n.account side) (sym found ∙ n.is_account side)) limited);
    }

room_post_or_void : (m : Machine) (t : Transfer) → IsSound m → IsNextTransfer m t → is_post_or_void t.flags ≡ true → Room m t 0
room_post_or_void m t s next ending =
    let e = next_post_or_void m t next ending in
    let single = (next_entry_of m t next).single ending in
    record {
      rises = λ side id. ends_rises side id m t e.pending (ends_by_next side id m t e s.transfers ending single) e.fits;
      fits = λ side. omega (arith, s.sums side (account_on side t));
      limit = λ side a found limited. omega (arith, s.limits side (account_on side t) a found limited);
    }

single_or_pending_entry : (m : Machine) (t : Transfer) → IsNextTransfer m t → NextEntry m t → is_post_or_void t.flags ≡ false → NextSingleOrPending m t → IsEntrySound m.accounts (m.transfers ++ t ∷ []) t
single_or_pending_entry m t next entry new n = record {
  amount = omega (arith, next.widths.amount);
  account = n.account;
  is_account = n.is_account;
  ledger = n.ledger;
  differ = n.differ;
  single = entry.single;
  ended = λ h. absurd (both_ways (is_post_or_void t.flags) new h);
}

ends_pending : (m : Machine) (t : Transfer) → IsNextTransfer m t → NextPostOrVoid m t → EndsPending (m.transfers ++ t ∷ []) t
ends_pending m t next e = record {
  pending = e.pending;
  found = find_push_some (λ (x : Transfer). x.id) t.pending_id m.transfers t e.pending e.found;
  pends = e.pends;
  account = e.account;
  ledger = e.ledger;
  fits = e.fits;
  in_time = subst (λ (at : ℕ). is_due at e.pending ≡ false) (sym next.at) e.in_time;
}

post_or_void_entry : (m : Machine) (t : Transfer) → IsNextTransfer m t → NextEntry m t → (e : NextPostOrVoid m t) → IsEntrySound m.accounts m.transfers e.pending → IsEntrySound m.accounts (m.transfers ++ t ∷ []) t
post_or_void_entry m t next entry e p = record {
  amount = omega (arith, next.widths.amount);
  account = p.account;
  is_account = λ side. subst (λ (id : ℕ). account_with id m.accounts ≡ Some (p.account side)) (sym (e.account side)) (p.is_account side);
  ledger = λ side. p.ledger side ∙ sym e.ledger;
  differ = subst₂ (λ (d : ℕ) (c : ℕ). eqb d c ≡ false) (sym (e.account Debit)) (sym (e.account Credit)) p.differ;
  single = entry.single;
  ended = λ h. ends_pending m t next e;
}

-- the pending transfer that a next entry ends is a sound entry
pub pending_is_sound : (m : Machine) (t : Transfer) → IsSound m → (e : NextPostOrVoid m t) → IsEntrySound m.accounts m.transfers e.pending
pending_is_sound m t s e = found_all (IsEntrySound m.accounts m.transfers) (λ (x : Transfer). x.id) t.pending_id m.transfers e.pending s.entries e.found

-- the next entry is sound
pub next_is_sound : (m : Machine) (t : Transfer) → IsSound m → IsNextTransfer m t → IsEntrySound m.accounts (m.transfers ++ t ∷ []) t
next_is_sound m t s next = elim (cases_Bool (is_post_or_void t.flags)) [
  | inl ending ↦ let e = next_post_or_void m t next ending in post_or_void_entry m t next (next_entry_of m t next) e (pending_is_sound m t s e)
  | inr new ↦ single_or_pending_entry m t next (next_entry_of m t next) new (next_single_or_pending m t next new)
]

-- an id that no entry has is not ended by the next one

ends_not : (m : Machine) (t : Transfer) → IsNextTransfer m t → (id : ℕ) → transfer_with id m.transfers ≡ None → (posts id t ≡ false) × (voids id t ≡ false)
ends_not m t next id none = elim (cases_Bool (is_post_or_void t.flags)) [
  | inl ending ↦ let e = next_post_or_void m t next ending in ends_other id t (absent_other (λ (x : Transfer). x.id) id t.pending_id m.transfers e.pending none e.found)
  | inr new ↦ ends_none id t new
]

unnamed_with : (m : Machine) (t : Transfer) → IsSound m → IsNextTransfer m t → (id : ℕ) → transfer_with id (m.transfers ++ t ∷ []) ≡ None → (list_any (posts id) (m.transfers ++ t ∷ []) ≡ false) × (list_any (voids id) (m.transfers ++ t ∷ []) ≡ false)
unnamed_with m t s next id none =
    let parts = find_push_none (λ (x : Transfer). x.id) id m.transfers t none in
    let old = s.unnamed id parts.0 in
    let own = ends_not m t next id parts.0 in
    (any_push_no (posts id) m.transfers t own.0 ∙ old.0, any_push_no (voids id) m.transfers t own.1 ∙ old.1)

counted : (own : Bool) → cond {A = ℕ} own 1 0 ≤ 1
counted true = omega arith
counted false = omega arith

-- where nothing has ended it, or the entry does not
once_more : (m : Machine) (t : Transfer) (id : ℕ) → count_by (ends id) m.transfers ≤ 1 → (count_by (ends id) m.transfers ≡ 0) ⊎ ((posts id t ≡ false) × (voids id t ≡ false)) → count_by (ends id) (m.transfers ++ t ∷ []) ≤ 1
once_more m t id old (inl none) = omega (arith, sum_by_push (λ (x : Transfer). cond {A = ℕ} (ends id x) 1 0) m.transfers t, counted (ends id t))
once_more m t id old (inr own) =
    let push = sum_by_push (λ (x : Transfer). cond {A = ℕ} (ends id x) 1 0) m.transfers t in
    omega (arith, push, cond-false {A = ℕ} (ends id t) 1 0 (or_from (posts id t) (voids id t) own.0 own.1))

ended_none : (m : Machine) (t : Transfer) (e : NextPostOrVoid m t) (id : ℕ) → id ≡ t.pending_id → count_by (ends id) m.transfers ≡ 0
ended_none m t e id is =
    let same = found_key (λ (x : Transfer). x.id) t.pending_id m.transfers e.pending e.found ∙ sym is in
    count_none (posts id) (voids id) m.transfers (subst (λ (i : ℕ). list_any (posts i) m.transfers ≡ false) same e.posted) (subst (λ (i : ℕ). list_any (voids i) m.transfers ≡ false) same e.voided)

once_with : (m : Machine) (t : Transfer) → IsSound m → IsNextTransfer m t → (id : ℕ) → count_by (ends id) (m.transfers ++ t ∷ []) ≤ 1
once_with m t s next id = once_more m t id (s.once id) (elim (cases_Bool (is_post_or_void t.flags)) [
  | inl ending ↦ elim (cases_Bool (eqb id t.pending_id)) [ inl is ↦ inl (ended_none m t (next_post_or_void m t next ending) id (eqb-true id t.pending_id is)) | inr other ↦ inr (ends_other id t other) ]
  | inr new ↦ inr (ends_none id t new)
])

within_step : (has : Bool) (now old more limit : ℕ) → now ≤ old + cond has more 0 → old ≤ limit → (has ≡ true → old + more ≤ limit) → now ≤ limit
within_step true now old more limit le h room = omega (arith, room refl)
within_step false now old more limit le h room = omega arith

sums_with : (m : Machine) (t : Transfer) (more : ℕ) → IsSound m → Room m t more → (side : Side) (id : ℕ) → total_in side (with_transfer m t) id ≤ max_amount
sums_with m t more s room side id =
    let own = account_on side t in
    within_step (eqb own id) (total_in side (with_transfer m t) id) (total_in side m id) more max_amount (room.rises side id).sum (s.sums side id) (λ is. subst (λ i. total_in side m i + more ≤ max_amount) (eqb-true own id is) (room.fits side))

limits_with : (m : Machine) (t : Transfer) (more : ℕ) → IsSound m → Room m t more → (side : Side) (id : ℕ) (a : Account) → account_with id m.accounts ≡ Some a → limits_side side a.flags ≡ true → total_in side (with_transfer m t) id ≤ posted_in (other_side side) (with_transfer m t) id
limits_with m t more s room side id a found limited =
    let own = account_on side t in
    let other = other_side side in
    let room_for = λ (is : eqb own id ≡ true). let same = eqb-true own id is in subst (λ i. total_in side m i + more ≤ posted_in other m i) same (room.limit side a (subst (λ i. account_with i m.accounts ≡ Some a) (sym same) found) limited) in
    omega (arith, within_step (eqb own id) (total_in side (with_transfer m t) id) (total_in side m id) more (posted_in other m id) (room.rises side id).sum (s.limits side id a found limited) room_for, (room.rises other id).posted)

sound_with_room : (m : Machine) (t : Transfer) (more : ℕ) → IsSound m → IsNextTransfer m t → Room m t more → IsSound (with_transfer m t)
sound_with_room m t more s next room = record {
  accounts = s.accounts;
  transfers = distinct_push (λ (x : Transfer). x.id) m.transfers t s.transfers (next_entry_of m t next).unknown;
  entries = All-push (IsEntrySound m.accounts (m.transfers ++ t ∷ [])) m.transfers t (All-weaker (IsEntrySound m.accounts m.transfers) (IsEntrySound m.accounts (m.transfers ++ t ∷ [])) (λ e h. entry_with_transfer m.accounts m.transfers t e h) m.transfers s.entries) (next_is_sound m t s next);
  unnamed = unnamed_with m t s next;
  once = once_with m t s next;
  sums = sums_with m t more s room;
  limits = limits_with m t more s room;
  ascending = s.ascending;
  failed = failed_with_transfer m.transfers t m.failed (next_entry_of m t next).not_failed s.failed;
}

pub sound_transfer : (m : Machine) (t : Transfer) → IsSound m → IsNextTransfer m t → IsSound (with_transfer m t)
sound_transfer m t s next = elim (cases_Bool (is_post_or_void t.flags)) [ inl ending ↦ sound_with_room m t 0 s next (room_post_or_void m t s next ending) | inr new ↦ sound_with_room m t t.amount s next (room_single_or_pending m t s next new) ]
