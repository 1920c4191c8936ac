-- What one more entry, or a later clock, does to the fate of a pending transfer.
use Rattle.std.proofs.Common.{◌≡◌, ◌≤◌, ◌<◌, ◌+◌, ◌*◌, ◌^◌, ℕ, Bool, true, false, ◌&&◌, ◌||◌, eqb, ltb, cond, List, [], ◌∷◌, ◌++◌, Option, Some, None, refl, ap₂, arith}
use Rattle.std.specs.List.{list_any}
use Rattle.std.proofs.lemmas.Bool.Decides.{nat_tests}
use Rattle.std.proofs.lemmas.Bool.{or_parts, and_left, and_right, eq-eqb}
use Rattle.records.specs.declared.transfer.Transfer.{Transfer}
use Rattle.records.specs.declared.facts.PendingState.{PendingState}
use Rattle.records.specs.declared.facts.PendingState.TheVariants.{Open, Posted, Voided, Expired}
use Rattle.records.specs.Flags.{is_pending, is_post, is_void, is_post_or_void}
use Rattle.records.specs.Due.{due_of, has_come, is_due}
use Rattle.records.specs.Fate.{posts, voids, is_open}
use Rattle.records.specs.Balances.{pending_amount}
use Rattle.engine.proofs.FindByIdLemmas.{other_way}
use Rattle.engine.proofs.ListSumLemmas.{any_push}

-- a fate by whether the transfer is posted, voided and due
abbrev pub fate_by : Bool → Bool → Bool → PendingState
fate_by posted voided due = cond posted Posted (cond voided Voided (cond due Expired Open))

-- an ended transfer counts nothing
closed : (pending posted voided due : Bool) (amount : ℕ) → (posted || voided) ≡ true → cond (pending && is_open (fate_by posted voided due)) amount 0 ≡ 0
closed pending posted voided due amount h = grind arith

-- what a transfer that nothing has ended counts
whole : (posted voided due pending : Bool) (amount : ℕ) → posted ≡ false → voided ≡ false → due ≡ false → cond (pending && is_open (fate_by posted voided due)) amount 0 ≡ cond pending amount 0
whole posted voided due pending amount p v d = grind arith

falls : (posted voided due after : Bool) (amount : ℕ) (pending : Bool) → (due ≡ true → after ≡ true) → cond (pending && is_open (fate_by posted voided after)) amount 0 ≤ cond (pending && is_open (fate_by posted voided due)) amount 0
falls posted voided due after amount pending h = grind arith

-- lists in which the same is ended
pub pending_same : (xs ys : List Transfer) (clock : ℕ) (e : Transfer) → list_any (posts e.id) xs ≡ list_any (posts e.id) ys → list_any (voids e.id) xs ≡ list_any (voids e.id) ys → pending_amount xs clock e ≡ pending_amount ys clock e
pending_same xs ys clock e p v = ap₂ (λ (a : Bool) (b : Bool). cond (is_pending e.flags && is_open (fate_by a b (is_due clock e))) e.amount 0) p v

-- a test that the new element fails is answered as before
pub any_push_no : {A : Type 0} (p : A → Bool) (xs : List A) (y : A) → p y ≡ false → list_any p (xs ++ y ∷ []) ≡ list_any p xs
any_push_no p xs y h = grind (arith, any_push p xs y)

-- an entry that is neither post nor void, or one that names another, ends nothing
pub ends_none : (id : ℕ) (t : Transfer) → is_post_or_void t.flags ≡ false → (posts id t ≡ false) × (voids id t ≡ false)
ends_none id t h =
    let parts = or_parts (is_post t.flags) (is_void t.flags) h in
    (and_left (is_post t.flags) (eqb t.pending_id id) parts.0, and_left (is_void t.flags) (eqb t.pending_id id) parts.1)

-- nor does one that names another
pub ends_other : (id : ℕ) (t : Transfer) → eqb id t.pending_id ≡ false → (posts id t ≡ false) × (voids id t ≡ false)
ends_other id t h =
    let other = other_way id t.pending_id h in
    (and_right (is_post t.flags) (eqb t.pending_id id) other, and_right (is_void t.flags) (eqb t.pending_id id) other)

-- what it does not end counts as before
pub pending_kept : (entries : List Transfer) (t : Transfer) (clock : ℕ) (e : Transfer) → (posts e.id t ≡ false) × (voids e.id t ≡ false) → pending_amount (entries ++ t ∷ []) clock e ≡ pending_amount entries clock e
pending_kept entries t clock e h = pending_same (entries ++ t ∷ []) entries clock e (any_push_no (posts e.id) entries t h.0) (any_push_no (voids e.id) entries t h.1)

ends_some : (before_post before_void post void same : Bool) → (post || void) ≡ true → same ≡ true → ((before_post || post && same) || (before_void || void && same)) ≡ true
ends_some before_post before_void post void same h s = grind arith

-- the entry that it names is not open with it
pub pending_ended : (entries : List Transfer) (t : Transfer) (clock : ℕ) (e : Transfer) → is_post_or_void t.flags ≡ true → t.pending_id ≡ e.id → pending_amount (entries ++ t ∷ []) clock e ≡ 0
pending_ended entries t clock e h same =
    closed (is_pending e.flags) (list_any (posts e.id) (entries ++ t ∷ [])) (list_any (voids e.id) (entries ++ t ∷ [])) (is_due clock e) e.amount
    (rw (any_push (posts e.id) entries t, any_push (voids e.id) entries t) (ends_some (list_any (posts e.id) entries) (list_any (voids e.id) entries) (is_post t.flags) (is_void t.flags) (eqb t.pending_id e.id) h (eq-eqb t.pending_id e.id same)))

-- a due time that has come stays past
pub come_later : (due : Option ℕ) (clock after : ℕ) → clock ≤ after → has_come due clock ≡ true → has_come due after ≡ true
come_later None clock after le h = h
come_later (Some due) clock after le h = grind (arith, nat_tests)

-- a pending amount only falls
pub pending_falls : (entries : List Transfer) (clock after : ℕ) (e : Transfer) → clock ≤ after → pending_amount entries after e ≤ pending_amount entries clock e
pending_falls entries clock after e le = falls (list_any (posts e.id) entries) (list_any (voids e.id) entries) (is_due clock e) (is_due after e) e.amount (is_pending e.flags) (come_later (due_of e) clock after le)

-- a due time a second and more ahead has not come
not_come : (with_timeout : Bool) (timestamp timeout clock : ℕ) → (with_timeout ≡ true → 0 < timeout) → clock < timestamp + 1000 → has_come (cond with_timeout (Some (timestamp + timeout * 10 ^ 9)) None) clock ≡ false
not_come true timestamp timeout clock some h = let some : 0 < timeout = some refl in grind (arith, nat_tests)
not_come false timestamp timeout clock some h = refl

timeout_some : (pending : Bool) (timeout : ℕ) → (pending && ltb 0 timeout) ≡ true → 0 < timeout
timeout_some pending timeout h = grind (arith, nat_tests)

-- a timeout of a second is longer than any batch
pub not_due : (clock : ℕ) (t : Transfer) → clock < t.timestamp + 1000 → is_due clock t ≡ false
not_due clock t h = not_come (is_pending t.flags && ltb 0 t.timeout) t.timestamp t.timeout clock (timeout_some (is_pending t.flags) t.timeout) h

-- what nothing has ended, and is not due, counts
pub pending_open : (entries : List Transfer) (clock : ℕ) (e : Transfer) → (list_any (posts e.id) entries ≡ false) × (list_any (voids e.id) entries ≡ false) → is_due clock e ≡ false → pending_amount entries clock e ≡ cond (is_pending e.flags) e.amount 0
pending_open entries clock e none due = whole (list_any (posts e.id) entries) (list_any (voids e.id) entries) (is_due clock e) (is_pending e.flags) e.amount none.0 none.1 due
