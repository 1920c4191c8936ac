-- What one more entry, or a later clock, does to a sum of one account on one side.
use Rattle.std.proofs.Common.{◌≡◌, ◌≤◌, ◌+◌, ℕ, Bool, true, false, not, ◌&&◌, ◌||◌, eqb, cond, List, [], ◌∷◌, ◌++◌, Some, refl, sym, ap, ap₂, ◌∙◌, arith}
use Rattle.std.specs.List.{sum_by}
use Rattle.std.proofs.lemmas.List.Sums.{sum_by_push}
use Rattle.records.specs.declared.side.Side.{Side}
use Rattle.records.specs.declared.transfer.Transfer.{Transfer}
use Rattle.records.specs.Flags.{is_pending, is_post, is_void, is_post_or_void}
use Rattle.records.specs.Sides.{account_on}
use Rattle.records.specs.Balances.{amount_on, sums_of, total_of, pending_amount, posted_amount}
use Rattle.records.specs.Machine.{Machine, transfer_with}
use Rattle.engine.proofs.FindByIdLemmas.{AreDistinct, found_key}
use Rattle.engine.proofs.ListSumLemmas.{sum_same, sum_least, one_changed}
use Rattle.engine.proofs.FateLemmas.{ends_none, ends_other, pending_kept, pending_ended, pending_falls}

-- the amounts of the entries that have an account on this side
abbrev pub total : Side → ℕ → (Transfer → ℕ) → List Transfer → ℕ
total side id amount_of entries = sum_by (amount_on side id amount_of) entries

-- an account's sums on a side in a machine, and what they come to together
abbrev pub pending_in : Side → Machine → ℕ → ℕ
pending_in side m id = (sums_of side m.transfers m.clock id).pending

abbrev pub posted_in : Side → Machine → ℕ → ℕ
posted_in side m id = (sums_of side m.transfers m.clock id).posted

abbrev pub total_in : Side → Machine → ℕ → ℕ
total_in side m id = total_of (sums_of side m.transfers m.clock id)

-- a pending sum of one entry more that ends nothing
pub new_pending : (entries : List Transfer) (t : Transfer) (clock : ℕ) (side : Side) (id amount : ℕ) → is_post_or_void t.flags ≡ false → pending_amount entries clock t ≡ amount → total side id (pending_amount (entries ++ t ∷ []) clock) (entries ++ t ∷ []) ≡ total side id (pending_amount entries clock) entries + cond (eqb (account_on side t) id) amount 0
new_pending entries t clock side id amount new own =
    let kept = λ (e : Transfer). pending_kept entries t clock e (ends_none e.id t new) in
    let old = sum_same (amount_on side id (pending_amount (entries ++ t ∷ []) clock)) (amount_on side id (pending_amount entries clock)) entries (λ e. ap (λ (x : ℕ). cond (eqb (account_on side e) id) x 0) (kept e)) in
    let last = ap (λ (x : ℕ). cond (eqb (account_on side t) id) x 0) (kept t ∙ own) in
    sum_by_push (amount_on side id (pending_amount (entries ++ t ∷ []) clock)) entries t ∙ ap₂ ◌+◌ old last

nothing : (has : Bool) → cond {A = ℕ} has 0 0 ≡ 0
nothing true = refl
nothing false = refl

not_pending : (entries : List Transfer) (t : Transfer) (clock : ℕ) → is_pending t.flags ≡ false → pending_amount (entries ++ t ∷ []) clock t ≡ 0
not_pending entries t clock single = rw single refl

-- a pending sum of one entry more that ends p
pub ended_pending : (entries : List Transfer) (t p : Transfer) (clock : ℕ) (side : Side) (id amount : ℕ) → AreDistinct (λ (e : Transfer). e.id) entries → transfer_with t.pending_id entries ≡ Some p → is_post_or_void t.flags ≡ true → is_pending t.flags ≡ false → pending_amount entries clock p ≡ amount → total side id (pending_amount (entries ++ t ∷ []) clock) (entries ++ t ∷ []) + cond (eqb (account_on side p) id) amount 0 ≡ total side id (pending_amount entries clock) entries
ended_pending entries t p clock side id amount distinct found ends single own =
    let after = pending_amount (entries ++ t ∷ []) clock in
    let before = pending_amount entries clock in
    let at = λ (e : Transfer) (x : ℕ). cond (eqb (account_on side e) id) x 0 in
    let changed = one_changed (λ (e : Transfer). e.id) t.pending_id (amount_on side id after) (amount_on side id before) entries p (λ e other. ap (at e) (pending_kept entries t clock e (ends_other e.id t other))) distinct found in
    let gone = ap (at p) (pending_ended entries t clock p ends (sym (found_key (λ (e : Transfer). e.id) t.pending_id entries p found))) ∙ nothing (eqb (account_on side p) id) in
    let last = ap (at t) (not_pending entries t clock single) ∙ nothing (eqb (account_on side t) id) in
    omega (arith, changed, gone, last, ap (at p) own, sum_by_push (amount_on side id after) entries t)

-- a posted sum of one entry more
pub posted_push : (entries : List Transfer) (t : Transfer) (side : Side) (id amount : ℕ) → posted_amount t ≡ amount → total side id posted_amount (entries ++ t ∷ []) ≡ total side id posted_amount entries + cond (eqb (account_on side t) id) amount 0
posted_push entries t side id amount own = sum_by_push (amount_on side id posted_amount) entries t ∙ ap (λ (x : ℕ). total side id posted_amount entries + cond (eqb (account_on side t) id) x 0) own

kept_least : (has : Bool) (a b : ℕ) → a ≤ b → cond has a 0 ≤ cond has b 0
kept_least true a b h = h
kept_least false a b h = omega arith

-- a later clock only lowers a pending sum
pub pending_total_falls : (entries : List Transfer) (clock after : ℕ) (side : Side) (id : ℕ) → clock ≤ after → total side id (pending_amount entries after) entries ≤ total side id (pending_amount entries clock) entries
pending_total_falls entries clock after side id le = sum_least (amount_on side id (pending_amount entries after)) (amount_on side id (pending_amount entries clock)) entries (λ e. kept_least (eqb (account_on side e) id) (pending_amount entries after e) (pending_amount entries clock e) (pending_falls entries clock after e le))

posted_by : (pending post void : Bool) (amount : ℕ) → (post || void) ≡ false → cond ((not pending && not (post || void)) || post) amount 0 ≡ cond pending 0 amount
posted_by pending post void amount h = grind arith

ended_by : (pending post void : Bool) (amount : ℕ) → (post || void) ≡ true → cond ((not pending && not (post || void)) || post) amount 0 ≡ cond post amount 0
ended_by pending post void amount h = grind arith

-- what an entry that ends nothing posts
pub new_posted : (t : Transfer) → is_post_or_void t.flags ≡ false → posted_amount t ≡ cond (is_pending t.flags) 0 t.amount
new_posted t h = posted_by (is_pending t.flags) (is_post t.flags) (is_void t.flags) t.amount h

-- what a post or void posts
pub ended_posted : (t : Transfer) → is_post_or_void t.flags ≡ true → posted_amount t ≡ cond (is_post t.flags) t.amount 0
ended_posted t h = ended_by (is_pending t.flags) (is_post t.flags) (is_void t.flags) t.amount h
