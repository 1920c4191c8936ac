-- What the next entry of a machine changes in the sums of any account, on either side.
use Rattle.std.proofs.Common.{◌≡◌, ◌≤◌, ◌<◌, ◌+◌, ℕ, Bool, true, false, eqb, cond, [], ◌∷◌, ◌++◌, ap, ◌∙◌, arith}
use Rattle.std.specs.List.{list_any}
use Rattle.std.proofs.lemmas.Bool.{cond-true}
use Rattle.records.specs.declared.side.Side.{Side}
use Rattle.records.specs.declared.transfer.Transfer.{Transfer}
use Rattle.records.specs.Flags.{is_pending, is_post, is_post_or_void}
use Rattle.records.specs.Machine.{Machine}
use Rattle.records.specs.Fate.{posts, voids}
use Rattle.records.specs.Sides.{account_on}
use Rattle.records.specs.Balances.{pending_amount, posted_amount}
use Rattle.engine.proofs.FindByIdLemmas.{AreDistinct}
use Rattle.engine.proofs.FateLemmas.{not_due, pending_open}
use Rattle.engine.proofs.SideSumLemmas.{total, pending_in, posted_in, new_pending, ended_pending, posted_push, new_posted, ended_posted}
use Rattle.engine.proofs.NextTransferLemmas.{NextPostOrVoid}

-- the sums of an account on a side with one entry more
abbrev pub pending_with : Side → ℕ → Machine → Transfer → ℕ
pending_with side id m t = total side id (pending_amount (m.transfers ++ t ∷ []) m.clock) (m.transfers ++ t ∷ [])

abbrev pub posted_with : Side → ℕ → Machine → Transfer → ℕ
posted_with side id m t = total side id posted_amount (m.transfers ++ t ∷ [])

-- an entry that ends nothing adds its amount to one of the two sums
pub record Adds (side : Side) (id : ℕ) (m : Machine) (t : Transfer) : Type 0 where
  pub pending : pending_with side id m t ≡ pending_in side m id + cond (eqb (account_on side t) id) (cond (is_pending t.flags) t.amount 0) 0
  pub posted : posted_with side id m t ≡ posted_in side m id + cond (eqb (account_on side t) id) (cond (is_pending t.flags) 0 t.amount) 0

-- an entry that ends p takes p's amount back, and a post adds its own
pub record Ends (side : Side) (id : ℕ) (m : Machine) (t p : Transfer) : Type 0 where
  pub pending : pending_with side id m t + cond (eqb (account_on side t) id) p.amount 0 ≡ pending_in side m id
  pub posted : posted_with side id m t ≡ posted_in side m id + cond (eqb (account_on side t) id) (cond (is_post t.flags) t.amount 0) 0

-- a next entry adds, or ends
pub adds_by_next : (side : Side) (id : ℕ) (m : Machine) (t : Transfer) → is_post_or_void t.flags ≡ false → (list_any (posts t.id) m.transfers ≡ false) × (list_any (voids t.id) m.transfers ≡ false) → m.clock < t.timestamp + 1000 → Adds side id m t
adds_by_next side id m t new none time = record {
  pending = new_pending m.transfers t m.clock side id (cond (is_pending t.flags) t.amount 0) new (pending_open m.transfers m.clock t none (not_due m.clock t time));
  posted = posted_push m.transfers t side id (cond (is_pending t.flags) 0 t.amount) (new_posted t new);
}

pub ends_by_next : (side : Side) (id : ℕ) (m : Machine) (t : Transfer) (e : NextPostOrVoid m t) → AreDistinct (λ (x : Transfer). x.id) m.transfers → is_post_or_void t.flags ≡ true → is_pending t.flags ≡ false → Ends side id m t e.pending
ends_by_next side id m t e distinct ending single =
    let p = e.pending in
    let own = pending_open m.transfers m.clock p (e.posted, e.voided) e.in_time ∙ cond-true (is_pending p.flags) p.amount 0 e.pends in
    record {
      pending = ap (λ (x : ℕ). pending_with side id m t + cond (eqb x id) p.amount 0) (e.account side) ∙ ended_pending m.transfers t p m.clock side id p.amount distinct e.found ending single own;
      posted = posted_push m.transfers t side id (cond (is_post t.flags) t.amount 0) (ended_posted t ending);
    }

-- how far both sums together rise, and that posted sums only rise
pub record Rises (side : Side) (id : ℕ) (m : Machine) (t : Transfer) (more : ℕ) : Type 0 where
  pub sum : pending_with side id m t + posted_with side id m t ≤ pending_in side m id + posted_in side m id + cond (eqb (account_on side t) id) more 0
  pub posted : posted_in side m id ≤ posted_with side id m t

added_part : (has pending : Bool) (amount : ℕ) → cond has (cond pending amount 0) 0 + cond has (cond pending 0 amount) 0 ≡ cond has amount 0
added_part has pending amount = grind arith

ended_part : (has post : Bool) (amount whole : ℕ) → amount ≤ whole → cond has (cond post amount 0) 0 ≤ cond has whole 0
ended_part has post amount whole h = grind arith

-- both kinds
pub adds_rises : (side : Side) (id : ℕ) (m : Machine) (t : Transfer) → Adds side id m t → Rises side id m t t.amount
adds_rises side id m t a = record {
  sum = omega (arith, a.pending, a.posted, added_part (eqb (account_on side t) id) (is_pending t.flags) t.amount);
  posted = omega (arith, a.posted);
}

pub ends_rises : (side : Side) (id : ℕ) (m : Machine) (t p : Transfer) → Ends side id m t p → t.amount ≤ p.amount → Rises side id m t 0
ends_rises side id m t p e fits = record {
  sum = omega (arith, e.pending, e.posted, ended_part (eqb (account_on side t) id) (is_post t.flags) t.amount p.amount fits);
  posted = omega (arith, e.posted);
}
