-- A pending transfer is ended at most once, in time.
use Rattle.std.proofs.Common.{◌≡◌, ◌<◌, ℕ, Bool, true, false, ◌&&◌, ◌||◌, eqb, Some, sym, ◌∙◌, subst, arith}
use Rattle.std.specs.List.{All}
use Rattle.std.proofs.lemmas.Bool.{leb-false, eqb-true}
use Rattle.std.proofs.lemmas.List.Elements.{All-weaker}
use Rattle.std.proofs.lemmas.Option.{same_Some}
use Rattle.records.specs.declared.transfer.Transfer.{Transfer}
use Rattle.records.specs.Flags.{is_pending, is_post, is_void}
use Rattle.records.specs.Machine.{Machine, transfer_with}
use Rattle.records.specs.Due.{due_of, has_come, is_due}
use Rattle.engine.specs.Promises.{ends, EndsInTime, EndsOnce}
use Rattle.engine.proofs.FindByIdLemmas.{found_itself}
use Rattle.engine.proofs.IsSound.{IsSound, IsEntrySound}

-- an entry that ends another is a post or void of its id
ends_parts : (post void same : Bool) → ((post && same) || (void && same)) ≡ true → ((post || void) ≡ true) × (same ≡ true)
ends_parts post void same h = grind arith

-- not due is before the due time
in_time : (pending : Transfer) (at : ℕ) → is_due at pending ≡ false → (due : ℕ) → due_of pending ≡ Some due → at < due
in_time pending at h due is = leb-false due at (subst (λ d. has_come d at ≡ false) is h)

-- an entry that ends p does so in time
ends_in_time : (m : Machine) (p e : Transfer) → transfer_with p.id m.transfers ≡ Some p → IsEntrySound m.accounts m.transfers e → ends p.id e ≡ true → EndsInTime p e
ends_in_time m p e found h is =
    let parts = ends_parts (is_post e.flags) (is_void e.flags) (eqb e.pending_id p.id) is in
    let q = h.ended parts.0 in
    let same = same_Some q.pending p (sym q.found ∙ subst (λ (id : ℕ). transfer_with id m.transfers ≡ Some p) (sym (eqb-true e.pending_id p.id parts.1)) found) in
    subst (λ (x : Transfer). EndsInTime x e) same (record { before_due = in_time q.pending e.at q.in_time; within = q.fits })

-- every pending entry is ended at most once, in time
pub each_ends_once : (m : Machine) → IsSound m → All (λ pending. is_pending pending.flags ≡ true → EndsOnce m.transfers pending) m.transfers
each_ends_once m s = All-weaker (λ p. transfer_with p.id m.transfers ≡ Some p) (λ p. is_pending p.flags ≡ true → EndsOnce m.transfers p) (λ p found pends. record {
  once = s.once p.id;
  in_time = All-weaker (IsEntrySound m.accounts m.transfers) (λ e. ends p.id e ≡ true → EndsInTime p e) (λ e h is. ends_in_time m p e found h is) m.transfers s.entries;
}) m.transfers (found_itself (λ (t : Transfer). t.id) m.transfers s.transfers)
