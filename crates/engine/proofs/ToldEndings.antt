-- What is told of an accepted post or void is what becomes of its pending transfer.
use Rattle.std.proofs.Common.{◌≡◌, ℕ, Bool, true, false, ◌&&◌, ◌||◌, eqb, cond, is_some, get_or, [], ◌∷◌, ◌++◌, Option, Some, None, inl, inr, refl, sym, ap, ◌∙◌, subst, arith}
use Rattle.std.specs.List.{list_any}
use Rattle.std.proofs.lemmas.Bool.{cases_Bool, eq-eqb}
use Rattle.std.proofs.lemmas.Option.{same_Some}
use Rattle.records.specs.declared.transfer.Transfer.{Transfer}
use Rattle.records.specs.declared.facts.PendingState.TheVariants.{Open, Posted, Voided}
use Rattle.records.specs.declared.accepted.Accepted.{Accepted}
use Rattle.records.specs.declared.accepted.Ending.{Ending}
use Rattle.records.specs.declared.accepted.Ending.TheVariants as how
use Rattle.records.specs.Flags.{is_pending, is_post, is_void, is_post_or_void}
use Rattle.records.specs.Machine.{Machine, transfer_with}
use Rattle.records.specs.Due.{is_due}
use Rattle.records.specs.Fate.{fate_of, posts, voids}
use Rattle.records.specs.Valid.{IsNextTransfer, with_transfer}
use Rattle.records.specs.Accepted.{IsAccepted, ending_of}
use Rattle.engine.specs.EndingLaw.{ended_id, told_state, is_told_ended, EndsOpenTransfer, KeepsFate, TellsFates}
use Rattle.engine.proofs.FindByIdLemmas.{found_key, other_way}
use Rattle.engine.proofs.ListSumLemmas.{any_push}
use Rattle.engine.proofs.FateLemmas.{fate_by, any_push_no, ends_none, ends_other, not_due}
use Rattle.engine.proofs.NextTransferLemmas.{next_post_or_void, next_entry_of}
use Rattle.engine.proofs.IsSound.{IsSound}

-- what is told of an entry

abbrev told_by : Bool → Bool → ℕ → Option Ending
told_by post void id = cond post (Some (how.Posted id)) (cond void (Some (how.Voided id)) None)

told_by_flags : (post void : Bool) (id : ℕ) → is_some (told_by post void id) ≡ (post || void)
told_by_flags true void id = refl
told_by_flags false true id = refl
told_by_flags false false id = refl

-- what is told, by the flags of a post or void
record IsToldBy (post void : Bool) (id : ℕ) (ending : Ending) : Type 0 where
  ends : (post || void) ≡ true
  id_is : ended_id ending ≡ id
  state_is : told_state ending ≡ cond post Posted Voided

told_parts : (post void : Bool) (id : ℕ) (ending : Ending) → told_by post void id ≡ Some ending → IsToldBy post void id ending
told_parts true void id ending h = let same = same_Some (how.Posted id) ending h in record { ends = refl; id_is = ap ended_id (sym same); state_is = ap told_state (sym same) }
told_parts false true id ending h = let same = same_Some (how.Voided id) ending h in record { ends = refl; id_is = ap ended_id (sym same); state_is = ap told_state (sym same) }
told_parts false false id ending h = absurd (cc)

-- the fate that an entry gives the transfer that it names, where nothing else has ended it
fate_ended : (posted voided due post void same : Bool) → posted ≡ false → voided ≡ false → (post || void) ≡ true → (post ≡ true → void ≡ false) → same ≡ true → fate_by (posted || post && same) (voided || void && same) due ≡ cond post Posted Voided
fate_ended posted voided due post void same p v either one is = grind arith

-- and that of one that nothing has ended
fate_open : (posted voided due : Bool) → posted ≡ false → voided ≡ false → due ≡ false → fate_by posted voided due ≡ Open
fate_open posted voided due p v d = grind arith

ends_open : (m : Machine) (a : Accepted) (ending : Ending) → IsAccepted m a → a.ends ≡ Some ending → EndsOpenTransfer m a ending
ends_open m a ending accepted is =
    let t = a.stored in
    let told = told_parts (is_post t.flags) (is_void t.flags) t.pending_id ending (sym accepted.ends ∙ is) in
    let e = next_post_or_void m t accepted.next told.ends in
    let same = found_key (λ (x : Transfer). x.id) t.pending_id m.transfers e.pending e.found in
    record {
      pending = e.pending;
      found = subst (λ id. transfer_with id m.transfers ≡ Some e.pending) (sym told.id_is) e.found;
      is_pending = e.pends;
      open_before = fate_open (list_any (posts e.pending.id) m.transfers) (list_any (voids e.pending.id) m.transfers) (is_due m.clock e.pending) e.posted e.voided e.in_time;
      told_after =
          rw (any_push (posts e.pending.id) m.transfers t, any_push (voids e.pending.id) m.transfers t)
          (fate_ended (list_any (posts e.pending.id) m.transfers) (list_any (voids e.pending.id) m.transfers) (is_due m.clock e.pending) (is_post t.flags) (is_void t.flags) (eqb t.pending_id e.pending.id) e.posted e.voided told.ends (next_entry_of m t accepted.next).one_end (eq-eqb t.pending_id e.pending.id (sym same)))
          ∙ sym told.state_is;
    }

-- a transfer that the entry does not end keeps its fate
keeps : (m : Machine) (a : Accepted) (t : Transfer) → (posts t.id a.stored ≡ false) × (voids t.id a.stored ≡ false) → KeepsFate m a t
keeps m a t not_its clock i = fate_by (any_push_no (posts t.id) m.transfers a.stored not_its.0 i) (any_push_no (voids t.id) m.transfers a.stored not_its.1 i) (is_due clock t)

-- what is told by flags of a post or void ends no other transfer
not_told_by : (post void : Bool) (own id : ℕ) → (post || void) ≡ true → is_told_ended (told_by post void own) id ≡ false → eqb own id ≡ false
not_told_by true void own id either h = h
not_told_by false true own id either h = h
not_told_by false false own id either h = absurd (cc)

not_told : (t : Transfer) (id : ℕ) → is_told_ended (ending_of t) id ≡ false → (posts id t ≡ false) × (voids id t ≡ false)
not_told t id h = elim (cases_Bool (is_post_or_void t.flags)) [
  | inl ends ↦ ends_other id t (other_way t.pending_id id (not_told_by (is_post t.flags) (is_void t.flags) t.pending_id id ends h))
  | inr new ↦ ends_none id t new
]

not_ending : (ends pends : Bool) → (ends ≡ true → pends ≡ false) → pends ≡ true → ends ≡ false
not_ending ends pends single h = grind arith

-- a new pending transfer is open
new_is_open : (m : Machine) (a : Accepted) → IsSound m → IsNextTransfer m a.stored → is_pending a.stored.flags ≡ true → fate_of (with_transfer m a.stored).transfers m.clock a.stored ≡ Open
new_is_open m a s next pends =
    let t = a.stored in
    let fresh = next_entry_of m t next in
    let none = s.unnamed t.id fresh.unknown in
    let own = ends_none t.id t (not_ending (is_post_or_void t.flags) (is_pending t.flags) fresh.single pends) in
    fate_open (list_any (posts t.id) (m.transfers ++ t ∷ [])) (list_any (voids t.id) (m.transfers ++ t ∷ [])) (is_due m.clock t) (any_push_no (posts t.id) m.transfers t own.0 ∙ none.0) (any_push_no (voids t.id) m.transfers t own.1 ∙ none.1) (not_due m.clock t next.timestamp.in_batch)

pub tells_fates : (m : Machine) (a : Accepted) → IsSound m → IsAccepted m a → TellsFates m a
tells_fates m a s accepted =
    let fresh = next_entry_of m a.stored accepted.next in
    record {
      told = ap is_some accepted.ends ∙ told_by_flags (is_post a.stored.flags) (is_void a.stored.flags) a.stored.pending_id;
      ended = λ ending is. ends_open m a ending accepted is;
      others = λ k d within pends other.
          let t = get_or m.transfers k d in
          keeps m a t (not_told a.stored t.id (subst (λ (e : Option Ending). is_told_ended e t.id ≡ false) accepted.ends other));
      new = λ pends. new_is_open m a s accepted.next pends;
    }
