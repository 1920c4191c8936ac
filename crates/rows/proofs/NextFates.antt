-- What the next transfer makes of the fates of the others, and its own fate.
use Rattle.std.proofs.Common.{◌≡◌, ℕ, Bool, true, false, ◌&&◌, ◌||◌, eqb, cond, List, [], ◌∷◌, ◌++◌, map, Some, None, inl, inr, refl, sym, ap, ap₂, ◌∙◌, subst}
use Rattle.std.specs.List.{list_any, filter}
use Rattle.std.proofs.lemmas.List.{map-append}
use Rattle.std.proofs.lemmas.List.Elements.{filter-append}
use Rattle.std.proofs.lemmas.Bool.{cases_Bool, both_ways, eqb-true, eq-eqb, or_from}
use Rattle.records.specs.declared.transfer.Transfer.{Transfer}
use Rattle.records.specs.declared.facts.PendingState.{PendingState}
use Rattle.records.specs.declared.facts.PendingState.TheVariants.{Open, Posted, Voided}
use Rattle.records.specs.declared.accepted.Ending.TheVariants as ending
use Rattle.records.specs.Flags.{is_pending, is_post, is_void, is_post_or_void}
use Rattle.records.specs.Machine.{Machine}
use Rattle.records.specs.Due.{due_of, is_due}
use Rattle.records.specs.Fate.{posts, voids, fate_of}
use Rattle.records.specs.Accepted.{ending_of}
use Rattle.records.specs.Valid.{IsNextTransfer, with_transfer}
use Rattle.rows.specs.declared.status_row.StatusRow.{StatusRow}
use Rattle.rows.specs.Prescribed.{status_row, status_rows}
use Rattle.rows.specs.Changes.{set_state, ended, new_statuses}
use Rattle.engine.proofs.ValidMachineLemmas.{found_key, other_way, any_push, any_push_no, ends_none, fate_by, not_due, NextPostOrVoid, next_entry_of, next_post_or_void, IsSound}
use Rattle.rows.proofs.RowLists.{map_same, changed_map}

pub eqb-sym : (a b : ℕ) → eqb a b ≡ eqb b a
eqb-sym a b = elim (cases_Bool (eqb a b)) [ inl is ↦ is ∙ sym (eq-eqb b a (sym (eqb-true a b is))) | inr not ↦ not ∙ sym (other_way a b not) ]

-- a fate with one entry more
fate_push : (entries : List Transfer) (t : Transfer) (clock : ℕ) (e : Transfer) → fate_of (entries ++ t ∷ []) clock e ≡ fate_by (list_any (posts e.id) entries || posts e.id t) (list_any (voids e.id) entries || voids e.id t) (is_due clock e)
fate_push entries t clock e = ap₂ (λ (a : Bool) (b : Bool). fate_by a b (is_due clock e)) (any_push (posts e.id) entries t) (any_push (voids e.id) entries t)

not_both : (a b : Bool) → (a ≡ true → b ≡ false) → b ≡ true → a ≡ false
not_both true b h is = absurd (both_ways b (h refl) is)
not_both false b h is = refl

-- with a post, and with a void
by_post : (same posted voided due : Bool) → fate_by (posted || true && same) (voided || false && same) due ≡ cond same Posted (fate_by posted voided due)
by_post true true voided due = refl
by_post true false voided due = refl
by_post false true voided due = refl
by_post false false true due = refl
by_post false false false due = refl

by_void : (same posted voided due : Bool) → (same ≡ true → posted ≡ false) → fate_by (posted || false && same) (voided || true && same) due ≡ cond same Voided (fate_by posted voided due)
by_void true true voided due h = absurd (both_ways true (h refl) refl)
by_void true false true due h = refl
by_void true false false due h = refl
by_void false true voided due h = refl
by_void false false true due h = refl
by_void false false false due h = refl

post_fate : (m : Machine) (t e : Transfer) → is_post t.flags ≡ true → is_void t.flags ≡ false → fate_of (m.transfers ++ t ∷ []) m.clock e ≡ cond (eqb t.pending_id e.id) Posted (fate_of m.transfers m.clock e)
post_fate m t e post void =
    let same = eqb t.pending_id e.id in
    let posted = list_any (posts e.id) m.transfers in
    let voided = list_any (voids e.id) m.transfers in
    let due = is_due m.clock e in
    fate_push m.transfers t m.clock e ∙ ap₂ (λ (a : Bool) (b : Bool). fate_by (posted || a && same) (voided || b && same) due) post void ∙ by_post same posted voided due

-- what a void ends was not posted
not_posted : (m : Machine) (t e : Transfer) → NextPostOrVoid m t → eqb t.pending_id e.id ≡ true → list_any (posts e.id) m.transfers ≡ false
not_posted m t e n same = subst (λ (id : ℕ). list_any (posts id) m.transfers ≡ false) (found_key (λ (x : Transfer). x.id) t.pending_id m.transfers n.pending n.found ∙ eqb-true t.pending_id e.id same) n.posted

void_fate : (m : Machine) (t e : Transfer) → NextPostOrVoid m t → is_post t.flags ≡ false → is_void t.flags ≡ true → fate_of (m.transfers ++ t ∷ []) m.clock e ≡ cond (eqb t.pending_id e.id) Voided (fate_of m.transfers m.clock e)
void_fate m t e n post void =
    let same = eqb t.pending_id e.id in
    let posted = list_any (posts e.id) m.transfers in
    let voided = list_any (voids e.id) m.transfers in
    let due = is_due m.clock e in
    fate_push m.transfers t m.clock e ∙ ap₂ (λ (a : Bool) (b : Bool). fate_by (posted || a && same) (voided || b && same) due) post void ∙ by_void same posted voided due (not_posted m t e n)

-- an entry that is neither leaves each fate
kept_fate : (m : Machine) (t e : Transfer) → is_post_or_void t.flags ≡ false → fate_of (m.transfers ++ t ∷ []) m.clock e ≡ fate_of m.transfers m.clock e
kept_fate m t e new =
    let none = ends_none e.id t new in
    ap₂ (λ (a : Bool) (b : Bool). fate_by a b (is_due m.clock e)) (any_push_no (posts e.id) m.transfers t none.0) (any_push_no (voids e.id) m.transfers t none.1)

-- the row of a transfer with this state
abbrev pub status_of : Transfer → PendingState → StatusRow
status_of t state = record { transfer = t.id; state = state; due = due_of t }

row_by : (same : Bool) (t : Transfer) (old set new : PendingState) → new ≡ cond same set old → status_of t new ≡ cond same (status_of t set) (status_of t old)
row_by true t old set new h = ap (status_of t) h
row_by false t old set new h = ap (status_of t) h

-- rows in which the transfer with this id is set to a state
pub set_rows : (old new : Transfer → PendingState) (id : ℕ) (state : PendingState) → ((e : Transfer) → new e ≡ cond (eqb e.id id) state (old e)) → (xs : List Transfer) → map (λ e. status_of e (new e)) xs ≡ set_state id state (map (λ e. status_of e (old e)) xs)
set_rows old new id state is xs =
    changed_map (λ (row : StatusRow). row.transfer) id (λ row. record row { state = state }) (λ e. status_of e (old e)) (λ e. status_of e (new e)) (λ e. row_by (eqb e.id id) e (old e) state (new e) (is e)) xs

kept_rows : (m : Machine) (t : Transfer) → is_post_or_void t.flags ≡ false → (xs : List Transfer) → map (status_row (with_transfer m t)) xs ≡ map (status_row m) xs
kept_rows m t new xs = map_same (status_row (with_transfer m t)) (status_row m) (λ e. ap (status_of e) (kept_fate m t e new)) xs

-- how the ending is written by its flags
ending_post : (t : Transfer) → is_post t.flags ≡ true → ending_of t ≡ Some (ending.Posted t.pending_id)
ending_post t post = rw post refl

ending_void : (t : Transfer) → is_post t.flags ≡ false → is_void t.flags ≡ true → ending_of t ≡ Some (ending.Voided t.pending_id)
ending_void t post void = rw (post, void) refl

ending_none : (t : Transfer) → is_post t.flags ≡ false → is_void t.flags ≡ false → ending_of t ≡ None
ending_none t post void = rw (post, void) refl

is_either : (post void : Bool) → void ≡ true → (post || void) ≡ true
is_either true void h = refl
is_either false void h = h

turned : (t e : Transfer) (set old : PendingState) → cond (eqb t.pending_id e.id) set old ≡ cond (eqb e.id t.pending_id) set old
turned t e set old = ap (λ (b : Bool). cond b set old) (eqb-sym t.pending_id e.id)

ended_rows : (m : Machine) (t : Transfer) → IsNextTransfer m t → (xs : List Transfer) → map (status_row (with_transfer m t)) xs ≡ ended (ending_of t) (map (status_row m) xs)
ended_rows m t next xs =
    let to = λ (e : _) (is : ending_of t ≡ e) (h : map (status_row (with_transfer m t)) xs ≡ ended e (map (status_row m) xs)). subst (λ o. map (status_row (with_transfer m t)) xs ≡ ended o (map (status_row m) xs)) (sym is) h in
    let fresh = next_entry_of m t next in
    elim (cases_Bool (is_post t.flags)) [
      | inl post ↦ to _ (ending_post t post) (set_rows (fate_of m.transfers m.clock) (fate_of (m.transfers ++ t ∷ []) m.clock) t.pending_id Posted (λ e. post_fate m t e post (fresh.one_end post) ∙ turned t e Posted (fate_of m.transfers m.clock e)) xs)
      | inr not_post ↦ elim (cases_Bool (is_void t.flags)) [
        | inl void ↦ to _ (ending_void t not_post void) (set_rows (fate_of m.transfers m.clock) (fate_of (m.transfers ++ t ∷ []) m.clock) t.pending_id Voided (λ e. void_fate m t e (next_post_or_void m t next (is_either (is_post t.flags) (is_void t.flags) void)) not_post void ∙ turned t e Voided (fate_of m.transfers m.clock e)) xs)
        | inr not_void ↦ to _ (ending_none t not_post not_void) (kept_rows m t (or_from (is_post t.flags) (is_void t.flags) not_post not_void) xs)
      ]
    ]

-- its own status: nothing has ended it, and it is not due
own_fate : (m : Machine) (t : Transfer) → IsSound m → IsNextTransfer m t → is_pending t.flags ≡ true → fate_of (m.transfers ++ t ∷ []) m.clock t ≡ Open
own_fate m t s next pends =
    let fresh = next_entry_of m t next in
    let none = s.unnamed t.id fresh.unknown in
    let new = not_both (is_post_or_void t.flags) (is_pending t.flags) fresh.single pends in
    kept_fate m t t new ∙ (λ i. fate_by (none.0 i) (none.1 i) (not_due m.clock t next.timestamp.in_batch i))

own_by : (pends : Bool) (f : Transfer → StatusRow) (t : Transfer) (row : StatusRow) → (pends ≡ true → f t ≡ row) → map f (cond pends (t ∷ []) []) ≡ cond pends (row ∷ []) []
own_by true f t row h = ap (λ (r : StatusRow). r ∷ []) (h refl)
own_by false f t row h = refl

own_rows : (m : Machine) (t : Transfer) → IsSound m → IsNextTransfer m t → map (status_row (with_transfer m t)) (filter (λ (x : Transfer). is_pending x.flags) (t ∷ [])) ≡ new_statuses t
own_rows m t s next = own_by (is_pending t.flags) (status_row (with_transfer m t)) t (status_of t Open) (λ pends. ap (status_of t) (own_fate m t s next pends))

-- all status rows with the next transfer
pub statuses_push : (m : Machine) (t : Transfer) → IsSound m → IsNextTransfer m t → status_rows (with_transfer m t) ≡ ended (ending_of t) (status_rows m) ++ new_statuses t
statuses_push m t s next =
    let row = status_row (with_transfer m t) in
    let pends = λ (x : Transfer). is_pending x.flags in
    ap (map row) (filter-append pends m.transfers (t ∷ [])) ∙ map-append row (filter pends m.transfers) (filter pends (t ∷ []))
    ∙ ap₂ ◌++◌ (ended_rows m t next (filter pends m.transfers)) (own_rows m t s next)
