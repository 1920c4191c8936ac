-- One transfer after the other is released.
use Rattle.std.proofs.Common.{◌≡◌, ℕ, ℤ, true, false, List, [], ◌∷◌, ◌++◌, append_assoc, Option, Some, Result, OnOk, IsSome, refl, sym, ap, subst, ◌∙◌}
use Rattle.std.specs.List.Sorted.{IsPermutation}
use Rattle.std.proofs.lemmas.List.Sorted.{IsPermutation-trans, IsPermutation-append_right}
use Rattle.std.proofs.lemmas.Result.{on_ok_weaker}
use Rattle.sqlite.specs.Effect.{Database}
use Rattle.sqlite.specs.State.{State, HasCleanDisk, IsUnchanged}
use Rattle.records.specs.declared.balances.Balances.{Balances}
use Rattle.records.specs.declared.transfer.Transfer.{Transfer}
use Rattle.records.specs.declared.unavailable.Unavailable.{Unavailable}
use Rattle.records.specs.Machine.{Machine, has_id, transfer_with}
use Rattle.records.specs.Valid.{IsValid}
use Rattle.rows.specs.declared.status_row.StatusRow.{StatusRow}
use Rattle.records.specs.declared.facts.PendingState.TheVariants.{Expired}
use Rattle.rows.specs.Changes.{set_state, with_expired}
use Rattle.rows.specs.Keyed.{row_with}
use Rattle.rows.specs.Prescribed.{rows_for}
use Rattle.rows.specs.TypedRows.{TypedRows}
use Rattle.rows.specs.Settling.{rows_when, rows_released, due_ids, is_due_row, IsNextRelease}
use Rattle.ledger_sql.specs.Calls.{LeavesChanged}
use Rattle.ledger_sql.specs.Effects.{IsInside}
use Rattle.ledger_sql.specs.Frames.{Follows}
use Rattle.stored_tables.specs.BatchLaws.{clean_before, follows_then, others_itself, others_then}
use Rattle.stored_tables.specs.Frames.{AreNumbered}
use Rattle.stored_tables.specs.Kept.{Kept, HoldsKept, MovesKept, ChangesKept, Flushes}
use Rattle.stored_tables.specs.Moves.{IsStatusOf}
use Rattle.stored_tables.specs.Releasing.{AreApart, CanExpire, Expires, AreReleased, IsLess, ReleasesOne}
use Rattle.stored_tables.proofs.Apart.{apart_expired}
use Rattle.stored_tables.proofs.RowMoves.{found_key}
use Rattle.stored_tables.proofs.DueRows.{due_in, expires, gone, not_due, not_in_fewer}
use Rattle.stored_tables.proofs.Writing.{inside_then, writes_after_same}

-- what is next to be released
abbrev pub NextReleases : Type 0
NextReleases =
    (m : Machine) (clock : ℕ) (done rest : List ℕ) (id : ℕ) → IsValid m → IsPermutation (due_ids clock (rows_for 3 m)) (done ++ id ∷ rest)
    → (t : Transfer) × (debit : Balances) × (credit : Balances) × IsNextRelease m done id t debit credit

-- the list of transfers stays as one after the other is released
same_transfers : (m : Machine) (done : List ℕ) → (rows_released m done).transfers ≡ m.transfers
unfolding rows_when
same_transfers m done = refl

is_some : {A : Type 0} (o : Option A) (x : A) → o ≡ Some x → IsSome o
is_some o x is = subst IsSome (sym is) refl

-- the statuses after an expiry
due_after : (clock : ℕ) (t : Transfer) (debit credit : Balances) (rows : TypedRows) → due_ids clock (with_expired t debit credit rows) ≡ due_in clock (set_state t.id Expired rows.statuses)
unfolding with_expired
due_after clock t debit credit rows = refl

module _ (next : NextReleases) (clock id : ℕ) (m : Machine) (done : List ℕ) (valid : IsValid m) (was : AreReleased clock m done) (row : StatusRow) (found : row_with (λ r. r.transfer) id (rows_released m done).statuses ≡ Some row) (due : is_due_row clock row ≡ true) where
  abbrev rows : TypedRows
  rows = rows_released m done

  abbrev rest : List ℕ
  rest = due_in clock (set_state id Expired rows.statuses)

  fewer : IsPermutation (due_ids clock rows) (id ∷ rest)
  fewer = expires clock id rows.statuses row (was.apart.statuses id) found due

  split : IsPermutation (due_ids clock (rows_for 3 m)) (done ++ id ∷ rest)
  split = IsPermutation-trans (due_ids clock (rows_for 3 m)) (done ++ due_ids clock rows) (done ++ id ∷ rest) was.split (IsPermutation-append_right done (due_ids clock rows) (id ∷ rest) fewer)

  the_next : (t : Transfer) × (debit : Balances) × (credit : Balances) × IsNextRelease m done id t debit credit
  the_next = next m clock done rest id valid split

  module _ (t : Transfer) (debit credit : Balances) (is : IsNextRelease m done id t debit credit) where
    can : CanExpire t debit credit rows
    can = record {
      apart = was.apart;
      found = ap (transfer_with t.id) (same_transfers m done) ∙ ap (λ k. transfer_with k m.transfers) is.id_is ∙ is.found;
      debit_found = is.debit_found;
      credit_found = is.credit_found;
      has_status = is_some (row_with (λ (r : StatusRow). r.transfer) t.id rows.statuses) row (ap (λ k. row_with (λ (r : StatusRow). r.transfer) k rows.statuses) is.id_is ∙ found);
    }

    abbrev more : List ℕ
    more = done ++ id ∷ []

    left : due_ids clock (rows_released m more) ≡ rest
    left = ap (due_ids clock) is.leaves ∙ due_after clock t debit credit rows ∙ ap (λ k. due_in clock (set_state k Expired rows.statuses)) is.id_is

    released : AreReleased clock m more
    released = record {
      split = subst (IsPermutation (due_ids clock (rows_for 3 m))) (sym (append_assoc done (id ∷ []) rest) ∙ ap (λ ids. more ++ ids) (sym left)) split;
      apart = subst AreApart (sym is.leaves) (apart_expired t debit credit rows can);
    }

    less : IsLess clock id m done more
    less = record {
      gone = ap (has_id id) left ∙ gone clock id rows.statuses;
      fewer = λ other lacks. ap (has_id other) left ∙ not_in_fewer other id (due_ids clock rows) rest fewer lacks;
    }

-- a change behind a call that changed nothing
kept_after_same : (tenant : ℤ) (was is : Kept) (can : TypedRows → Type 0) (change : TypedRows → TypedRows) (a b c : State) → IsUnchanged a b → ChangesKept tenant was is can change b c → ChangesKept tenant was is can change a c
kept_after_same tenant was is _ change a b c same w = record {
  inside = (writes_after_same tenant (λ rows. ⊥) (λ rows. rows) a b c same (record { inside = w.inside; moves = λ rows can. absurd can })).inside;
  moves = λ rows may num held.
      subst (λ (db : Database). MovesKept tenant is (change rows) db c.now) same.0.now_is
      (w.moves rows may (subst (λ (db : Database). AreNumbered db.trees) (sym same.0.now_is) num) (subst (λ (db : Database). HoldsKept tenant was rows db.trees) (sym same.0.now_is) held));
}

module _ (tenant : ℤ) (clock id : ℕ) (found : Option StatusRow) (s0 s1 : State) (told : IsStatusOf tenant id s0.now.trees found) (same : IsUnchanged s0 s1) where
  -- what was found, where some balances are kept
  status_of : (kept : Kept) (m : Machine) (done : List ℕ) → AreReleased clock m done → HoldsKept tenant kept (rows_released m done) s0.now.trees → found ≡ row_with (λ r. r.transfer) id (rows_released m done).statuses
  status_of kept m done was held = told (record (rows_released m done) { balances = held.stored }) held.holds was.apart.statuses_fit was.apart.statuses

  -- nothing is due, and nothing changes
  pub passes : (kept : Kept) → IsInside s0 → ((row : StatusRow) → found ≡ Some row → is_due_row clock row ≡ false) → ReleasesOne tenant clock id kept kept s0 s1
  passes kept inside not = record {
    inside = record {
      schema = ap (λ (db : Database). db.schema) same.0.now_is;
      shown = record { was_open = same.0.was_open; is_open = same.0.is_open; now_is = refl; committed_is = same.0.committed_is; mode = same.0.mode ∙ inside.mode };
      marks = same.2;
    };
    step = λ m done valid was num held. (
      done,
      was,
      record { gone = not_due clock id (rows_released m done).statuses (was.apart.statuses id) (λ row there. not row (status_of kept m done was held ∙ there)); fewer = λ other lacks. lacks },
      subst (MovesKept tenant kept (rows_released m done) s0.now) (sym same.0.now_is) (record { numbered = num; others = others_itself tenant s0.now.trees; strangers = refl; rows = held }),
    );
  }

  -- the transfer is due, and expires
  module _ (kept more : Kept) (next : NextReleases) (s2 : State) (row : StatusRow) (is : found ≡ Some row) (due : is_due_row clock row ≡ true) where
    lets_expire : Expires tenant row.transfer kept more s1 s2 → ReleasesOne tenant clock id kept more s0 s2
    lets_expire expiry = record {
      inside = (writes_after_same tenant (λ rows. ⊥) (λ rows. rows) s0 s1 s2 same (record { inside = expiry.inside; moves = λ rows can. absurd can })).inside;
      step = λ m done valid was num held.
          let there = sym (status_of kept m done was held) ∙ is in
          let it = the_next next clock id m done valid was row there due in
          let own = found_key (λ (r : StatusRow). r.transfer) id (rows_released m done).statuses row there in
          let all = kept_after_same tenant kept more (CanExpire it.0 it.1 it.2) (with_expired it.0 it.1 it.2) s0 s1 s2 same (expiry.writes it.0 it.1 it.2 (it.3.id_is ∙ sym own)) in (
            done ++ id ∷ [],
            released next clock id m done valid was row there due it.0 it.1 it.2 it.3,
            less next clock id m done valid was row there due it.0 it.1 it.2 it.3,
            subst (λ (rows : TypedRows). MovesKept tenant more rows s0.now s2.now) (sym it.3.leaves)
                (all.moves (rows_released m done) (can next clock id m done valid was row there due it.0 it.1 it.2 it.3) num held),
          );
    }

    pub releases : (r : Result (Unit {0}) Unavailable) → OnOk r (Expires tenant row.transfer kept more s1 s2) → OnOk r (ReleasesOne tenant clock id kept more s0 s2)
    releases r expiry = on_ok_weaker r lets_expire expiry

-- the next one is released once there is room
pub roomed : (tenant : ℤ) (clock id : ℕ) (was mid is : Kept) (s0 s1 s2 : State) (r : Result (Unit {0}) Unavailable) → Flushes tenant was mid s0 s1 → OnOk r (ReleasesOne tenant clock id mid is s1 s2)
    → OnOk r (ReleasesOne tenant clock id was is s0 s2)
roomed tenant clock id was mid is s0 s1 s2 r room step =
    on_ok_weaker r
    (λ (one : ReleasesOne tenant clock id mid is s1 s2). record {
      inside = inside_then s0 s1 s2 room.inside one.inside;
      step = λ m done valid released num held.
          let first = room.moves (rows_released m done) tt num held in
          let then = one.step m done valid released first.numbered first.rows in (
            then.0,
            then.1,
            then.2,
            record { numbered = then.3.numbered; others = others_then tenant s0.now.trees s1.now.trees s2.now.trees first.others then.3.others; strangers = then.3.strangers ∙ first.strangers; rows = then.3.rows },
          );
    })
    step

-- what was kept is written, if need be, and the transaction goes on
pub record MakesRoom (tenant : ℤ) (was is : Kept) (s0 s1 : State) : Type 0 where
  pub flushes : HasCleanDisk s1 → Flushes tenant was is s0 s1
  pub follows : Follows s0 s1

-- the next one is released behind it
pub room_then : {T : Type 0} (state : T → State) (tenant : ℤ) (clock id : ℕ) (was mid is : Kept) (a b c : T) (r : Result (Unit {0}) Unavailable) → MakesRoom tenant was mid (state a) (state b) → LeavesChanged (ReleasesOne tenant clock id mid is) (state b) (state c) r
    → LeavesChanged (ReleasesOne tenant clock id was is) (state a) (state c) r
room_then state tenant clock id was mid is a b c r room step = record {
  ok = λ clean. roomed tenant clock id was mid is _ _ _ r (room.flushes (clean_before _ _ step.follows clean)) (step.ok clean);
  follows = follows_then _ _ _ room.follows step.follows;
}
