-- All that is due is released.
use Rattle.std.proofs.Common.{◌≡◌, ℕ, ◌<◌, ◌≤◌, ◌^◌, ℤ, Bool, true, false, eqb, ◌&&◌, ◌||◌, List, [], ◌∷◌, ◌++◌, append-nil, Option, Some, None, refl, sym, ap, subst, ◌∙◌, arith}
use Rattle.std.specs.List.{AllByRecursion, list_any, filter}
use Rattle.std.specs.List.Sorted.{IsPermutation}
use Rattle.std.specs.Prelude.{All}
use Rattle.std.proofs.lemmas.Bool.Decides.{Decides-eqb, nat_tests}
use Rattle.std.proofs.lemmas.List.Elements.{recursion_from_All}
use Rattle.std.proofs.lemmas.List.Folds.{list_any-append}
use Rattle.std.proofs.lemmas.List.Sorted.{IsPermutation-refl, list_any-IsPermutation}
use Rattle.sqlite.specs.State.{State}
use Rattle.records.specs.declared.facts.PendingState.{PendingState}
use Rattle.records.specs.declared.facts.PendingState.TheVariants.{Open, Posted, Voided, Expired}
use Rattle.records.specs.Due.{has_come}
use Rattle.records.specs.Fate.{is_open}
use Rattle.records.specs.Machine.{Machine, has_id}
use Rattle.records.specs.Valid.{IsValid}
use Rattle.rows.specs.declared.status_row.StatusRow.{StatusRow}
use Rattle.rows.specs.Prescribed.{rows_for}
use Rattle.rows.specs.Settling.{rows_released, due_ids}
use Rattle.rows.specs.TypedRows.{TypedRows}
use Rattle.rows.specs.Widths.{AreStorable, IsStorableStatus}
use Rattle.rows.specs.Tables.{AreKeyed}
use Rattle.rows.specs.SameRows.{AreSameRows}
use Rattle.ledger_sql.specs.Effects.{WritesInside}
use Rattle.stored_tables.specs.Covers.{IsCovered, Covers}
use Rattle.stored_tables.specs.Frames.{AreNumbered}
use Rattle.stored_tables.specs.Holds.{HoldsRows}
use Rattle.stored_tables.specs.declared.kept.KeptRow.{KeptRow}
use Rattle.stored_tables.specs.Kept.{Kept, kept_in, HoldsKept, MovesKept, Flushes}
use Rattle.stored_tables.specs.Moves.{CanWrite}
use Rattle.stored_tables.specs.Releasing.{AreApart, AreReleased, IsLess, ReleasesOne, ReleasesDue}
use Rattle.stored_tables.specs.BatchLaws.{others_itself, others_then}
use Rattle.stored_tables.proofs.DueKeys.{finds, is_within, holds_within}
use Rattle.stored_tables.proofs.DueRows.{due_row}
use Rattle.stored_tables.proofs.KeptMoves.{none_kept, as_stored}
use Rattle.stored_tables.proofs.PastTimes.{IsLater, all_later}
use Rattle.stored_tables.proofs.RowsTell.{same_themselves}
use Rattle.stored_tables.proofs.Writing.{inside_itself, inside_then, still_inside}

-- of these keys no transfer is left, once what is kept is put into the rows
pub record ReleasesSeen (tenant : ℤ) (clock : ℕ) (kept : Kept) (seen : List (ℕ × ℕ)) (old new : State) : Type 0 where
  pub inside : WritesInside old new
  pub all :
      (m : Machine) → IsValid m → AreNumbered old.now.trees → HoldsRows tenant (rows_for 3 m) old.now.trees → (done : List ℕ)
      × AreReleased clock m done
      × AllByRecursion (λ key. has_id key.1 (due_ids clock (rows_released m done)) ≡ false) seen
      × MovesKept tenant kept (rows_released m done) old.now new.now

abbrev pub NoneReleased : Type 0
NoneReleased = (m : Machine) → rows_released m [] ≡ rows_for 3 m

abbrev pub RowsFit : Type 0
RowsFit = (version : ℕ) (m : Machine) → IsValid m → AreStorable (rows_for version m)

abbrev pub KeysAreDistinct : Type 0
KeysAreDistinct = (m : Machine) (rows : TypedRows) → IsValid m → AreSameRows (rows_for 3 m) rows → AreKeyed rows

-- the rows of a machine are apart
pub apart_for : RowsFit → KeysAreDistinct → (m : Machine) → IsValid m → AreApart (rows_for 3 m)
apart_for fit keyed m valid =
    let fits = fit 3 m valid in
    let keys = keyed m (rows_for 3 m) valid (same_themselves (rows_for 3 m)) in
    record {
      transfers_fit = fits.transfers;
      transfers = keys.transfers;
      balances_fit = fits.balances;
      balances = keys.balances;
      statuses_fit = fits.statuses;
      statuses = keys.statuses;
    }

module _ (tenant : ℤ) (clock : ℕ) where
  -- at the beginning
  pub seen_none : NoneReleased → RowsFit → KeysAreDistinct → (s : State) → CanWrite s → ReleasesSeen tenant clock (kept_in []) [] s s
  seen_none first fit keyed s can = record {
    inside = inside_itself s can;
    all = λ m valid num held.
        let apart : AreApart (rows_released m []) = subst AreApart (sym (first m)) (apart_for fit keyed m valid) in (
          [],
          record { split = subst (λ (rows : TypedRows). IsPermutation (due_ids clock (rows_for 3 m)) (due_ids clock rows)) (sym (first m)) (IsPermutation-refl (due_ids clock (rows_for 3 m))); apart = apart },
          tt,
          record {
            numbered = num;
            others = others_itself tenant s.now.trees;
            strangers = refl;
            rows = none_kept tenant (rows_released m []) s.now.trees apart (subst (λ (rows : TypedRows). HoldsRows tenant rows s.now.trees) (sym (first m)) held);
          },
        );
  }

  -- none of the keys that were seen comes back
  none_back : (id : ℕ) (m : Machine) (done more : List ℕ) → IsLess clock id m done more → (seen : List (ℕ × ℕ)) (key : ℕ × ℕ) → key.1 ≡ id → AllByRecursion (λ key. has_id key.1 (due_ids clock (rows_released m done)) ≡ false) seen
      → AllByRecursion (λ key. has_id key.1 (due_ids clock (rows_released m more)) ≡ false) (seen ++ key ∷ [])
  none_back id m done more less [] key is all = (ap (λ k. has_id k (due_ids clock (rows_released m more))) is ∙ less.gone, tt)
  none_back id m done more less (first ∷ seen) key is all = (less.fewer first.1 all.0, none_back id m done more less seen key is all.1)

  -- one key more
  pub seen_more : (kept more : Kept) (seen : List (ℕ × ℕ)) (key : ℕ × ℕ) (s0 s1 s2 : State) → ReleasesSeen tenant clock kept seen s0 s1 → ReleasesOne tenant clock key.1 kept more s1 s2 → ReleasesSeen tenant clock more (seen ++ key ∷ []) s0 s2
  seen_more kept more seen key s0 s1 s2 before one = record {
    inside = inside_then s0 s1 s2 before.inside one.inside;
    all = λ m valid num held.
        let was = before.all m valid num held in
        let then = one.step m was.0 valid was.1 was.3.numbered was.3.rows in (
          then.0,
          then.1,
          none_back key.1 m was.0 then.0 then.2 seen key refl was.2,
          record { numbered = then.3.numbered; others = others_then tenant s0.now.trees s1.now.trees s2.now.trees was.3.others then.3.others; strangers = then.3.strangers ∙ was.3.strangers; rows = then.3.rows },
        );
  }

-- what was kept is written
pub seen_flushed : (tenant : ℤ) (clock : ℕ) (kept : Kept) (rest : List KeptRow) (seen : List (ℕ × ℕ)) (s0 s1 s2 : State) → rest ≡ [] → ReleasesSeen tenant clock kept seen s0 s1 → Flushes tenant kept (kept_in rest) s1 s2
    → ReleasesSeen tenant clock (kept_in []) seen s0 s2
seen_flushed tenant clock kept rest seen s0 s1 s2 empty before flushed = record {
  inside = inside_then s0 s1 s2 before.inside flushed.inside;
  all = λ m valid num held.
      let was = before.all m valid num held in
      let then = flushed.moves (rows_released m was.0) tt was.3.numbered was.3.rows in (
        was.0,
        was.1,
        was.2,
        record {
          numbered = then.numbered;
          others = others_then tenant s0.now.trees s1.now.trees s2.now.trees was.3.others then.others;
          strangers = then.strangers ∙ was.3.strangers;
          rows = subst (λ (rest : List KeptRow). HoldsKept tenant (kept_in rest) (rows_released m was.0) s2.now.trees) empty then.rows;
        },
      );
}

open_row : (state : PendingState) (come : Bool) → (is_open state && come) ≡ true → (state ≡ Open) × (come ≡ true)
open_row Open come due = (refl, due)
open_row Posted come due = absurd (cc)
open_row Voided come due = absurd (cc)
open_row Expired come due = absurd (cc)

due_time : (due : Option ℕ) (clock : ℕ) → has_come due clock ≡ true → (time : ℕ) × (due ≡ Some time) × (time ≤ clock)
due_time None clock come = absurd (cc)
due_time (Some time) clock come = (time, refl, grind (arith, nat_tests))

behind : (a b : Bool) → b ≡ true → (a || b) ≡ true
behind true b h = refl
behind false b h = h

itself : (k : ℕ) → eqb k k ≡ true
itself k = (Decides-eqb k k).1 refl

module _ (from clock : ℕ) (m : Machine) (done : List ℕ) (keys : List (ℕ × ℕ)) (past : from ≤ m.clock) (fit : All IsStorableStatus (rows_for 3 m).statuses) (covers : Covers (λ key. list_any (finds key) keys) m) (released : AreReleased clock m done)
    (seen : AllByRecursion (λ key. has_id key.1 (due_ids clock (rows_released m done)) ≡ false) (filter (is_within (from, 340282366920938463463374607431768211455) (clock, 340282366920938463463374607431768211455)) keys)) where
  abbrev IsKnown : StatusRow → Type 0
  IsKnown row = IsCovered (λ key. list_any (finds key) keys) row × IsStorableStatus row × IsLater m.clock row

  known : (rows : List StatusRow) → AllByRecursion (IsCovered (λ key. list_any (finds key) keys)) rows → AllByRecursion IsStorableStatus rows → AllByRecursion (IsLater m.clock) rows → AllByRecursion IsKnown rows
  known [] c f l = tt
  known (row ∷ rows) c f l = ((c.0, f.0, l.0), known rows c.1 f.1 l.1)

  not_left : (left : List ℕ) → due_ids clock (rows_released m done) ≡ left → left ≡ []
  not_left [] is = refl
  not_left (k ∷ ks) is =
      let there : has_id k (due_ids clock (rows_released m done)) ≡ true = ap (has_id k) is ∙ ap (λ b. b || has_id k ks) (itself k) in
      let was : has_id k (due_ids clock (rows_for 3 m)) ≡ true =
      list_any-IsPermutation (λ other. eqb other k) (due_ids clock (rows_for 3 m)) (done ++ due_ids clock (rows_released m done)) released.split
      ∙ list_any-append (λ other. eqb other k) done (due_ids clock (rows_released m done)) ∙ behind (has_id k done) (has_id k (due_ids clock (rows_released m done))) there in
      let it = due_row clock k IsKnown (rows_for 3 m).statuses (known (rows_for 3 m).statuses (recursion_from_All _ (rows_for 3 m).statuses covers) (recursion_from_All IsStorableStatus (rows_for 3 m).statuses fit) (all_later m)) was in
      let parts = open_row it.row.state (has_come it.row.due clock) it.due in
      let time = due_time it.row.due clock parts.1 in
      let narrow : it.row.transfer < 2 ^ 128 = it.holds.1.transfer in
      let behind : m.clock < time.0 = it.holds.2 time.0 parts.0 time.1 in
      let gone : has_id it.row.transfer (due_ids clock (rows_released m done)) ≡ false =
      holds_within (λ key. has_id key.1 (due_ids clock (rows_released m done)) ≡ false) (from, 340282366920938463463374607431768211455) (clock, 340282366920938463463374607431768211455) (time.0, it.row.transfer) keys (omega arith) time.2 (omega arith) seen (it.holds.0 time.0 parts.0 time.1) in
      absurd (let e : false ≡ true = sym gone ∙ ap (λ id. has_id id (due_ids clock (rows_released m done))) it.transfer ∙ there in cc)

  pub all_done : IsPermutation (due_ids clock (rows_for 3 m)) done
  all_done = subst (IsPermutation (due_ids clock (rows_for 3 m))) (ap (λ left. done ++ left) (not_left (due_ids clock (rows_released m done)) refl) ∙ append-nil done) released.split

-- where all keys behind a past moment and up to the clock were seen, all that is due is released
pub seen_all : RowsFit → (tenant : ℤ) (past from clock : ℕ) (keys : List (ℕ × ℕ)) (s0 s1 : State) → from ≤ past → ReleasesSeen tenant clock (kept_in []) (filter (is_within (from, 340282366920938463463374607431768211455) (clock, 340282366920938463463374607431768211455)) keys) s0 s1
    → ReleasesDue tenant past clock (λ key. list_any (finds key) keys) s0 s1
seen_all fit tenant past from clock keys s0 s1 le seen = record {
  inside = seen.inside;
  all = λ m valid later covers num held.
      let it = seen.all m valid num held in (
        it.0,
        all_done from clock m it.0 keys (omega arith) (fit 3 m valid).statuses covers it.1 it.2,
        record { numbered = it.3.numbered; others = it.3.others; strangers = it.3.strangers; rows = as_stored tenant (rows_released m it.0) s1.now.trees it.3.rows },
      );
}

-- so it is once all that was kept is written
pub due_flushed : RowsFit → (tenant : ℤ) (past from clock : ℕ) (keys : List (ℕ × ℕ)) (kept : Kept) (rest : List KeptRow) (s0 s1 s2 : State) → from ≤ past
    → ReleasesSeen tenant clock kept (filter (is_within (from, 340282366920938463463374607431768211455) (clock, 340282366920938463463374607431768211455)) keys) s0 s1
    → Flushes tenant kept (kept_in rest) s1 s2 → rest ≡ [] → ReleasesDue tenant past clock (λ key. list_any (finds key) keys) s0 s2
due_flushed fit tenant past from clock keys kept rest s0 s1 s2 le seen flushed empty = seen_all fit tenant past from clock keys s0 s2 le (seen_flushed tenant clock kept rest _ s0 s1 s2 empty seen flushed)

-- the transaction is open still
pub can_write_still : (s0 s1 : State) → CanWrite s0 → WritesInside s0 s1 → CanWrite s1
can_write_still s0 s1 can w = record { inside = still_inside s0 s1 can.inside w; is_open = w.shown.is_open }
