-- How a set of due times goes on covering a batch.
use Rattle.std.proofs.Common.{◌≡◌, ℕ, ◌≤◌, Bool, true, false, if◌then◌else◌, List, [], ◌∷◌, map, filter, Option, Some, None, Ok, Err, Result, OnOk, IfSome, IsTrue, All, refl, sym, subst, arith}
use Rattle.std.specs.List.{list_any}
use Rattle.std.proofs.lemmas.List.Elements.{All-nil, All-cons, All-head, All-tail, All-weaker}
use Rattle.std.proofs.lemmas.Bool.Decides.{nat_tests}
use Rattle.records.specs.declared.unavailable.Unavailable.{Unavailable}
use Rattle.records.specs.declared.account.Account.{Account}
use Rattle.records.specs.declared.transfer.Transfer.{Transfer}
use Rattle.records.specs.declared.facts.PendingState.TheVariants.{Open, Posted, Voided, Expired}
use Rattle.records.specs.Flags.{is_pending}
use Rattle.records.specs.Due.{due_of, has_come, is_due as is_due_at}
use Rattle.records.specs.Fate.{posts, voids}
use Rattle.records.specs.Step.{at_clock}
use Rattle.records.specs.Machine.{Machine, with_failed}
use Rattle.records.specs.Valid.{with_account}
use Rattle.chain.specs.Tables.{State, marking, unmarked, at_mark, marked_or, on_now}
use Rattle.rows.specs.Prescribed.{rows_for, status_row}
use Rattle.stored_tables.specs.Covers.{DueTest, IsCovered, Covers, CoversBatch}

-- what a call leaves may be called, and is covered
pub covered : {X : Type 0} (r : Result X Unavailable) (Usable Is : Type 0) (has : DueTest) (past : ℕ) (new left : State) → OnOk r Usable → (Is → OnOk r (new ≡ left)) → (Is → CoversBatch has past left)
    → OnOk r (Usable × (Is → CoversBatch has past new))
covered (Ok x) Usable Is has past new left usable state covers = (usable, λ is. subst (CoversBatch has past) (sym (state is)) (covers is))
covered (Err e) Usable Is has past new left usable state covers = tt

module _ (has : DueTest) (past : ℕ) (s : State) (covers : CoversBatch has past s) where
  pub covers_marking : CoversBatch has past (marking s)
  covers_marking = record { now = covers.now; marked = covers.now; behind = covers.behind; behind_marked = covers.behind }

  pub covers_unmarked : CoversBatch has past (unmarked s)
  covers_unmarked = record { now = covers.now; marked = tt; behind = covers.behind; behind_marked = tt }

  pub covers_at_mark : CoversBatch has past (at_mark s)
  covers_at_mark = record {
    now = back (Covers has) covers.now s.marked covers.marked;
    marked = tt;
    behind = back (λ m. past ≤ m.clock) covers.behind s.marked covers.behind_marked;
    behind_marked = tt;
  }
    where
      back : (Is : Machine → Type 0) → Is s.now → (marked : Option Machine) → IfSome marked Is → Is (marked_or s.now marked)
      back Is now None none = now
      back Is now (Some m) there = there

  pub covers_account : (account : Account) → CoversBatch has past (on_now (λ m. with_account m account) s)
  unfolding rows_for
  covers_account account = record { now = covers.now; marked = covers.marked; behind = covers.behind; behind_marked = covers.behind_marked }

  pub covers_failed : (id : ℕ) → CoversBatch has past (on_now (λ m. with_failed m id) s)
  unfolding rows_for
  covers_failed id = record { now = covers.now; marked = covers.marked; behind = covers.behind; behind_marked = covers.behind_marked }

  -- where a set has grown with the machine now, it covers the machine at the mark as before
  pub covers_marked : (more : DueTest) → ((key : ℕ × ℕ) → IsTrue (has key) → IsTrue (more key)) → IfSome s.marked (Covers more)
  covers_marked more grows = there s.marked covers.marked
    where
      there : (marked : Option Machine) → IfSome marked (Covers has) → IfSome marked (Covers more)
      there None none = none
      there (Some m) had = All-weaker (IsCovered has) (IsCovered more) (λ row own due is_open is_due. grows (due, row.transfer) (own due is_open is_due)) (rows_for 3 m).statuses had

-- what is open at a later clock was open before
open_before : (posted voided before after : Bool) → (before ≡ true → after ≡ true) → (if posted then Posted else if voided then Voided else if after then Expired else Open) ≡ Open
    → (if posted then Posted else if voided then Voided else if before then Expired else Open) ≡ Open
open_before true voided before after come is = absurd (cc)
open_before false true before after come is = absurd (cc)
open_before false false false after come is = refl
open_before false false true after come is = absurd (let e = come refl in let f = rw e at is in cc)

come_after : (due : Option ℕ) (before after : ℕ) → before ≤ after → has_come due before ≡ true → has_come due after ≡ true
come_after None before after later come = come
come_after (Some due) before after later come = grind (arith, nat_tests)

module _ (has : DueTest) (m : Machine) (clock : ℕ) (later : m.clock ≤ clock) where
  later_rows : (pending : List Transfer) → All (IsCovered has) (map (status_row m) pending) → All (IsCovered has) (map (status_row (at_clock m clock)) pending)
  later_rows [] covers = All-nil (IsCovered has)
  later_rows (t ∷ pending) covers =
      let first = All-head (IsCovered has) (status_row m t) (map (status_row m) pending) covers in
      All-cons (IsCovered has) (status_row (at_clock m clock) t) (map (status_row (at_clock m clock)) pending)
      (λ due is_open is_due. first due (open_before (list_any (posts t.id) m.transfers) (list_any (voids t.id) m.transfers) (is_due_at m.clock t) (is_due_at clock t) (come_after (due_of t) m.clock clock later) is_open) is_due)
      (later_rows pending (All-tail (IsCovered has) (status_row m t) (map (status_row m) pending) covers))

  covers_later : Covers has m → Covers has (at_clock m clock)
  unfolding rows_for
  covers_later covers = later_rows (filter (λ (t : Transfer). is_pending t.flags) m.transfers) covers

pub covers_clock : (has : DueTest) (past : ℕ) (s : State) → CoversBatch has past s → (clock : ℕ) → s.now.clock ≤ clock → CoversBatch has past (on_now (λ m. at_clock m clock) s)
covers_clock has past s covers clock later = record {
  now = covers_later has s.now clock later covers.now;
  marked = covers.marked;
  behind = omega (arith, covers.behind, later);
  behind_marked = covers.behind_marked;
}

-- what a call leaves that made the set grow
pub grown : {X : Type 0} (r : Result X Unavailable) (Usable Is : Type 0) (has more : DueTest) (past : ℕ) (old new : State) (change : Machine → Machine) → ((m : Machine) → (change m).clock ≡ m.clock) → OnOk r Usable → (Is → OnOk r (new ≡ on_now change old))
    → (Is → OnOk r (Covers has old.now → Covers more new.now)) → ((key : ℕ × ℕ) → IsTrue (has key) → IsTrue (more key)) → (Is → CoversBatch has past old) → OnOk r (Usable × (Is → CoversBatch more past new))
grown (Ok x) Usable Is has more past old new change same usable state now grows covers = (
  usable,
  λ is. record {
    now = now is (covers is).now;
    marked = subst (λ (s : State). IfSome s.marked (Covers more)) (sym (state is)) (covers_marked has past old (covers is) more grows);
    behind = subst (λ (s : State). past ≤ s.now.clock) (sym (state is)) (subst (λ clock. past ≤ clock) (sym (same old.now)) (covers is).behind);
    behind_marked = subst (λ (s : State). IfSome s.marked (λ m. past ≤ m.clock)) (sym (state is)) (covers is).behind_marked;
  },
)
grown (Err e) Usable Is has more past old new change same usable state now grows covers = tt
