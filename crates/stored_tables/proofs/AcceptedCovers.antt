-- The due times in memory cover the status rows with an accepted transfer.
use Rattle.std.proofs.Common.{◌≡◌, ℕ, Bool, true, false, eqb, cond, Option, Some, None, List, [], ◌∷◌, ◌++◌, IsTrue, sym, subst}
use Rattle.std.specs.List.{AllByRecursion}
use Rattle.std.specs.Prelude.{All}
use Rattle.std.proofs.lemmas.List.Elements.{recursion_from_All, All-from_recursion}
use Rattle.sqlite_trees.proofs.ListLemmas.{all-append, all_weaker}
use Rattle.records.specs.declared.accepted.Accepted.{Accepted}
use Rattle.records.specs.declared.accepted.Ending.{Ending}
use Rattle.records.specs.declared.accepted.Ending.TheVariants as how
use Rattle.records.specs.declared.facts.PendingState.{PendingState}
use Rattle.records.specs.declared.facts.PendingState.TheVariants.{Open, Posted, Voided}
use Rattle.records.specs.declared.transfer.Transfer.{Transfer}
use Rattle.records.specs.Due.{due_of}
use Rattle.records.specs.Flags.{is_pending}
use Rattle.records.specs.Machine.{Machine}
use Rattle.records.specs.Valid.{with_transfer}
use Rattle.chain.specs.Tables.{State, on_now}
use Rattle.rows.specs.declared.status_row.StatusRow.{StatusRow}
use Rattle.rows.specs.Changes.{with_accepted, set_state, ended, new_statuses}
use Rattle.rows.specs.Prescribed.{rows_for}
use Rattle.rows.specs.TypedRows.{TypedRows}
use Rattle.stored_tables.specs.Covers.{DueTest, IsCovered, Covers, HasDue}

module _ (had has : DueTest) (grows : (q : ℕ × ℕ) → IsTrue (had q) → IsTrue (has q)) where
  abbrev Covered : List StatusRow → Type 0
  Covered = AllByRecursion (IsCovered has)

  -- a row that is open no more needs no due time
  set_covered : (id : ℕ) (to : PendingState) → (to ≡ Open → ⊥) → (rows : List StatusRow) → Covered rows → Covered (set_state id to rows)
  set_covered id to over [] all = tt
  set_covered id to over (row ∷ rows) all = (at (eqb row.transfer id), set_covered id to over rows all.1)
    where
      at : (b : Bool) → IsCovered has (cond b (record row { state = to }) row)
      at true = λ due opens is. absurd (over opens)
      at false = all.0

  ended_covered : (ends : Option Ending) (rows : List StatusRow) → Covered rows → Covered (ended ends rows)
  ended_covered None rows all = all
  ended_covered (Some (how.Posted id)) rows all = set_covered id Posted (λ e. cc) rows all
  ended_covered (Some (how.Voided id)) rows all = set_covered id Voided (λ e. cc) rows all

  new_covered : (t : Transfer) → HasDue has t → Covered (new_statuses t)
  new_covered t kept = at (is_pending t.flags)
    where
      at : (b : Bool) → Covered (cond b (record { transfer = t.id; state = Open; due = due_of t } ∷ []) [])
      at true = (λ due opens is. kept due is, tt)
      at false = tt

  accepted_covered : (m after : Machine) (a : Accepted) → rows_for 3 after ≡ with_accepted a (rows_for 3 m) → HasDue has a.stored → Covers had m → Covers has after
  unfolding with_accepted
  accepted_covered m after a is kept covers =
      let all = all_weaker (IsCovered had) (IsCovered has) (λ row (c : IsCovered had row) due opens at. grows (due, row.transfer) (c due opens at)) (rows_for 3 m).statuses (recursion_from_All (IsCovered had) (rows_for 3 m).statuses covers) in
      subst (λ (rows : TypedRows). All (IsCovered has) rows.statuses) (sym is)
      (All-from_recursion (IsCovered has) (ended a.ends (rows_for 3 m).statuses ++ new_statuses a.stored)
      (all-append (IsCovered has) (ended a.ends (rows_for 3 m).statuses) (new_statuses a.stored) (ended_covered a.ends (rows_for 3 m).statuses all) (new_covered a.stored kept)))

  pub state_covered : (old new : State) (a : Accepted) → new ≡ on_now (λ m. with_transfer m a.stored) old → rows_for 3 (with_transfer old.now a.stored) ≡ with_accepted a (rows_for 3 old.now) → HasDue has a.stored → Covers had old.now → Covers has new.now
  state_covered old new a moved is kept covers = subst (λ (s : State). Covers has s.now) (sym moved) (accepted_covered old.now (with_transfer old.now a.stored) a is kept covers)
