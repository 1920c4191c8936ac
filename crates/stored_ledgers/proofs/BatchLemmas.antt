-- A tenant's batch in an open transaction, and the set of due times beside it.
use Rattle.std.proofs.Common.{◌≡◌, ◌≤◌, ℕ, ℤ, None, inl, List, [], ◌∷◌, IfSome, refl, sym, ap, subst, ◌∙◌, arith}
use Rattle.std.specs.BTreeSet.{contains, IsSubset}
use Rattle.records.specs.Machine.{Machine}
use Rattle.sqlite.specs.State.{State, Savepoint}
use Rattle.chain.specs.Tables.{State as Meant}
use Rattle.ledger_sql.specs.Frames.{Live}
use Rattle.stored_tables.specs.BatchLaws.{batch_of}
use Rattle.stored_tables.specs.Covers.{CoversBatch, Covers, DueTest}
use Rattle.stored_tables.specs.InBatch.{IsInBatchOf, IsInOwnBatch, FollowsInBatch, shown, marked_in}
use Rattle.stored_tables.specs.MachineOf.{machine_of}
use Rattle.stored_ledgers.specs.DueSets.{DueSet, due_cmp, CoversMachine}
use Rattle.stored_ledgers.specs.Outcomes.{IsWorkable, HasWorkedHere}
use Rattle.stored_ledgers.specs.declared.working.Past.{Past}

-- a transaction in which a tenant can be worked for is its batch
pub workable_batch : (tenant : ℤ) (set : DueSet) (s : State) → IsWorkable tenant set s
    → IsInBatchOf tenant s
workable_batch tenant set s workable = record {
  is_open = workable.is_open;
  mode = workable.mode;
  now = record {
    ledger = workable.can.ledger;
    numbered = workable.can.numbered;
    holds = workable.can.holds;
  };
  marks = inl workable.unmarked;
}

-- where no mark is open, none is shown
pub shown_unmarked : (tenant : ℤ) (s : State) → s.marks ≡ [] → (shown tenant s).marked ≡ None
unfolding shown
shown_unmarked tenant s unmarked = ap (marked_in tenant) unmarked

-- and where none is shown, none is open
no_marks : (tenant : ℤ) (s : State) → (shown tenant s).marked ≡ None → s.marks ≡ []
unfolding shown
no_marks tenant s none = of s.marks none
  where
    of : (marks : List Savepoint) → marked_in tenant marks ≡ None → marks ≡ []
    of [] none = refl
    of (mark ∷ marks) some = absurd (cc)

-- a set that covers the machine covers the batch, at whose beginning no clock is asked for
pub covers_start : (set : DueSet) (tenant : ℤ) (s : State) → s.marks ≡ []
    → CoversMachine set (machine_of tenant s.now.trees)
    → CoversBatch (contains due_cmp set) 0 (shown tenant s)
unfolding shown
covers_start set tenant s unmarked covered =
    let none = sym (shown_unmarked tenant s unmarked) in record {
      now = covered.all;
      marked = subst (λ marked. IfSome marked (Covers (contains due_cmp set))) none tt;
      behind = omega arith;
      behind_marked = subst (λ marked. IfSome marked (λ (m : Machine). 0 ≤ m.clock)) none tt;
    }

-- so it does behind the clock that was read
pub covers_from : (has : DueTest) (from : ℕ) (before now : Meant) (clock : ℕ) → now ≡ before
    → clock ≡ before.now.clock → before.marked ≡ None → CoversBatch has from now
    → CoversBatch has clock now
covers_from has from before now clock same is unmarked covered = record {
  now = covered.now;
  marked = covered.marked;
  behind = subst (λ (s : Meant). clock ≤ s.now.clock) (sym same) (omega (arith, is));
  behind_marked = subst (λ (s : Meant). IfSome s.marked (λ (m : Machine). clock ≤ m.clock)) (sym same)
      (subst (λ marked. IfSome marked (λ (m : Machine). clock ≤ m.clock)) (sym unmarked) tt);
}

-- a set that has more covers what the smaller one covers
pub covers_more : (small large : DueSet) (m : Machine) → IsSubset due_cmp small large
    → CoversMachine small m → CoversMachine large m
covers_more small large m more covered =
    record { all = λ k d below due is_open is. more _ (covered.all k d below due is_open is) }

-- what the tables mean of the work, in the rows: the tenant that they name is the same throughout
pub has_worked :
    {O : Type 0} (gives : Machine → O → Machine → Type 0) (tenant tenant1 tenant2 : ℤ) (set : DueSet)
    (old read new : State) (output : O) (past : Past) (clock : ℕ) → tenant1 ≡ tenant
    → tenant2 ≡ tenant1 → past.tenant.0 ≡ tenant → clock ≡ past.clock → Live new
    → shown tenant1 read ≡ shown tenant old → past.clock ≡ (shown tenant old).now.clock
    → FollowsInBatch tenant old new
    → gives (shown tenant1 read).now output (shown tenant2 new).now
    → IsInOwnBatch tenant2 new
    × (Live new → CoversBatch (contains due_cmp set) clock (shown tenant2 new))
    → (shown tenant2 new).marked ≡ None → HasWorkedHere gives tenant set old new output past
unfolding shown
has_worked gives tenant tenant1 tenant2 set old read new output past clock one two whose at live same was follows given usable unmarked =
    let to = two ∙ one in
    let holds = subst
    (λ t. IsInOwnBatch t new × (Live new → CoversBatch (contains due_cmp set) clock (shown t new)))
    to usable in
    let batch = holds.0 live.0 in
    let covers = holds.1 live in record {
      worked = record {
        given = subst (λ m. gives m output (machine_of tenant new.now.trees))
            (ap (λ (s : Meant). s.now) same)
            (subst (λ t. gives (machine_of tenant1 read.now.trees) output (machine_of t new.now.trees))
            to given);
        batch = batch_of tenant old.now new.now batch.now (follows.inside live batch.mode).1;
        covered = record { all = covers.now };
      };
      is_open = batch.is_open;
      mode = batch.mode;
      unmarked = no_marks tenant new (subst (λ t. (shown t new).marked ≡ None) to unmarked);
      whose = whose;
      was = was;
      later = subst (λ p. p ≤ (machine_of tenant new.now.trees).clock) at covers.behind;
    }
