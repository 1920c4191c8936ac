-- What a call leaves that changes nothing, and one that gives up.
use Rattle.std.proofs.Common.{◌≡◌, ℤ, List, true, false, IsTrue, Ok, Err, Result, IfOk, OnOk, sym, ap, subst, subst₂, ◌∙◌}
use Rattle.std.proofs.lemmas.Result.{IfOk-weaker}
use Rattle.records.specs.declared.unavailable.Unavailable.{Unavailable}
use Rattle.records.specs.Machine.{Machine}
use Rattle.chain.specs.Tables.{State as Meant, Leaves, LooksUp, same}
use Rattle.sqlite.specs.Effect.{Database}
use Rattle.sqlite.specs.State.{State, Savepoint, HasCleanDisk, IsUnchanged}
use Rattle.sqlite_trees.specs.Tree.{Trees}
use Rattle.ledger_sql.specs.Calls.{LeavesOver, LeavesChanged, LeavesFound, LeavesLearnt, OverLedger}
use Rattle.ledger_sql.specs.Effects.{IsLedger}
use Rattle.ledger_sql.specs.Frames.{Live, Follows}
use Rattle.stored_tables.specs.BatchLaws.{clean_before, live_before, follows_then, rest_itself}
use Rattle.stored_tables.specs.Holds.{HoldsMachine}
use Rattle.stored_tables.specs.InBatch.{HoldsOwn, KeepsRest, IsInBatchOf, AreMarks, IsInOwnBatch, shown, marked_in}
use Rattle.stored_tables.specs.Idle.{HoldsTenant, LearnsOf}
use Rattle.stored_tables.specs.MachineOf.{machine_of}
use Rattle.stored_tables.specs.Meaning.{batch_meaning, EndsIfFailed, HandsOn}

-- after a call that gave up the tenant has the machine of the beginning
pub undone : (tenant : ℤ) (old mid new : State) → Follows old mid → LeavesOver mid new → Live new → (shown tenant new).now ≡ (shown tenant old).begun
unfolding shown
undone tenant old mid new f end live =
    ap (λ db. machine_of tenant db.trees) ((end.over live).now ∙ f.committed (live_before mid new end.follows live))

-- the machine now, the database at the beginning and the marks are all that is shown
pub shown_is : (tenant : ℤ) (s : State) (m : Machine) (begun : Database) (marks : List Savepoint) → machine_of tenant s.now.trees ≡ m → s.committed ≡ begun → s.marks ≡ marks
    → shown tenant s ≡ record { now = m; begun = machine_of tenant begun.trees; marked = marked_in tenant marks }
unfolding shown
shown_is tenant s m begun marks now_is begun_is marks_are = λ i. record { now = now_is i; begun = machine_of tenant (begun_is i).trees; marked = marked_in tenant (marks_are i) }

-- where nothing changed, the machines are the same
pub same_shown : (tenant : ℤ) (old new : State) → IsUnchanged old new → shown tenant new ≡ shown tenant old
unfolding shown
same_shown tenant old new is = shown_is tenant new _ old.committed old.marks (ap (λ (db : Database). machine_of tenant db.trees) is.0.now_is) is.0.committed_is is.2

-- and so is the batch
pub same_batch : (tenant : ℤ) (old new : State) → IsUnchanged old new → IsInBatchOf tenant old → IsInBatchOf tenant new
same_batch tenant old new is was = record {
  is_open = is.0.is_open;
  mode = is.0.mode ∙ was.mode;
  now = subst (HoldsOwn tenant) (sym is.0.now_is) was.now;
  marks = subst₂ (AreMarks tenant) (sym is.0.now_is) (sym is.2) was.marks;
}

-- and all else
pub same_rest : (tenant : ℤ) (old new : State) → IsUnchanged old new → IsTrue new.in_transaction → IsTrue old.in_transaction × KeepsRest tenant old.now new.now
same_rest tenant old new is mode = (sym is.0.mode ∙ mode, subst (KeepsRest tenant old.now) (sym is.0.now_is) (rest_itself tenant old.now))

module _ {T : Type 0} (state : T → State) (tenant : ℤ) (old new : T) where
  pub reads : {X : Type 0} (x : X) → IsInOwnBatch tenant (state old) → Follows (state old) (state new) → (HasCleanDisk (state new) → IsUnchanged (state old) (state new))
      → Leaves {S = T} {X = X} (batch_meaning state tenant) old new (Ok x) same
  reads x usable follows is = record {
    state = λ live. same_shown tenant (state old) (state new) (is live.0);
    usable = λ clean. same_batch tenant (state old) (state new) (is clean) (usable (clean_before _ _ follows clean));
    undone = λ live. tt;
    follows = record { calls = follows; inside = λ live. same_rest tenant (state old) (state new) (is live.0) };
  }

  pub gives_up : {X : Type 0} (mid : T) (cause : Unavailable) (change : Meant → Meant) → Follows (state old) (state mid) → LeavesOver (state mid) (state new)
      → Leaves {S = T} {X = X} (batch_meaning state tenant) old new (Err cause) change
  gives_up mid cause change f end = record {
    state = λ live. tt;
    usable = tt;
    undone = undone tenant (state old) (state mid) (state new) f end;
    follows = record {
      calls = follows_then (state old) (state mid) (state new) f end.follows;
      inside = λ live mode. absurd (let e : false ≡ true = sym (end.over live).mode ∙ mode in cc);
    };
  }

  -- before a call the tables were a ledger's, with the rows of the tenant's machine
  pub tenant_before : IsInOwnBatch tenant (state old) → Follows (state old) (state new) → HasCleanDisk (state new) → HoldsTenant tenant (state old)
  tenant_before usable follows clean =
      let batch = usable (clean_before _ _ follows clean) in
      record { schema = batch.now.ledger; holds = batch.now.holds }

  pub held_before : IsInOwnBatch tenant (state old) → Follows (state old) (state new) → Live (state new)
      → HoldsMachine tenant (shown tenant (state old)).now (state old).now.trees
  unfolding shown
  held_before usable follows live = (usable (clean_before _ _ follows live.0)).now.holds

-- where nothing changed, the tenant has the rows of its machine still
pub still_holds : (tenant : ℤ) (old new : State) → IsUnchanged old new → HoldsTenant tenant old → HoldsTenant tenant new
still_holds tenant old new is had = record {
  schema = subst (λ (db : Database). IsLedger db.schema) (sym is.0.now_is) had.schema;
  holds = subst (λ (db : Database). HoldsMachine tenant (machine_of tenant db.trees) db.trees) (sym is.0.now_is) had.holds;
}

-- a call that tells of the machine what is so, and gives up where it failed
pub looks_up : {T X : Type 0} (state : T → State) (tenant : ℤ) (old mid new : T) (IsSo : Machine → X → Type 0) (given result : Result X Unavailable) → IsInOwnBatch tenant (state old)
    → LearnsOf tenant IsSo (state old) (state mid) given → HandsOn state given mid new result → LooksUp (batch_meaning state tenant) IsSo old new result
unfolding shown
looks_up {T} {X} state tenant old mid new IsSo given result usable learns hands = subst (LooksUp (batch_meaning state tenant) IsSo old new) (sym hands.same) (at given learns hands.ends)
  where
    at : (given : Result X Unavailable) → LearnsOf tenant IsSo (state old) (state mid) given → EndsIfFailed state given mid new → LooksUp (batch_meaning state tenant) IsSo old new given
    at (Ok x) learns ends =
        subst (λ (end : T). LooksUp (batch_meaning state tenant) IsSo old end (Ok x)) (sym ends)
        (record {
          value = λ live. learns.ok live.0 (tenant_before state tenant old mid usable learns.reads.follows live.0);
          leaves = reads state tenant old mid x usable learns.reads.follows learns.reads.same;
        })
    at (Err e) learns ends = record { value = λ live. tt; leaves = gives_up state tenant old new mid e same learns.reads.follows ends }

-- a call that leaves such tables where it did not fail, and gives up where it failed
pub leaves_or_over : {T X : Type 0} (state : T → State) (tenant : ℤ) (old mid new : T) (change : Meant → Meant) (Is : Type 0) (given result : Result X Unavailable)
    → Follows (state old) (state mid) → (HasCleanDisk (state mid) → OnOk given Is) → HandsOn state given mid new result
    → ((x : X) → (HasCleanDisk (state mid) → Is) → Leaves {S = T} {X = X} (batch_meaning state tenant) old mid (Ok x) change)
    → Leaves {S = T} {X = X} (batch_meaning state tenant) old new result change
leaves_or_over {T} {X} state tenant old mid new change Is given result follows ok hands left = subst (λ (r : Result X Unavailable). Leaves {S = T} {X = X} (batch_meaning state tenant) old new r change) (sym hands.same) (at given ok hands.ends)
  where
    at : (given : Result X Unavailable) → (HasCleanDisk (state mid) → OnOk given Is) → EndsIfFailed state given mid new → Leaves {S = T} {X = X} (batch_meaning state tenant) old new given change
    at (Ok x) ok ends = subst (λ (end : T). Leaves {S = T} {X = X} (batch_meaning state tenant) old end (Ok x) change) (sym ends) (left x ok)
    at (Err e) ok ends = gives_up state tenant old new mid e change follows ends

module _ {T X : Type 0} (state : T → State) (tenant : ℤ) (old new : T) (Answer : Trees → X → Type 0) (IsSo : Machine → X → Type 0) (result : Result X Unavailable) where
  -- what is found in a ledger's tables tells of the tenant's machine
  pub found : (Fits : X → Type 0) → ((m : Machine) (trees : Trees) (x : X) → HoldsMachine tenant m trees → Fits x → Answer trees x → IsSo m x) → LeavesFound Fits Answer (state old) (state new) result
      → LearnsOf tenant IsSo (state old) (state new) result
  found Fits so finds = record {
    ok = λ clean tenant_there. at result finds.fits (finds.ok clean tenant_there.schema) tenant_there.holds;
    reads = finds.reads;
  }
    where
      at : (r : Result X Unavailable) → IfOk r Fits → IfOk r (Answer (state old).now.trees) → HoldsMachine tenant (machine_of tenant (state old).now.trees) (state old).now.trees → IfOk r (IsSo (machine_of tenant (state old).now.trees))
      at (Ok x) fits answer holds = so _ _ x holds fits answer
      at (Err e) fits answer holds = tt

  -- so does what is learnt of them
  pub learnt : ((m : Machine) (trees : Trees) (x : X) → HoldsMachine tenant m trees → Answer trees x → IsSo m x) → LeavesLearnt OverLedger Answer (state old) (state new) result → LearnsOf tenant IsSo (state old) (state new) result
  learnt so learns = record {
    ok = λ clean tenant_there. IfOk-weaker result (Answer (state old).now.trees) (IsSo (machine_of tenant (state old).now.trees)) (λ x. so (machine_of tenant (state old).now.trees) (state old).now.trees x tenant_there.holds) (learns.ok clean tenant_there.schema);
    reads = learns.reads;
  }

-- a call of several steps whose effect comes of what is so before it
pub changes : {T X : Type 0} (state : T → State) (old new : T) (result : Result X Unavailable) (Is : Type 0) (Effect : State → State → Type 0) → (HasCleanDisk (state old) → Is) → Follows (state old) (state new)
    → (Is → HasCleanDisk (state new) → OnOk result (Effect (state old) (state new))) → LeavesChanged Effect (state old) (state new) result
changes state old new result Is Effect is follows ok = record { ok = λ clean. ok (is (clean_before _ _ follows clean)) clean; follows = follows }

-- so it is over two steps
pub changes_twice : {T X : Type 0} (state : T → State) (old mid new : T) (result : Result X Unavailable) (Is : Type 0) (Effect : State → State → Type 0) → (HasCleanDisk (state old) → Is) → Follows (state old) (state mid)
    → Follows (state mid) (state new) → (Is → HasCleanDisk (state mid) → HasCleanDisk (state new) → OnOk result (Effect (state old) (state new))) → LeavesChanged Effect (state old) (state new) result
changes_twice state old mid new result Is Effect is first second ok =
    changes state old new result Is Effect is (follows_then (state old) (state mid) (state new) first second)
    (λ before clean. ok before (clean_before _ _ second clean) clean)
