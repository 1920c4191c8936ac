-- What a call on a ledger's tables leaves of a batch over them.
use Rattle.std.proofs.Common.{◌≡◌, ℕ, Result, Ok, Err, OnOk, refl}
use Rattle.std.specs.BTreeSet.{contains}
use Rattle.std.specs.declared.cmp.Ordering.{Ordering}
use Rattle.records.specs.declared.unavailable.Unavailable.{Unavailable}
use Rattle.records.specs.Machine.{Machine}
use Rattle.chain.specs.Tables.{State as Meant, Meaning, Leaves, LooksUp}
use Rattle.sqlite.specs.State.{State, HasCleanDisk}
use Rattle.ledger_sql.specs.Frames.{Live, Follows}
use Rattle.stored_tables.specs.declared.batch.Batch.{Batch}
use Rattle.stored_tables.specs.BatchLaws.{live_before}
use Rattle.stored_tables.specs.Covers.{CoversBatch}
use Rattle.stored_tables.specs.Idle.{LearnsOf}
use Rattle.stored_tables.specs.InBatch.{shown}
use Rattle.stored_tables.specs.Meaning.{batch_meaning, tables_meaning, HandsOn}
use Rattle.stored_tables.proofs.Covering.{covered}
use Rattle.stored_tables.proofs.Keeping.{leaves_or_over, looks_up}

module _ {T X : Type 0} (state : T → State) (cmp : ℕ × ℕ → ℕ × ℕ → Ordering) (batch : Batch T) (new : T) (result : Result X Unavailable) where
  -- the due times in memory stay, and cover what the call leaves
  pub tables_left : (change : Meant → Meant) → Leaves (batch_meaning state batch.tenant.0) batch.tables.now new result change
      → (Live (state batch.tables.now) → CoversBatch (contains cmp batch.due.now) batch.past (change (shown batch.tenant.0 (state batch.tables.now))))
      → Leaves (tables_meaning state cmp) batch (record batch { tables = record batch.tables { now = new } }) result change
  tables_left change leaves covers = record {
    state = leaves.state;
    usable = covered result _ _ _ _ _ _ leaves.usable leaves.state (λ live. covers (live_before (state batch.tables.now) (state new) leaves.follows.calls live));
    undone = leaves.undone;
    follows = (refl, refl, refl, λ key has. has, leaves.follows, refl);
  }

  -- a call that leaves the tenant's batch so where it did not fail, and gives up where it failed
  pub tables_or_over : (change : Meant → Meant) (mid : T) (Is : Type 0) (given : Result X Unavailable) → Follows (state batch.tables.now) (state mid) → (HasCleanDisk (state mid) → OnOk given Is) → HandsOn state given mid new result
      → ((x : X) → (HasCleanDisk (state mid) → Is) → Leaves {S = T} {X = X} (batch_meaning state batch.tenant.0) batch.tables.now mid (Ok x) change)
      → (Live (state batch.tables.now) → CoversBatch (contains cmp batch.due.now) batch.past (change (shown batch.tenant.0 (state batch.tables.now))))
      → Leaves (tables_meaning state cmp) batch (record batch { tables = record batch.tables { now = new } }) result change
  tables_or_over change mid Is given follows ok hands left covers = tables_left change (leaves_or_over state batch.tenant.0 batch.tables.now mid new change Is given result follows ok hands left) covers

  -- a call that tells of the machine what is so, and gives up where it failed
  pub tables_looked_up : (mid : T) (IsSo : Machine → X → Type 0) (given : Result X Unavailable) → (tables_meaning state cmp).is_usable batch
      → LearnsOf batch.tenant.0 IsSo (state batch.tables.now) (state mid) given → HandsOn state given mid new result → LooksUp (tables_meaning state cmp) IsSo batch (record batch { tables = record batch.tables { now = new } }) result
  tables_looked_up mid IsSo given usable learns hands =
      let told = looks_up state batch.tenant.0 batch.tables.now mid new IsSo given result usable.0 learns hands in
      record { value = told.value; leaves = tables_left (λ s. s) told.leaves usable.1 }

module _ {T X Y : Type 0} (t : Meaning T) (a b : T) (IsSo : Machine → X → Type 0) (Is : Machine → Y → Type 0) where
  -- what is told of an answer tells of what is made of it
  pub told_more : (x : X) (y : Y) → ((m : Machine) → IsSo m x → Is m y) → LooksUp t IsSo a b (Ok x) → LooksUp t Is a b (Ok y)
  told_more x y tells told = record {
    value = λ live. tells (t.state a).now (told.value live);
    leaves = record { state = told.leaves.state; usable = told.leaves.usable; undone = λ live. tt; follows = told.leaves.follows };
  }

  -- a look-up that failed tells nothing
  pub told_none : (r : Result X Unavailable) (s : Result Y Unavailable) → LooksUp t IsSo a b r → (why : Unavailable) → r ≡ Err why → s ≡ Err why → LooksUp t Is a b s
  told_none (Ok x) s told why is fails = absurd (cc)
  told_none (Err e) (Ok y) told why is fails = absurd (cc)
  told_none (Err e) (Err f) told why is fails = record {
    value = λ live. tt;
    leaves = record { state = λ live. tt; usable = tt; undone = told.leaves.undone; follows = told.leaves.follows };
  }
