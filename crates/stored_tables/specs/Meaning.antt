-- What a ledger's tables mean in a tenant's batch.
use Rattle.std.specs.Prelude.{◌≡◌, ℕ, ℤ, Result, Ok, Err}
use Rattle.std.specs.BTreeSet.{contains, IsSubset}
use Rattle.std.specs.declared.cmp.Ordering.{Ordering}
use Rattle.records.specs.declared.unavailable.Unavailable.{Unavailable}
use Rattle.chain.specs.Tables.{State as Meant, Meaning}
use Rattle.sqlite.specs.State.{State}
use Rattle.ledger_sql.specs.Calls.{LeavesOver}
use Rattle.ledger_sql.specs.Frames.{Live}
use Rattle.stored_tables.specs.declared.batch.Batch.{Batch}
use Rattle.stored_tables.specs.Covers.{CoversBatch}
use Rattle.stored_tables.specs.InBatch.{IsInOwnBatch, FollowsInBatch, shown}

-- the tenant's machines; calls are allowed inside the batch; nothing is committed, and all but the
-- tenant's rows stays
abbrev pub batch_meaning : {T : Type 0} → (T → State) → ℤ → Meaning T
batch_meaning state tenant = record {
  state = λ tables. shown tenant (state tables);
  is_usable = λ tables. IsInOwnBatch tenant (state tables);
  is_live = λ tables. Live (state tables);
  follows = λ old new. FollowsInBatch tenant (state old) (state new);
}

-- what a batch means: what its tables mean in it, while the due times in memory,
-- which only grow, cover it
abbrev pub tables_meaning :
    {T : Type 0} → (T → State) → (ℕ × ℕ → ℕ × ℕ → Ordering) → Meaning (Batch T)
tables_meaning state cmp = record {
  state = λ b. shown b.tenant.0 (state b.tables.now);
  is_usable = λ b.
      IsInOwnBatch b.tenant.0 (state b.tables.now)
      × (Live (state b.tables.now) →
      CoversBatch (contains cmp b.due.now) b.past (shown b.tenant.0 (state b.tables.now)));
  is_live = λ b. Live (state b.tables.now);
  follows = λ a b.
      (b.tables.ghost_name ≡ a.tables.ghost_name)
      × (b.due.ghost_name ≡ a.due.ghost_name)
      × (b.tenant ≡ a.tenant)
      × IsSubset cmp a.due.now b.due.now
      × FollowsInBatch a.tenant.0 (state a.tables.now) (state b.tables.now)
      × (b.past ≡ a.past);
}

-- calls are allowed, and where the tables are live this is so of their state
pub record MayCall {S : Type 0} (t : Meaning S) (IsSo : Meant → Type 0) (tables : S) : Type 0 where
  pub usable : t.is_usable tables
  pub so : t.is_live tables → IsSo (t.state tables)

-- a call that failed has ended the transaction, and one that did not has left it
abbrev pub EndsIfFailed : {T X : Type 0} → (T → State) → Result X Unavailable → T → T → Type 0
EndsIfFailed state (Ok x) old new = new ≡ old
EndsIfFailed state (Err cause) old new = LeavesOver (state old) (state new)

-- what a call gave is handed on, and where it failed the transaction is over
pub record HandsOn {T X : Type 0} (state : T → State) (given : Result X Unavailable)
    (old new : T) (result : Result X Unavailable) : Type 0 where
  pub same : result ≡ given
  pub ends : EndsIfFailed state given old new
