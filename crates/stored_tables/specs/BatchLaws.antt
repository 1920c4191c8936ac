-- The laws of a tenant's tables.
use Rattle.std.specs.Prelude.{◌≡◌, ℤ, refl}
use Rattle.std.proofs.Common.{inl, ◌∙◌, sym, subst, arith}
use Rattle.records.specs.Valid.{IsValid}
use Rattle.sqlite.specs.Effect.{Database}
use Rattle.sqlite.specs.State.{State, HasCleanDisk}
use Rattle.sqlite.proofs.StateLemmas.{survives_then}
use Rattle.ledger_sql.specs.Frames.{Live, Follows}
use Rattle.sqlite_trees.specs.Tree.{Trees}
use Rattle.stored_tables.specs.Frames.{KeepsRows, KeepsOtherTenants}
use Rattle.stored_tables.specs.InBatch.{HoldsOwn, KeepsRest, IsBatchOf, FollowsInBatch}
use Rattle.stored_tables.specs.InBatch.{IsInOwnBatch, shown}

-- no call at all is a run of calls
pub follows_itself : (a : State) → Follows a a
follows_itself a = record {
  survives = record {
    clean = omega arith;
    shield = λ shielded. shielded;
    counts = omega arith;
    limit = refl;
    closes = λ clean is_open. inl is_open;
    crash = λ clean db may. inl may;
  };
  live = λ live. live.1;
  committed = λ live. refl;
  unmarked = λ live none. none;
}

-- a disk that has been honest so far was so before, and a store that is live
pub clean_before : (a b : State) → Follows a b → HasCleanDisk b → HasCleanDisk a
clean_before a b f clean = omega (arith, f.survives.clean, clean)

pub live_before : (a b : State) → Follows a b → Live b → Live a
live_before a b f live = (clean_before a b f live.0, f.live live)

-- a run of calls behind another is a run of calls
pub follows_then : (a b c : State) → Follows a b → Follows b c → Follows a c
follows_then a b c f g = record {
  survives =
      survives_then a b c (λ _. ⊥) (λ _. ⊥) (λ _. ⊥) (λ _ db none. none) (λ _ db none. none)
      f.survives g.survives;
  live = λ live. f.live (live_before b c g live);
  committed = λ live. g.committed live ∙ f.committed (live_before b c g live);
  unmarked = λ live was. g.unmarked live (f.unmarked (live_before b c g live) was);
}

-- all rows are as they are
pub keeps_itself : (tenant : ℤ) (trees : Trees) → KeepsRows tenant trees trees
keeps_itself tenant trees = record {
  clock = refl;
  accounts = refl;
  transfers = refl;
  balances = refl;
  statuses = refl;
  history = refl;
  failed = refl;
}

pub others_itself : (tenant : ℤ) (trees : Trees) → KeepsOtherTenants tenant trees trees
others_itself tenant trees = record {
  version = refl;
  directory = refl;
  others = λ other differs. keeps_itself other trees;
}

keeps_then :
    (tenant : ℤ) (a b c : Trees) → KeepsRows tenant a b → KeepsRows tenant b c →
    KeepsRows tenant a c
keeps_then tenant a b c f g = record {
  clock = g.clock ∙ f.clock;
  accounts = g.accounts ∙ f.accounts;
  transfers = g.transfers ∙ f.transfers;
  balances = g.balances ∙ f.balances;
  statuses = g.statuses ∙ f.statuses;
  history = g.history ∙ f.history;
  failed = g.failed ∙ f.failed;
}

keeps_back : (tenant : ℤ) (a b : Trees) → KeepsRows tenant a b → KeepsRows tenant b a
keeps_back tenant a b f = record {
  clock = sym f.clock;
  accounts = sym f.accounts;
  transfers = sym f.transfers;
  balances = sym f.balances;
  statuses = sym f.statuses;
  history = sym f.history;
  failed = sym f.failed;
}

-- what stays over two calls in turn stays over both
pub others_then :
    (tenant : ℤ) (a b c : Trees) → KeepsOtherTenants tenant a b → KeepsOtherTenants tenant b c →
    KeepsOtherTenants tenant a c
others_then tenant a b c f g = record {
  version = g.version ∙ f.version;
  directory = g.directory ∙ f.directory;
  others = λ u ne. keeps_then u a b c (f.others u ne) (g.others u ne);
}

-- the rest of a database is as it is
pub rest_itself : (tenant : ℤ) (db : Database) → KeepsRest tenant db db
rest_itself tenant db = record {
  schema = refl;
  others = others_itself tenant db.trees;
  strangers = refl;
}

pub rest_then :
    (tenant : ℤ) (a b c : Database) → KeepsRest tenant a b → KeepsRest tenant b c →
    KeepsRest tenant a c
rest_then tenant a b c f g = record {
  schema = g.schema ∙ f.schema;
  others = others_then tenant a.trees b.trees c.trees f.others g.others;
  strangers = g.strangers ∙ f.strangers;
}

pub rest_back : (tenant : ℤ) (a b : Database) → KeepsRest tenant a b → KeepsRest tenant b a
rest_back tenant a b f = record {
  schema = sym f.schema;
  others = record {
    version = sym f.others.version;
    directory = sym f.others.directory;
    others = λ u ne. keeps_back u a.trees b.trees (f.others.others u ne);
  };
  strangers = sym f.strangers;
}

-- what the tenant has, and all else as it was, is what a batch has made
pub batch_of :
    (tenant : ℤ) (begun now : Database) → HoldsOwn tenant now → KeepsRest tenant begun now →
    IsBatchOf tenant begun now
batch_of tenant begun now own rest = record {
  ledger = own.ledger;
  schema = rest.schema;
  numbered = own.numbered;
  holds = own.holds;
  others = rest.others;
  strangers = rest.strangers;
}

-- no call at all is a run of calls in a batch
pub calls_itself : (tenant : ℤ) (a : State) → FollowsInBatch tenant a a
calls_itself tenant a = record {
  calls = follows_itself a;
  inside = λ live mode. (mode, rest_itself tenant a.now);
}

-- and a run of calls behind another is one
pub calls_then :
    (tenant : ℤ) (a b c : State) → FollowsInBatch tenant a b → FollowsInBatch tenant b c →
    FollowsInBatch tenant a c
calls_then tenant a b c f g = record {
  calls = follows_then a b c f.calls g.calls;
  inside = λ live mode.
      let last = g.inside live mode in
      let first = f.inside (live_before b c g.calls live) last.0 in
      (first.0, rest_then tenant a.now b.now c.now first.1 last.1);
}

-- so it is where the second run tells its tenant anew
pub calls_then_for :
    (tenant same : ℤ) (a b c : State) → same ≡ tenant → FollowsInBatch tenant a b →
    FollowsInBatch same b c → FollowsInBatch tenant a c
calls_then_for tenant same a b c is f g =
    calls_then tenant a b c f (subst (λ (t : ℤ). FollowsInBatch t b c) is g)

-- live tables that may be called hold a valid machine
pub valid_now :
    (tenant : ℤ) (s : State) → Live s → IsInOwnBatch tenant s → IsValid (shown tenant s).now
unfolding shown
valid_now tenant s live usable = (usable live.0).now.holds.valid
