-- What every run of calls in a round keeps, and what a round holds.
use Rattle.std.proofs.Common.{◌≡◌, List, ℤ, Option, Some, None, option_map, refl, subst, ◌∙◌}
use Rattle.records.specs.declared.unavailable.Unavailable.{Unavailable}
use Rattle.records.specs.Valid.{IsValid}
use Rattle.chain.specs.Ledgers.{AreValid}
use Rattle.sqlite.specs.Effect.{Database}
use Rattle.sqlite.specs.State.{State}
use Rattle.ledger_sql.specs.Frames.{Live}
use Rattle.stored_tables.specs.BatchLaws.{follows_itself, follows_then, live_before}
use Rattle.stored_tables.specs.MachineOf.{machine_of}
use Rattle.stored_ledgers.specs.Directory.{number_of, tenants_in}
use Rattle.stored_ledgers.specs.DueSets.{DueSets}
use Rattle.stored_ledgers.specs.Ledger.{HoldsLedgers}
use Rattle.stored_ledgers.specs.declared.working.Past.{Past}
use Rattle.stored_ledgers.specs.Rounds.{CanGoOn, FollowsHere, FollowsInRound}

-- the machines of a database that holds ledgers are valid
pub valid_in : (db : Database) → HoldsLedgers db → AreValid (tenants_in db.trees)
valid_in db holds digest m is = of (number_of digest db.trees) refl is
  where
    of : (found : Option ℤ) → number_of digest db.trees ≡ found
        → option_map (λ number. machine_of number db.trees) found ≡ Some m → IsValid m
    of None found none = absurd (cc)
    of (Some number) found some =
        let same : machine_of number db.trees ≡ m = cc in
        subst IsValid same (holds.machines digest number found).valid

-- so are those of a round that may go on
pub valid_here : (failure : Option Unavailable) (sets : DueSets) (pasts : List Past) (s : State)
    → (failure ≡ None) × Live s → CanGoOn failure sets pasts s → AreValid (tenants_in s.now.trees)
valid_here failure sets pasts s live goes =
    valid_in s.now (goes live.0 live.1.0).0.serves.ledgers

-- no call at all is a run of calls
pub here_itself : (a : State) → FollowsHere a a
here_itself a = record {
  calls = follows_itself a;
  inside = λ live mode. (mode, record { schema = refl; directory = refl; strangers = refl });
}

-- and a run of calls behind another is one
pub here_then : (a b c : State) → FollowsHere a b → FollowsHere b c → FollowsHere a c
here_then a b c f g = record {
  calls = follows_then a b c f.calls g.calls;
  inside = λ live mode.
      let last = g.inside live mode in
      let first = f.inside (live_before b c g.calls live) last.0 in (
        first.0,
        record {
          schema = last.1.schema ∙ first.1.schema;
          directory = last.1.directory ∙ first.1.directory;
          strangers = last.1.strangers ∙ first.1.strangers;
        },
      );
}

pub round_itself : (sets : DueSets) (failure : Option Unavailable) (a : State)
    → FollowsInRound sets sets failure failure a a
round_itself sets failure a = record {
  here = here_itself a;
  unfailed = λ none. none;
  failed = λ disk. disk;
  grows = λ trees covered. covered;
}

pub round_then : (sets1 sets2 sets3 : DueSets) (failure1 failure2 failure3 : Option Unavailable)
    (a b c : State) → FollowsInRound sets1 sets2 failure1 failure2 a b
    → FollowsInRound sets2 sets3 failure2 failure3 b c
    → FollowsInRound sets1 sets3 failure1 failure3 a c
round_then sets1 sets2 sets3 failure1 failure2 failure3 a b c f g = record {
  here = here_then a b c f.here g.here;
  unfailed = λ none. f.unfailed (g.unfailed none);
  failed = λ disk. g.failed (f.failed disk);
  grows = λ trees covered. g.grows trees (f.grows trees covered);
}

-- a round that is live was so before
pub round_lived : (sets sets' : DueSets) (failure failure' : Option Unavailable) (a b : State)
    → FollowsInRound sets sets' failure failure' a b → (failure' ≡ None) × Live b
    → (failure ≡ None) × Live a
round_lived sets sets' failure failure' a b f live =
    (f.unfailed live.0, live_before a b f.here.calls live.1)
