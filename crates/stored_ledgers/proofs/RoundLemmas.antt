-- What a round holds, and what is told of it behind its commit.
use Rattle.std.proofs.Common.{◌≡◌, List, [], sym, subst, arith}
use Rattle.chain.specs.Ledgers.{Tenants}
use Rattle.sqlite.specs.Effect.{Database}
use Rattle.sqlite.specs.State.{State, Survives}
use Rattle.sqlite.proofs.StateLemmas.{survives_weaker}
use Rattle.sqlite_trees.specs.Tree.{Trees}
use Rattle.stored_ledgers.specs.Directory.{tenants_in}
use Rattle.stored_ledgers.specs.DueSets.{DueSets}
use Rattle.stored_ledgers.specs.Ledger.{HoldsLedgers}
use Rattle.stored_ledgers.specs.Outcomes.{ArePast, KeepsTables}
use Rattle.stored_ledgers.specs.Resting.{CanServe}
use Rattle.stored_ledgers.specs.Rounds.{GrowsSets, IsInRound, IsRoundDone, IsAfterRound}
use Rattle.stored_ledgers.specs.Transactions.{HasOnlyBegun, MayLeave}
use Rattle.stored_ledgers.specs.declared.working.Past.{Past}
use Rattle.stored_ledgers.specs.declared.rounds.RoundDone.{RoundDone}

-- a transaction that has begun is a round
pub begun_round : (sets : DueSets) (s : State) → HasOnlyBegun (CanServe sets) s → IsInRound sets s
begun_round sets s begun = record {
  is_open = begun.is_open;
  mode = begun.mode;
  unmarked = begun.unmarked;
  serves = begun.needs;
}

-- sets that have grown still serve what they served
pub still_serves : (sets sets' : DueSets) (db : Database) → GrowsSets sets sets' → CanServe sets db
    → CanServe sets' db
still_serves sets sets' db grows serves =
    record { ledgers = serves.ledgers; covered = grows db.trees serves.covered }

-- no moment at all is one that clocks have behind them
pub none_past : (pasts : List Past) (trees : Trees) → pasts ≡ [] → ArePast pasts trees
none_past pasts trees none =
    subst (λ (all : List Past). ArePast all trees) (sym none) (λ k d below. absurd (omega (arith, below)))

-- what a round may leave in the files is the database after the whole of it
left_round : {O : Type 0} (gives : Tenants → O → Tenants → Type 0) (old : Database) (trees : Trees)
    → MayLeave (λ (done : RoundDone O) sets new.
    IsRoundDone gives old new done.output done.pasts.items × CanServe sets new) trees
    → IsAfterRound gives old trees
left_round gives old trees left =
    let done = left.done.0 in
    let same : left.after ≡ record { schema = old.schema; trees = trees } =
    λ i. record { schema = done.keeps.schema i; trees = sym left.is i } in record {
      ledgers = subst HoldsLedgers same left.done.1.ledgers;
      keeps = subst (KeepsTables old) same done.keeps;
      output = left.output.output;
      done = subst (λ t. gives (tenants_in old.trees) left.output.output (tenants_in t))
          (sym left.is) done.done;
    }

pub after_round : {O : Type 0} (gives : Tenants → O → Tenants → Type 0) (old new : State)
    → Survives old new (MayLeave (λ (done : RoundDone O) sets now.
    IsRoundDone gives old.now now done.output done.pasts.items × CanServe sets now))
    → Survives old new (IsAfterRound gives old.now)
after_round gives old new survives =
    survives_weaker _ _ _ _ (λ clean trees left. left_round gives old.now trees left) survives
