-- What a call leaves of tables over trees, in the words of a ledger's tables.
use Rattle.std.proofs.Common.{◌∙◌, arith, ◌≡◌, List, Result, Ok, Err, OnOk, IfSome, Option, Some, None, option_map, is_err, false, true≢false, sym}
use Rattle.sqlite.specs.State.{State, HasCleanDisk}
use Rattle.sqlite_trees.specs.Tree.{Trees}
use Rattle.keyed_trees.specs.Calls as call
use Rattle.keyed_trees.specs.Effects as effect
use Rattle.keyed_trees.specs.Frames as frame
use Rattle.sqlite_value.specs.Order.{Row}
use Rattle.sqlite.specs.State.{IsUnchanged}
use Rattle.sqlite.proofs.StateLemmas.{survives_then}
use Rattle.ledger_sql.specs.Calls.{LeavesRead, LeavesWritten, LeavesFound, AnyWidth}
use Rattle.ledger_sql.specs.Effects.{WritesInside, Picks}
use Rattle.ledger_sql.specs.Frames.{Follows, IsKeptOrUndone, Live}

pub follows : (old new : State) → frame.Follows old new → Follows old new
follows old new it = record { survives = it.survives; live = it.live; committed = it.committed; unmarked = it.unmarked }

-- a clause on an answer that is no error
pub when_ok : {A E P : Type 0} (r : Result A E) → false ≡ is_err r → OnOk r P → P
when_ok (Ok x) is it = it
when_ok (Err e) is it = absurd (true≢false (sym is))

-- a call that wrote
pub wrote : {E : Type 0} (Effect : State → State → Type 0) (old new : State) → (HasCleanDisk new → Effect old new) → frame.Follows old new → LeavesWritten {A = Unit {0}} {E = E} Effect old new (Ok tt)
wrote Effect old new effect it = record { ok = effect; err = λ clean. tt; follows = follows old new it }

pub any_width : {A : Type 0} (it : Option A) → IfSome it (AnyWidth {A = A})
any_width None = tt
any_width (Some x) = tt

-- a call that found one of these rows, or none
pub finds : {A E : Type 0} (values : A → Row) (rows : Trees → List Row) (old new : State) (it : Option A) → (HasCleanDisk new → Picks (rows old.now.trees) (option_map values it)) → (HasCleanDisk new → IsUnchanged old new)
    → (HasCleanDisk new → IsKeptOrUndone old new) → frame.Follows old new → LeavesFound {A = Option A} {E = E} (λ found. IfSome found (AnyWidth {A = A})) (λ trees found. Picks (rows trees) (option_map values found)) old new (Ok it)
finds values rows old new it picks same kept after = record {
  ok = λ clean ledger. picks clean;
  fits = any_width it;
  reads = record { same = same; kept = kept; follows = follows old new after };
}

pub inside : (old new : State) → effect.WritesInside old new → WritesInside old new
inside old new it = record { schema = it.schema; shown = it.shown; marks = it.marks }

-- a call that read, whatever is made of its answer
pub read : {A B E F : Type 0} (old new : State) (x : A) (y : B) → call.LeavesRead {A = A} {E = E} old new (Ok x) → LeavesRead {A = B} {E = F} old new (Ok y)
read old new x y it = record { same = it.same; kept = it.kept; follows = follows old new it.follows }

pub clean_before : (a b : State) → Follows a b → HasCleanDisk b → HasCleanDisk a
clean_before a b f clean = omega (arith, f.survives.clean, clean)

pub live_before : (a b : State) → Follows a b → Live b → Live a
live_before a b f live = (clean_before a b f live.0, f.live live)

-- one call after another
pub follows_then : (a b c : State) → Follows a b → Follows b c → Follows a c
follows_then a b c f g = record {
  survives = survives_then a b c (λ _. ⊥) (λ _. ⊥) (λ _. ⊥) (λ _ db none. none) (λ _ db none. none) f.survives g.survives;
  live = λ live. f.live (live_before b c g live);
  committed = λ live. g.committed live ∙ f.committed (live_before b c g live);
  unmarked = λ live was. g.unmarked live (f.unmarked (live_before b c g live) was);
}
