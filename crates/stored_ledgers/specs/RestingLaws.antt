-- Tables that were only read since.
use Rattle.std.proofs.Common.{refl, sym, subst, ◌∙◌, IsTrue}
use Rattle.sqlite.specs.Effect.{Database}
use Rattle.sqlite.specs.State.{State, IsUnchanged}
use Rattle.stored_ledgers.specs.DueSets.{DueSets, AreCovered}
use Rattle.stored_ledgers.specs.Ledger.{HoldsLedgers}
use Rattle.stored_ledgers.specs.Resting.{IsQuiet, IsResting, IsSame}

-- what was not called has changed nothing
pub unchanged : (s : State) → IsTrue s.is_open → IsUnchanged s s
unchanged s is_open = (
  record { was_open = is_open; is_open = is_open; now_is = refl; committed_is = refl; mode = refl },
  record { changes = refl; last_rowid = refl },
  refl,
)

-- nor have two calls that changed nothing
pub unchanged_then : (a b c : State) → IsUnchanged a b → IsUnchanged b c → IsUnchanged a c
unchanged_then a b c f g = (
  record {
    was_open = f.0.was_open;
    is_open = g.0.is_open;
    now_is = g.0.now_is ∙ f.0.now_is;
    committed_is = g.0.committed_is ∙ f.0.committed_is;
    mode = g.0.mode ∙ f.0.mode;
  },
  record { changes = g.1.changes ∙ f.1.changes; last_rowid = g.1.last_rowid ∙ f.1.last_rowid },
  g.2 ∙ f.2,
)

-- where nothing changed, no transaction is open as before
pub still_quiet : (old new : State) → IsQuiet old → IsSame old new → IsQuiet new
still_quiet old new quiet same = record {
  mode = same.mode;
  settled = same.now ∙ quiet.settled ∙ sym same.committed;
  unmarked = same.unmarked;
}

-- where nothing changed, it rests as before
pub still_rests : (sets : DueSets) (old new : State) → IsResting sets old → IsSame old new
    → IsResting sets new
still_rests sets old new rests same = record {
  quiet = still_quiet old new rests.quiet same;
  ledgers = subst HoldsLedgers (sym same.now) rests.ledgers;
  covered = subst (λ (db : Database). AreCovered sets db.trees) (sym same.now) rests.covered;
}
