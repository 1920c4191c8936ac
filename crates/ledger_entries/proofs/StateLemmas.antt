-- Calls that read, one after the other.
use Rattle.std.proofs.Common.{◌≡◌, refl, ◌∙◌, arith, inl, IsTrue}
use Rattle.sqlite.specs.State.{State, HasCleanDisk, IsUnchanged, IsRolledBack}
use Rattle.ledger_sql.specs.Frames.{Follows}
use Rattle.ledger_entries.specs.Handing.{IsStill}

-- no call at all
pub follows_itself : (a : State) → Follows a a
follows_itself a = record {
  survives = record {
    clean = omega arith;
    shield = λ shielded. shielded;
    counts = omega arith;
    limit = refl;
    closes = λ clean is_open. inl is_open;
    crash = λ clean db may. inl may;
  };
  live = λ live. live.1;
  committed = λ live. refl;
  unmarked = λ live none. none;
}

unchanged_then : (a b c : State) → IsUnchanged a b → IsUnchanged b c → IsUnchanged a c
unchanged_then a b c (shown, counts, marks) (shown_after, counts_after, marks_after) = (
  record {
    was_open = shown.was_open;
    is_open = shown_after.is_open;
    now_is = shown_after.now_is ∙ shown.now_is;
    committed_is = shown_after.committed_is ∙ shown.committed_is;
    mode = shown_after.mode ∙ shown.mode;
  },
  record { changes = counts_after.changes ∙ counts.changes; last_rowid = counts_after.last_rowid ∙ counts.last_rowid },
  marks_after ∙ marks,
)

pub still_itself : (a : State) → IsStill a a
still_itself a = (refl, λ is_open. (record { was_open = is_open; is_open = is_open; now_is = refl; committed_is = refl; mode = refl }, record { changes = refl; last_rowid = refl }, refl))

pub still : (a b : State) → IsUnchanged a b → IsStill a b
still a b same = (same.0.now_is, λ _. same)

pub still_then : (a b c : State) → Follows a b → (HasCleanDisk b → IsStill a b) → HasCleanDisk b → IsStill b c → IsStill a c
still_then a b c f first clean second = (
  second.0 ∙ (first clean).0,
  λ was. let one = (first clean).1 was in unchanged_then a b c one (second.1 one.0.is_open),
)

-- a call that read, after calls that changed nothing, has changed nothing
pub unchanged_since : (a b c : State) → Follows a b → (HasCleanDisk b → IsStill a b) → HasCleanDisk b → IsUnchanged b c → IsUnchanged a c
unchanged_since a b c f first clean second =
    unchanged_then a b c ((first clean).1 (f.live (clean, second.0.was_open))) second

-- and calls that change nothing after it
pub unchanged_still : (a b c : State) → IsUnchanged a b → IsStill b c → IsUnchanged a c
unchanged_still a b c first second = unchanged_then a b c first (second.1 first.0.is_open)

-- a transaction that is undone after calls that only read
pub undone_after : (a b c : State) → Follows a b → (HasCleanDisk c → HasCleanDisk b) → (HasCleanDisk c → IsRolledBack b c) → b.changes ≡ a.changes → b.last_rowid ≡ a.last_rowid → HasCleanDisk c → IsRolledBack a c
undone_after a b c f before undone changes last_rowid clean =
    let it = undone clean in
    let was : IsTrue c.is_open → IsTrue b.is_open = it.was_open in
    record {
      was_open = λ is_open. f.live (before clean, was is_open);
      undone = λ is_open.
          let same = f.committed (before clean, was is_open) in
          ((it.undone is_open).0 ∙ same, (it.undone is_open).1 ∙ same);
      autocommit = it.autocommit;
      unmarked = it.unmarked;
      counts = record { changes = it.counts.changes ∙ changes; last_rowid = it.counts.last_rowid ∙ last_rowid };
    }
