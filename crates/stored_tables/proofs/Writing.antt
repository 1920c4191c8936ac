-- Moves of a tenant's rows one after the other, and the batch after them.
use Rattle.std.proofs.Common.{◌≡◌, ℤ, inl, inr, List, Ok, refl, sym, ap, subst, ◌∙◌}
use Rattle.sqlite_trees.specs.Tree.{Trees}
use Rattle.sqlite.specs.Effect.{Database}
use Rattle.sqlite.specs.State.{State, Savepoint, HasCleanDisk, IsUnchanged}
use Rattle.records.specs.Machine.{Machine}
use Rattle.records.specs.Valid.{IsValid}
use Rattle.chain.specs.Tables.{Leaves, on_now}
use Rattle.rows.specs.Prescribed.{rows_for}
use Rattle.rows.specs.TypedRows.{TypedRows}
use Rattle.ledger_sql.specs.Effects.{IsLedger, IsInside, WritesInside}
use Rattle.ledger_sql.specs.Frames.{Live, Follows}
use Rattle.stored_tables.specs.BatchLaws.{clean_before, others_then, rest_then, rest_back}
use Rattle.stored_tables.specs.Frames.{AreNumbered}
use Rattle.stored_tables.specs.Holds.{HoldsRows, HoldsMachine}
use Rattle.stored_tables.specs.InBatch.{KeepsRest, AreMarks, IsInBatchOf, IsInOwnBatch, shown}
use Rattle.stored_tables.specs.MachineOf.{machine_of}
use Rattle.stored_tables.specs.Meaning.{batch_meaning}
use Rattle.stored_tables.specs.Moves.{CanWrite, MovesRows, ChangesRows}
use Rattle.stored_tables.proofs.Keeping.{shown_is}

-- no write at all
pub inside_itself : (s : State) → CanWrite s → WritesInside s s
inside_itself s can = record {
  schema = refl;
  shown = record { was_open = can.is_open; is_open = can.is_open; now_is = refl; committed_is = refl; mode = can.inside.mode };
  marks = refl;
}

pub inside_then : (a b c : State) → WritesInside a b → WritesInside b c → WritesInside a c
inside_then a b c f g = record {
  schema = g.schema ∙ f.schema;
  shown = record { was_open = f.shown.was_open; is_open = g.shown.is_open; now_is = refl; committed_is = g.shown.committed_is ∙ f.shown.committed_is; mode = g.shown.mode };
  marks = g.marks ∙ f.marks;
}

-- a write behind a write
pub writes_then : (tenant : ℤ) (can next both : TypedRows → Type 0) (change more : TypedRows → TypedRows) (a b c : State) → ChangesRows tenant can change a b → ChangesRows tenant next more b c → ((rows : TypedRows) → both rows → can rows × next (change rows)) → ChangesRows tenant both (λ rows. more (change rows)) a c
writes_then tenant can next both change more a b c f g leads = record {
  inside = inside_then a b c f.inside g.inside;
  moves = λ rows may num held.
      let ready = leads rows may in
      let first = f.moves rows ready.0 num held in
      let second = g.moves (change rows) ready.1 first.numbered first.rows in
      record { numbered = second.numbered; others = others_then tenant a.now.trees b.now.trees c.now.trees first.others second.others; strangers = second.strangers ∙ first.strangers; rows = second.rows };
}

-- a write behind a call that changed nothing
pub writes_after_same : (tenant : ℤ) (can : TypedRows → Type 0) (change : TypedRows → TypedRows) (a b c : State) → IsUnchanged a b → ChangesRows tenant can change b c → ChangesRows tenant can change a c
writes_after_same tenant can change a b c same w = record {
  inside = record {
    schema = w.inside.schema ∙ ap (λ (db : Database). db.schema) same.0.now_is;
    shown = record { was_open = same.0.was_open; is_open = w.inside.shown.is_open; now_is = refl; committed_is = w.inside.shown.committed_is ∙ same.0.committed_is; mode = w.inside.shown.mode };
    marks = w.inside.marks ∙ same.2;
  };
  moves = λ rows may num held.
      subst (λ (db : Database). MovesRows tenant (change rows) db c.now) same.0.now_is
      (w.moves rows may (subst (λ (db : Database). AreNumbered db.trees) (sym same.0.now_is) num) (subst (λ (db : Database). HoldsRows tenant rows db.trees) (sym same.0.now_is) held));
}

-- the transaction goes on
pub still_inside : (a b : State) → IsInside a → WritesInside a b → IsInside b
still_inside a b inside w = record { schema = subst IsLedger (sym w.schema) inside.schema; mode = w.shown.mode }

pub is_inside : (tenant : ℤ) (s : State) → IsInBatchOf tenant s → IsInside s
is_inside tenant s batch = record { schema = batch.now.ledger; mode = batch.mode }

abbrev pub HeldMachines : Type 0
HeldMachines = (tenant : ℤ) (m : Machine) (trees : Trees) → HoldsMachine tenant m trees → machine_of tenant trees ≡ m

-- the rows may change so, and are then those of a machine that has changed so
pub record IsChange (can : TypedRows → Type 0) (change : TypedRows → TypedRows) (step : Machine → Machine) (m : Machine) : Type 0 where
  pub may : can (rows_for 3 m)
  pub rows : rows_for 3 (step m) ≡ change (rows_for 3 m)
  pub valid : IsValid (step m)

-- the mark still differs in the tenant's rows alone
marks_kept : (tenant : ℤ) (old new : Database) → KeepsRest tenant old new → (marks : List Savepoint) → AreMarks tenant old marks → AreMarks tenant new marks
marks_kept tenant old new rest marks (inl none) = inl none
marks_kept tenant old new rest marks (inr one) = inr (one.0, one.1, one.2, rest_then tenant new old one.0 (rest_back tenant old new rest) one.3)

module _ (held_machines : HeldMachines) (tenant : ℤ) (can : TypedRows → Type 0) (change : TypedRows → TypedRows) (step : Machine → Machine) (old new : State) (batch : IsInBatchOf tenant old) (w : ChangesRows tenant can change old new) (is : IsChange can change step (machine_of tenant old.now.trees)) where
  moved : MovesRows tenant (change (rows_for 3 (machine_of tenant old.now.trees))) old.now new.now
  moved = w.moves (rows_for 3 (machine_of tenant old.now.trees)) is.may batch.now.numbered batch.now.holds.rows

  holds : HoldsMachine tenant (step (machine_of tenant old.now.trees)) new.now.trees
  holds = record { valid = is.valid; rows = subst (λ rows. HoldsRows tenant rows new.now.trees) (sym is.rows) moved.rows }

  pub machine_after : machine_of tenant new.now.trees ≡ step (machine_of tenant old.now.trees)
  machine_after = held_machines tenant (step (machine_of tenant old.now.trees)) new.now.trees holds

  pub rest_after : KeepsRest tenant old.now new.now
  rest_after = record { schema = w.inside.schema; others = moved.others; strangers = moved.strangers }

  pub batch_after : IsInBatchOf tenant new
  batch_after = record {
    is_open = w.inside.shown.is_open;
    mode = w.inside.shown.mode;
    now = record {
      ledger = subst IsLedger (sym w.inside.schema) batch.now.ledger;
      numbered = moved.numbered;
      holds = subst (λ m. HoldsMachine tenant m new.now.trees) (sym machine_after) holds;
    };
    marks = subst (AreMarks tenant new.now) (sym w.inside.marks) (marks_kept tenant old.now new.now rest_after old.marks batch.marks);
  }

-- what a write leaves of the tenant's tables
pub writes_leave : {T : Type 0} (state : T → State) (tenant : ℤ) (old new : T) {X : Type 0} (x : X) (can : TypedRows → Type 0) (change : TypedRows → TypedRows) (step : Machine → Machine)
    → HeldMachines → IsInOwnBatch tenant (state old) → Follows (state old) (state new) → (HasCleanDisk (state new) → ChangesRows tenant can change (state old) (state new))
    → (Live (state old) → IsValid (shown tenant (state old)).now → IsChange can change step (shown tenant (state old)).now)
    → Leaves {S = T} {X = X} (batch_meaning state tenant) old new (Ok x) (on_now step)
unfolding shown
writes_leave state tenant old new x can change step held_machines usable follows w is =
    let before = clean_before (state old) (state new) follows in
    let batch = λ (clean : HasCleanDisk (state new)). usable (before clean) in
    let change_is = λ (clean : HasCleanDisk (state new)). is (before clean, (batch clean).is_open) (batch clean).now.holds.valid in
    record {
      state = λ live.
          shown_is tenant (state new) _ _ _ (machine_after held_machines tenant can change step (state old) (state new) (batch live.0) (w live.0) (change_is live.0))
          (w live.0).inside.shown.committed_is (w live.0).inside.marks;
      usable = λ clean. batch_after held_machines tenant can change step (state old) (state new) (batch clean) (w clean) (change_is clean);
      undone = λ live. tt;
      follows = record {
        calls = follows;
        inside = λ live mode. ((batch live.0).mode, rest_after held_machines tenant can change step (state old) (state new) (batch live.0) (w live.0) (change_is live.0));
      };
    }
