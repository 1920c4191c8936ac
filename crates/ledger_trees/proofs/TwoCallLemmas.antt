-- Two calls in turn, as one.
use Rattle.std.proofs.Common.{◌≡◌, ◌≢◌, ℕ, ℤ, List, [], ◌∷◌, refl, ap, sym, subst, ◌∙◌, IsTrue, inl, inr}
use Rattle.std.specs.List.{AllByRecursion}
use Rattle.std.proofs.lemmas.List.Sorted.{IsPermutation-trans, IsPermutation-cons, IsPermutation-middle}
use Rattle.sqlite_value.specs.Order.{Row}
use Rattle.sqlite_trees.specs.Tree.{Trees, put_row}
use Rattle.sqlite_schema.specs.declared.schema.Table.{Table}
use Rattle.sqlite.specs.State.{State, HasCleanDisk, IsRolledBack, IsUnchanged, KeepsCounts}
use Rattle.keyed_trees.specs.Effects as effect
use Rattle.keyed_trees.specs.Layout.{KeyShape}
use Rattle.ledger_sql.specs.Effects.{AddsRows, WritesInside}
use Rattle.ledger_sql.specs.Frames.{Follows, IsKeptOrUndone}

stay_both : (tables : List Table) (tree : ℕ) (a b c : Trees) → AllByRecursion (λ (t : Table). t.tree ≢ tree → b t.tree ≡ a t.tree) tables
    → AllByRecursion (λ (t : Table). t.tree ≢ tree → c t.tree ≡ b t.tree) tables → AllByRecursion (λ (t : Table). t.tree ≢ tree → c t.tree ≡ a t.tree) tables
stay_both [] tree a b c first second = tt
stay_both (t ∷ tables) tree a b c first second = (λ other. second.0 other ∙ first.0 other, stay_both tables tree a b c first.1 second.1)

module _ (old mid new : State) where
  -- the transaction goes on over both
  pub goes_on : WritesInside old mid → WritesInside mid new → WritesInside old new
  goes_on first second = record {
    schema = second.schema ∙ first.schema;
    shown = record {
      was_open = first.shown.was_open;
      is_open = second.shown.is_open;
      now_is = second.shown.now_is;
      committed_is = second.shown.committed_is ∙ first.shown.committed_is;
      mode = second.shown.mode;
    };
    marks = second.marks ∙ first.marks;
  }

  -- two rows are added
  pub adds_both : (rows : ℤ → Trees → List Row) (tree : ℕ) (tenant : ℤ) (one two : Row) → AddsRows rows tree tenant (one ∷ []) old mid → AddsRows rows tree tenant (two ∷ []) mid new → AddsRows rows tree tenant (one ∷ two ∷ []) old new
  adds_both rows tree tenant one two first second =
      let was = rows tenant old.now.trees in
      let then = rows tenant mid.now.trees in
      let is = rows tenant new.now.trees in
      record {
        own = IsPermutation-trans (one ∷ two ∷ was) (two ∷ one ∷ was) is (IsPermutation-middle (one ∷ []) two was) (IsPermutation-trans (two ∷ one ∷ was) (two ∷ then) is (IsPermutation-cons two (one ∷ was) then first.own) second.own);
        others = λ other ne. second.others other ne ∙ first.others other ne;
        tables = stay_both old.now.schema.tables tree old.now.trees mid.now.trees new.now.trees first.tables (subst (λ s. AllByRecursion (λ (t : Table). t.tree ≢ tree → new.now.trees t.tree ≡ mid.now.trees t.tree) s.tables) first.inside.schema second.tables);
        inside = goes_on first.inside second.inside;
        numbered = λ numbered. second.numbered (first.numbered numbered);
      }

  -- what was undone after calls that commit nothing is undone as of their beginning
  pub undone_after : Follows old mid → KeepsCounts old new → HasCleanDisk new → (HasCleanDisk new → IsTrue new.is_open → HasCleanDisk mid) → IsRolledBack mid new → IsRolledBack old new
  undone_after follows counts clean before undone = record {
    was_open = λ o. follows.live (before clean o, undone.was_open o);
    undone = λ o. let kept = follows.committed (before clean o, undone.was_open o) in ((undone.undone o).0 ∙ kept, (undone.undone o).1 ∙ kept);
    autocommit = undone.autocommit;
    unmarked = undone.unmarked;
    counts = counts;
  }

  -- a failure after a call that changed nothing
  pub kept_after : IsUnchanged old mid → KeepsCounts old new → IsKeptOrUndone mid new → IsKeptOrUndone old new
  kept_after same counts it = elim it [
    | inl kept ↦ inl (
      record {
        was_open = same.0.was_open;
        is_open = kept.0.is_open;
        now_is = kept.0.now_is ∙ same.0.now_is;
        committed_is = kept.0.committed_is ∙ same.0.committed_is;
        mode = kept.0.mode ∙ same.0.mode;
      },
      counts,
      kept.2 ∙ same.2,
    )
    | inr undone ↦ inr (record {
      was_open = λ o. same.0.was_open;
      undone = λ o. ((undone.undone o).0 ∙ same.0.committed_is, (undone.undone o).1 ∙ same.0.committed_is);
      autocommit = undone.autocommit;
      unmarked = undone.unmarked;
      counts = counts;
    })
  ]

  -- a row that was put after a call that changed nothing
  pub put_after : (keys : List KeyShape) (table : ℕ) (row : Row) → IsUnchanged old mid → effect.PutsInto keys table row mid new → effect.PutsInto keys table row old new
  put_after keys table row same it = record {
    inside = record {
      was = sym same.0.mode ∙ it.inside.was;
      schema = it.inside.schema ∙ ap (λ db. db.schema) same.0.now_is;
      shown = record {
        was_open = same.0.was_open;
        is_open = it.inside.shown.is_open;
        now_is = it.inside.shown.now_is;
        committed_is = it.inside.shown.committed_is ∙ same.0.committed_is;
        mode = it.inside.shown.mode;
      };
      marks = it.inside.marks ∙ same.2;
    };
    rows = it.rows ∙ ap (λ db. put_row row (db.trees table)) same.0.now_is;
    others = λ t other none. it.others t other none ∙ ap (λ db. db.trees t) same.0.now_is;
  }

-- a call that changed nothing leaves the transaction open
pub stays_inside : (old new : State) → IsUnchanged old new → IsTrue old.in_transaction → WritesInside old new
stays_inside old new same inside = record {
  schema = ap (λ db. db.schema) same.0.now_is;
  shown = record { was_open = same.0.was_open; is_open = same.0.is_open; now_is = refl; committed_is = same.0.committed_is; mode = same.0.mode ∙ inside };
  marks = same.2;
}
