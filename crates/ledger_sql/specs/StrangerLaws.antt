-- What a statement on a table of ours leaves of the tables of strangers.
use Rattle.std.proofs.Common.{◌≡◌, ◌≢◌, ℕ, Bool, true, false, cond, not, ◌&&◌, List, [], ◌∷◌}
use Rattle.std.proofs.Common.{map, filter, refl, ap, ◌∙◌}
use Rattle.std.specs.List.{AllByRecursion}
use Rattle.sqlite_value.specs.Order.{Row}
use Rattle.sqlite_trees.specs.Tree.{Trees}
use Rattle.sqlite_schema.specs.declared.schema.Schema.{Schema}
use Rattle.sqlite_schema.specs.declared.schema.Table.{Table}
use Rattle.sqlite.specs.State.{State}
use Rattle.ledger_sql.specs.Effects.{OthersStay, is_stranger}
use Rattle.ledger_sql.specs.Strangers.{is_ours, strangers_among, KeepsStrangers}

both_are : (a b : Bool) → not a && b ≡ true → a ≡ true → ⊥
both_are true b passes ours = absurd (cc)
both_are false b passes ours = absurd (cc)

-- with this table in front, if it is a stranger's
abbrev more_among : Bool → Table → List Table → Trees → List (Table × List Row)
more_among passes t tables trees =
    let rest = filter is_stranger tables in
    map (λ u. (u, trees u.tree)) (cond passes (t ∷ rest) rest)

module _ (tree : ℕ) (ours : is_ours tree ≡ true) (old new : Trees) where
  -- a stranger's table has another tree than a table of ours
  apart : (t : Table) → is_stranger t ≡ true → t.tree ≢ tree
  apart t passes same = both_are (is_ours t.tree) _ passes (ap is_ours same ∙ ours)

  kept : (tables : List Table)
      → AllByRecursion (λ t. t.tree ≢ tree → new t.tree ≡ old t.tree) tables
      → strangers_among tables new ≡ strangers_among tables old
  kept [] all = refl
  kept (t ∷ tables) all = of (is_stranger t) refl (kept tables all.1)
    where
      of : (passes : Bool) → is_stranger t ≡ passes
          → strangers_among tables new ≡ strangers_among tables old
          → more_among passes t tables new ≡ more_among passes t tables old
      of true is rest = λ i. (t, all.0 (apart t is) i) ∷ rest i
      of false is rest = rest

-- where all tables but one of ours keep their rows, so do those of strangers
pub strangers_stay :
    (tree : ℕ) (old new : State) → is_ours tree ≡ true → new.now.schema ≡ old.now.schema →
    OthersStay tree old new → KeepsStrangers old.now new.now
strangers_stay tree old new ours same stay =
    ap (λ (s : Schema). strangers_among s.tables new.now.trees) same
    ∙ kept tree ours old.now.trees new.now.trees old.now.schema.tables stay
