-- The tables that were made, one after the other, are the whole empty ledger.
use Rattle.std.proofs.Common.{◌≡◌, ◌≢◌, ℕ, suc, List, [], ◌∷◌, map, drop, refl, sym, subst, ◌∙◌}
use Rattle.std.specs.List.{AllByRecursion}
use Rattle.std.specs.List.Sorted.{IsPermutation}
use Rattle.sqlite_trees.specs.Tree.{Trees}
use Rattle.sqlite_trees.proofs.ListLemmas.{all-append}
use Rattle.sqlite_schema.specs.declared.schema.Schema.{Schema}
use Rattle.sqlite_schema.specs.declared.schema.Table.{Table}
use Rattle.sqlite_catalog.specs.Change.{KeepsRows}
use Rattle.sqlite.specs.State.{State}
use Rattle.sqlite.proofs.Callers.{one_permutation}
use Rattle.ledger_sql.specs.Creating.{Makes, MakesTables, MakesLedger}
use Rattle.ledger_sql.specs.Effects.{AddsFileRow}
use Rattle.ledger_sql.specs.Rowids.{IsNumbered}
use Rattle.ledger_sql.specs.Schema.{no_schema, list_schema, balance_schema, ledger_schema, failed_table, schema_tree, current_version}
use Rattle.ledger_sql.specs.TableRows.{cells_from, version_rows}
use Rattle.ledger_sql.specs.Values.{version_values}

kept_empty : (ts : List Table) (a b : Trees) → AllByRecursion (λ t. a t.tree ≡ []) ts → KeepsRows ts a b → AllByRecursion (λ t. b t.tree ≡ []) ts
kept_empty [] a b empty kept = tt
kept_empty (t ∷ ts) a b empty kept = (kept.0 ∙ empty.0, kept_empty ts a b empty.1 kept.1)

stay_empty : (ts : List Table) (a b : Trees) → AllByRecursion (λ t. t.tree ≢ 0) ts → AllByRecursion (λ t. a t.tree ≡ []) ts
    → AllByRecursion (λ t. t.tree ≢ 0 → b t.tree ≡ a t.tree) ts → AllByRecursion (λ t. b t.tree ≡ []) ts
stay_empty [] a b apart empty stay = tt
stay_empty (t ∷ ts) a b apart empty stay = (stay.0 apart.0 ∙ empty.0, stay_empty ts a b apart.1 empty.1 stay.1)

past_zero : (n : ℕ) → suc n ≢ 0
past_zero n e = cc

behind_first : AllByRecursion (λ t. t.tree ≢ 0) (drop 1 ledger_schema.tables)
behind_first = (past_zero 0, (past_zero 3, (past_zero 4, (past_zero 7, (past_zero 10, (past_zero 12, (past_zero 14, (past_zero 16, tt))))))))

module _ (a b c d e : State) (one : MakesTables no_schema list_schema list_schema.tables a b) (two : MakesTables list_schema balance_schema (drop 5 balance_schema.tables) b c)
    (three : Makes balance_schema failed_table c d) (four : AddsFileRow version_rows schema_tree (version_values current_version) d e) where
  balances_empty : AllByRecursion (λ t. c.now.trees t.tree ≡ []) balance_schema.tables
  balances_empty = all-append (λ t. c.now.trees t.tree ≡ []) list_schema.tables (drop 5 balance_schema.tables) (kept_empty list_schema.tables b.now.trees c.now.trees one.empty two.others) two.empty

  all_empty : AllByRecursion (λ t. d.now.trees t.tree ≡ []) ledger_schema.tables
  all_empty = all-append (λ t. d.now.trees t.tree ≡ []) balance_schema.tables (drop 8 ledger_schema.tables) (kept_empty balance_schema.tables c.now.trees d.now.trees balances_empty three.others) (three.empty, tt)

  pub makes_ledger : MakesLedger a e
  makes_ledger =
      let none : d.now.trees 0 ≡ [] = all_empty.0 in
      let added : IsPermutation (version_values current_version ∷ []) (version_rows e.now.trees) =
      subst (λ rows. IsPermutation (version_values current_version ∷ map (cells_from 2 1) rows) (version_rows e.now.trees)) none four.all in
      let stay : AllByRecursion (λ t. t.tree ≢ 0 → e.now.trees t.tree ≡ d.now.trees t.tree) ledger_schema.tables =
      subst (λ (s : Schema). AllByRecursion (λ t. t.tree ≢ 0 → e.now.trees t.tree ≡ d.now.trees t.tree) s.tables) three.schema four.tables in
      record {
        schema = four.inside.schema ∙ three.schema;
        empty = record {
          version = one_permutation (version_values current_version) (version_rows e.now.trees) added;
          numbered = four.numbered (subst IsNumbered (sym none) (record { rise = tt; whole = tt }));
          empty = stay_empty (drop 1 ledger_schema.tables) d.now.trees e.now.trees behind_first all_empty.1 stay.1;
        };
        shown = record {
          was_open = one.shown.was_open;
          is_open = four.inside.shown.is_open;
          now_is = refl;
          committed_is = four.inside.shown.committed_is ∙ three.shown.committed_is ∙ two.shown.committed_is ∙ one.shown.committed_is;
          mode = four.inside.shown.mode;
        };
        marks = four.inside.marks ∙ three.marks ∙ two.marks ∙ one.marks;
      }
