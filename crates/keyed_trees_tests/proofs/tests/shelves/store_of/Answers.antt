use Rattle.std.proofs.Common.{◌≡◌, ◌≢◌, ℕ, List, [], arith, refl, sym, ap, ◌∙◌, rules}
use Rattle.std.proofs.lemmas.List.Sorted.{IsPermutation-refl}
use Rattle.sqlite_value.specs.Order.{Row}
use Rattle.sqlite_trees.specs.Memory.{memory_view}
use Rattle.sqlite_trees.specs.Objects.{catalog_tree, version_tree}
use Rattle.sqlite_trees.proofs.ListLemmas.{all_of}
use Rattle.sqlite_sql.specs.Catalog.{IsIndexOf}
use Rattle.keyed_trees_tests.proofs.tests.shelves.store_of.Goals as goal

empty_index : (columns : List ℕ) (rows entries : List Row) → rows ≡ [] → entries ≡ [] → IsIndexOf columns rows entries
empty_index columns rows entries none nothing = rw (none, nothing) (IsPermutation-refl [])

pub returns : goal.returns
returns c = record {
  numbered = λ _. refl;
  left = λ _ db there.
      let none : (t : ℕ) → t ≢ catalog_tree → t ≢ version_tree → db t ≡ [] = λ t one other. ap (λ trees. trees t) (there ∙ sym c.in_ok-new.ensures.clean) ∙ c.in_ok-new.ensures.empty t one other in
      let no_rows = none 0 (λ e. omega (arith, e)) (λ e. omega (arith, e)) in
      record {
        consistent = record {
          keyed = (
            empty_index _ (db 0) (db 1) no_rows (none 1 (λ e. omega (arith, e)) (λ e. omega (arith, e))),
            (empty_index _ (db 0) (db 2) no_rows (none 2 (λ e. omega (arith, e)) (λ e. omega (arith, e))), tt),
          );
          rows = (all_of _ (λ _. tt) (db 0), tt);
          listed = tt;
        };
        whole = tt;
      };
}
