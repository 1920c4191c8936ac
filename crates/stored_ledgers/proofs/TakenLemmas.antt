-- What another tenant has.
use Rattle.std.proofs.Common.{◌≡◌, ◌≢◌, ℕ, ℤ, Bool, true, false, Option, Some, None, Ok, is_some, option_map, List, [], ◌∷◌, map, filter, length, refl, sym, ap, subst, ◌∙◌, arith}
use Rattle.std.specs.List.Sorted.{IsPermutation}
use Rattle.std.proofs.lemmas.List.Elements.{All-cons, All-nil}
use Rattle.std.proofs.lemmas.List.Sorted.{length_permutation, All-permutation}
use Rattle.sqlite.specs.Effect.{Database}
use Rattle.sqlite.specs.State.{State, HasCleanDisk}
use Rattle.sqlite_value.specs.declared.value.Value.TheVariants.{Int}
use Rattle.sqlite_value.specs.Order.{Row, column}
use Rattle.sqlite_trees.specs.Tree.{Trees}
use Rattle.sqlite_trees.proofs.ListLemmas.{filter-map, map-map}
use Rattle.ledger_sql.specs.Calls.{LeavesFound}
use Rattle.ledger_sql.specs.Effects.{IsLedger, Picks}
use Rattle.ledger_sql.specs.Schema.{tenant_tree}
use Rattle.ledger_sql.specs.TableRows.{numbers_with_digest, is_blob, cells_from}
use Rattle.stored_ledgers.specs.Directory.{with_digest, with_name}
use Rattle.stored_ledgers.specs.Ledger.{HoldsLedgers}
use Rattle.stored_ledgers.proofs.JudgedLemmas.{was_found}

-- a query that picks a row had one, and one that picks none had none
pub picked_some : {X : Type 0} (rows : List Row) (values : X → Row) (found : Option X)
    → Picks rows (option_map values found) → is_some found ≡ true → rows ≢ []
picked_some rows values None picks there none = absurd (cc)
picked_some rows values (Some x) picks there none =
    absurd (omega (arith, length_permutation _ _ picks.1, ap length none))

pub picked_none : {X : Type 0} (rows : List Row) (values : X → Row) (found : Option X)
    → Picks rows (option_map values found) → is_some found ≡ false → rows ≡ []
picked_none rows values None picks there = picks
picked_none rows values (Some x) picks there = absurd (cc)

map_none : (f : Row → Row) (rows : List Row) → map f rows ≡ [] → rows ≡ []
map_none f [] none = refl
map_none f (row ∷ rows) none = absurd (cc)

-- the numbers with a digest are those of the rows with it
same_digests : (digest : List ℕ) (trees : Trees)
    → numbers_with_digest digest trees ≡ map (λ row. column row 0 ∷ []) (with_digest digest trees)
same_digests digest trees =
    let entry : Row → Row = λ row. column row 0 ∷ cells_from 2 2 row in
    let entries = filter (λ row. is_blob digest (column row 3)) (trees tenant_tree) in
    sym (map-map _ entry entries) ∙ ap (map (λ row. column row 0 ∷ [])) (sym (filter-map _ entry (trees tenant_tree)))

-- nobody has this name, as it was looked up
pub found_unnamed : {E X : Type 0} {Fits : Option X → Type 0} (name text : List ℕ) (values : X → Row)
    (old read : State) (found : Option X) (is_there : Bool) → text ≡ name → is_there ≡ is_some found
    → is_there ≡ false
    → LeavesFound {E = E} Fits (λ trees found. Picks (with_name text trees) (option_map values found)) old read (Ok found)
    → (HasCleanDisk old → HoldsLedgers old.now) → HasCleanDisk read
    → (read.now ≡ old.now) × HoldsLedgers old.now × (with_name name old.now.trees ≡ [])
found_unnamed name text values old read found is_there same is none finds holds clean =
    let seen = was_found old read found finds clean in
    let ledgers = holds seen.0 in (
      seen.1,
      ledgers,
      subst (λ n. with_name n old.now.trees ≡ []) same
          (picked_none _ values found (seen.2 ledgers.schema) (sym is ∙ none)),
    )

-- a digest that was looked up, behind a call that only read
module _ (digest : List ℕ) (old read : Database) (found : Option ℤ) (same : read ≡ old)
    (picks : IsLedger read.schema → Picks (numbers_with_digest digest read.trees) (option_map (λ n. Int n ∷ []) found))
    (ledger : IsLedger old.schema) where
  picked_back : Picks (numbers_with_digest digest read.trees) (option_map (λ n. Int n ∷ []) found)
  picked_back = picks (subst (λ (db : Database). IsLedger db.schema) (sym same) ledger)

  -- somebody has it
  pub found_taken : is_some found ≡ true → with_digest digest old.trees ≢ []
  found_taken there =
      subst (λ (db : Database). with_digest digest db.trees ≢ []) same (λ none.
      picked_some _ _ found picked_back there
      (same_digests digest read.trees ∙ ap (map (λ row. column row 0 ∷ [])) none))

  -- or nobody
  pub found_free : is_some found ≡ false → with_digest digest old.trees ≡ []
  found_free there =
      subst (λ (db : Database). with_digest digest db.trees ≡ []) same
      (map_none _ _ (sym (same_digests digest read.trees) ∙ picked_none _ _ found picked_back there))

-- one row in any order is that row
pub only_row : (row : Row) (rows : List Row) → IsPermutation (row ∷ []) rows → rows ≡ row ∷ []
only_row row [] one = absurd (omega (arith, length_permutation _ _ one))
only_row row (other ∷ []) one =
    let all = All-permutation (λ y. y ≡ row) _ _ one (All-cons (λ y. y ≡ row) row [] refl (All-nil (λ y. y ≡ row))) in
    ap (λ r. r ∷ []) (all 0 [] (omega arith))
only_row row (other ∷ another ∷ rows) one = absurd (omega (arith, length_permutation _ _ one))
