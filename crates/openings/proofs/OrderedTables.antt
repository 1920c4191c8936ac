-- Tables whose rowids rise.
use Rattle.std.proofs.Common.{◌≡◌, ℕ, List, [], ◌∷◌, filter, sym, subst, ap, ◌∙◌, inl, inr}
use Rattle.std.proofs.Math.Logic.{∥∥₁_elim}
use Rattle.std.specs.List.{AllByRecursion, AllZip}
use Rattle.sqlite_value.specs.Order.{Row}
use Rattle.sqlite_trees.specs.declared.store.Shape.{Shape}
use Rattle.sqlite_trees.specs.declared.store.Shape.TheVariants as shape
use Rattle.sqlite_trees.specs.Objects.{catalog_tree, IsListed}
use Rattle.sqlite_trees.specs.Props.{IsOrdered-prop}
use Rattle.sqlite_trees.specs.Tree.{Trees}
use Rattle.sqlite_trees.specs.View.{IsOrdered, IsShaped}
use Rattle.sqlite_schema.specs.declared.schema.Schema.{Schema}
use Rattle.sqlite_schema.specs.declared.schema.Table.{Table}
use Rattle.sqlite_rules.proofs.ListLemmas.{all_from}
use Rattle.sqlite_catalog.specs.Listing.{AreListed, IsTableRow, is_table_row}
use Rattle.sqlite_catalog.proofs.LayoutLemmas.{table_shape}
use Rattle.sqlite_store.specs.Listed.{catalog_rows, is_listed}
use Rattle.sqlite_store.specs.Listing.{all_shapes, all_reals}
use Rattle.sqlite_store.proofs.ListingLemmas.{all_ordered}
use Rattle.sqlite_wal.specs.Recovery.{Image}
use Rattle.sqlite.specs.Files.{AreFoundIn}
use Rattle.ledger_sql.specs.Rowids.{IsNumbered}

-- the tables that a list names are of the shape of tables
tables_ordered : (db : Trees) (shapes : ℕ → Shape) (reals : ℕ → ℕ) (schema : Schema)
    → IsListed (db catalog_tree) shapes reals → IsOrdered shapes db → AreListed (db catalog_tree) schema
    → AllByRecursion (λ t. IsNumbered (db t.tree)) schema.tables
tables_ordered db shapes reals schema listed ordered are =
    let objects : IsShaped shape.Table (db catalog_tree) =
    subst (λ s. IsShaped s (db catalog_tree)) listed.itself.0 (ordered catalog_tree) in
    all_from (λ t. IsNumbered (db t.tree)) schema.tables (λ t here.
    let shaped : IsShaped shape.Table (db t.tree) =
    subst (λ s. IsShaped s (db t.tree)) (table_shape listed objects.0 are t here).0 (ordered t.tree) in
    record { rise = shaped.0; whole = shaped.1 })

-- an empty list names no tables
no_tables : (P : Table → Type 0) (objects : List Row) (tables : List Table) → objects ≡ []
    → AllZip IsTableRow (filter is_table_row objects) tables → AllByRecursion P tables
no_tables P objects [] none listed = tt
no_tables P objects (table ∷ tables) none listed =
    absurd (subst (λ rows. AllZip IsTableRow (filter is_table_row rows) (table ∷ tables)) none listed)

-- so it is of each table of a database that was found in files
pub found_ordered : (image : Image) (db : Trees) (schema : Schema) → AreFoundIn image db
    → AreListed (db catalog_tree) schema → AllByRecursion (λ t. IsNumbered (db t.tree)) schema.tables
found_ordered image db schema (inl found) are =
    let wanted = found.2 in
    let same = found.5 in
    let ordered : IsOrdered (all_shapes wanted) db =
    subst (IsOrdered (all_shapes wanted)) (sym same)
    (∥∥₁_elim found.4 (IsOrdered-prop _ _) (λ ours. all_ordered ours.file.db _)) in
    let listed : IsListed (db catalog_tree) (all_shapes wanted) (all_reals wanted) =
    subst (λ (objects : List Row). IsListed objects (all_shapes wanted) (all_reals wanted))
    (sym (catalog_rows _ wanted _) ∙ ap (λ (trees : Trees). trees catalog_tree) (sym same)) (is_listed wanted) in
    tables_ordered db (all_shapes wanted) (all_reals wanted) schema listed ordered are
found_ordered image db schema (inr nothing) are =
    no_tables (λ t. IsNumbered (db t.tree)) (db catalog_tree) schema.tables nothing.1.1 are.tables
